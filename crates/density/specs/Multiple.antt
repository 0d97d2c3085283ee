-- The common multiple of all relative deadlines, as the code finds it: stopped where it exceeds its limit.
use Rattle.std.specs.Prelude.{◌≡◌, Option, None, Some}
use Rattle.std.proofs.Math.Path.{refl}
use Rattle.std.proofs.Common.{◌∙◌, le-div_iff_mul-le, div-lt_iff_lt-mul, add-one}
use Prim.Native.Nat.{ℕ, zero, suc, ◌+◌, ◌*◌, ◌/◌, ◌≤◌, ◌<◌}
use Rattle.std.proofs.Math.Decide.{ℕ_discrete}
use native.Mathlib.Omega.{arith}
use Rattle.rules.specs.Table.{Plan, span}
use Rattle.rules.specs.Density.{gcd, lcm, multiple_to, most_multiple}
use Rattle.density.specs.Divides.{Divides, Lcm, gcd-some, lcm-is, lcm-some, divides_le, divides_trans}

-- What the code says of a multiple: it, or nothing where it exceeds the limit.
abbrev pub Tells : ℕ → Option ℕ → Type 0
Tells m (Some l) = (l ≡ m) × (m ≤ most_multiple)
Tells m None = most_multiple < m

pub told-within : (m l : ℕ) (r : Option ℕ) → Tells m r → r ≡ Some l → (l ≡ m) × (m ≤ most_multiple)
told-within m l r t e = rw e at t

pub told_over : (m : ℕ) (r : Option ℕ) → Tells m r → r ≡ None → most_multiple < m
told_over m r t e = rw e at t

-- ---- one more number: `q > limit / b` for `q * b > limit`, which could wrap

module _ (a b g : ℕ) (h : 0 < b) (e : g ≡ gcd a b) where
  pub divisor_above : 0 < g
  divisor_above = rw e (gcd-some a b h)

  pub lcm-within : a / g ≤ most_multiple / b → (a / g * b ≡ lcm a b) × (lcm a b ≤ most_multiple)
  unfolding lcm
  lcm-within k = (rw e, rw (← e) ((le-div_iff_mul-le h).0 k))

  pub lcm_beyond : most_multiple / b < a / g → most_multiple < lcm a b
  unfolding lcm
  lcm_beyond k = rw (← e) ((div-lt_iff_lt-mul h).0 k)

-- ---- all of them

module _ (p : Plan) where
  pub multiple-none : multiple_to p 0 ≡ 1
  unfolding multiple_to
  multiple-none = refl

  pub multiple_more : (n : ℕ) → multiple_to p (n + 1) ≡ lcm (multiple_to p n) (span p n)
  unfolding multiple_to
  multiple_more n = rw (add-one n)

  multiple-suc : (n : ℕ) → Lcm (multiple_to p n) (span p n) (multiple_to p (suc n))
  unfolding multiple_to
  multiple-suc n = lcm-is (multiple_to p n) (span p n)

  pub multiple-some : (n : ℕ) → ((j : ℕ) → j < n → 0 < span p j) → 0 < multiple_to p n
  unfolding multiple_to
  multiple-some zero h = omega arith
  multiple-some (suc n) h = lcm-some (multiple_to p n) (span p n) (multiple-some n (λ j l. h j (omega arith))) (h n (omega arith))

  -- a partial multiple divides the whole one
  pub multiple_part : (k n : ℕ) → k ≤ n → Divides (multiple_to p k) (multiple_to p n)
  multiple_part k zero h = let e : k ≡ 0 = omega arith in rw e (record { times = 1; is = omega arith })
  multiple_part k (suc n) h =
      elim (ℕ_discrete k (suc n)) [
        | yes e ↦ rw e (record { times = 1; is = omega arith })
        | no d ↦ divides_trans (multiple_part k n (omega arith)) (multiple-suc n).left
      ]

  -- each number divides it, and it divides what they all divide
  pub multiple_each : (n j : ℕ) → j < n → Divides (span p j) (multiple_to p n)
  multiple_each n j h = divides_trans (multiple-suc j).right (multiple_part (suc j) n h)

  pub multiple_divides : (n m : ℕ) → ((j : ℕ) → j < n → Divides (span p j) m) → Divides (multiple_to p n) m
  unfolding multiple_to
  multiple_divides zero m h = record { times = m; is = omega arith }
  multiple_divides (suc n) m h = (multiple-suc n).least m (multiple_divides n m (λ j l. h j (omega arith))) (h n (omega arith))

  -- so the loop may stop as soon as a partial multiple exceeds the limit
  pub multiple-stops : (k n : ℕ) → k ≤ n → ((j : ℕ) → j < n → 0 < span p j) → most_multiple < multiple_to p k → most_multiple < multiple_to p n
  multiple-stops k n h s l = omega (arith, divides_le (multiple-some n s) (multiple_part k n h))

  -- ---- a turn of the loop, which has the multiple of the jobs before j, and what the code found of one more

  module _ (j m d : ℕ) (r : Option ℕ) (x : m ≡ multiple_to p j) (y : d ≡ span p j) (t : Tells (lcm m d) r) where
    pub multiple_turn : (l : ℕ) → r ≡ Some l → (l ≡ multiple_to p (j + 1)) × (l ≤ most_multiple)
    multiple_turn l e =
        let h = told-within (lcm m d) l r t e in
        (h.0 ∙ rw (multiple_more j, x, y), omega (arith, h.0, h.1))

    pub multiple-over : (n : ℕ) → j < n → ((j : ℕ) → j < n → 0 < span p j) → r ≡ None → most_multiple < multiple_to p n
    multiple-over n h s e =
        multiple-stops (j + 1) n (omega arith) s (rw (multiple_more j, ← x, ← y) (told_over (lcm m d) r t e))

  pub multiple_end : (i n m : ℕ) → i ≤ n → n ≤ i → m ≡ multiple_to p i → m ≤ most_multiple → Tells (multiple_to p n) (Some m)
  multiple_end i n m h k e l =
      let q : i ≡ n = omega arith in
      let x : m ≡ multiple_to p n = rw (← q) e in
      (x, rw (← x) l)
