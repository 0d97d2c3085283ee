-- Divisors and multiples: the rules' `gcd` is the greatest common divisor, and `lcm` the least common multiple.
use Rattle.std.specs.Prelude.{◌≡◌, refl, ℕ, zero, suc, ◌+◌, ◌*◌, ◌/◌, ◌%◌, ◌-◌, ◌≤◌, ◌<◌}
use Rattle.std.proofs.Common.{sym, ◌∙◌, ap, div-add-mod', mul-div_cancel, mul_comm, mod-lt, arith, ne_eqb}
use Rattle.std.proofs.Math.Nat.{mul-sub}
use Rattle.rules.specs.Density.{gcd_by, gcd, lcm}

-- n is d taken so many times
pub record Divides (d n : ℕ) : Type 0 where
  pub times : ℕ
  pub is : n ≡ times * d

-- g divides both, and what divides both m-fold divides g m-fold (m = 1: every common divisor divides g)
pub record Gcd (a b g : ℕ) : Type 0 where
  pub left : Divides g a
  pub right : Divides g b
  pub most : (d m : ℕ) → Divides d (m * a) → Divides d (m * b) → Divides d (m * g)

pub common : {a b g d : ℕ} → Gcd a b g → Divides d a → Divides d b → Divides d g
common {a} {b} {g} {d} G p q =
    let r = G.most d 1 (record { times = p.times; is = omega (arith, p.is) }) (record { times = q.times; is = omega (arith, q.is) }) in
    record { times = r.times; is = omega (arith, r.is) }

rest : (d x y : ℕ) → Divides d x → Divides d (x + y) → Divides d y
rest d x y p q =
    record {
      times = q.times - p.times;
      is = omega (arith, p.is, q.is, mul_comm (q.times - p.times) d ∙ mul-sub d q.times p.times);
    }

-- ---- the two ways of Euclid's recursion, for any result

divisor_zero : (a : ℕ) → Gcd a 0 a
divisor_zero a =
    record {
      left = record { times = 1; is = omega arith };
      right = record { times = 0; is = omega arith };
      most = λ d m p q. p;
    }

divisor_step : (a b g : ℕ) → Gcd b (a % b) g → Gcd a b g
divisor_step a b g G =
    let p = G.left in
    let q = G.right in
    record {
      left = record {
        times = a / b * p.times + q.times;
        is = omega (arith, div-add-mod' a b, ap (λ (x : ℕ). a / b * x) p.is, q.is);
      };
      right = p;
      most = λ d m u w.
          G.most d m w
          (rest d (a / b * (m * b)) (m * (a % b))
          (record { times = a / b * w.times; is = omega (arith, ap (λ (x : ℕ). a / b * x) w.is) })
          (record { times = u.times; is = omega (arith, u.is, ap (λ (x : ℕ). m * x) (div-add-mod' a b)) }));
    }

-- ---- the rules' gcd takes these two ways

by_zero : (n a : ℕ) → gcd_by (suc n) a 0 ≡ a
unfolding gcd_by
by_zero n a = refl

by_step : (n a b : ℕ) → 0 < b → gcd_by (suc n) a b ≡ gcd_by n b (a % b)
unfolding gcd_by
by_step n a b h = rw (ne_eqb b 0 (omega arith))

-- with more steps than b any number of steps says the same
by_enough : (n k a b : ℕ) → b < n → b < k → gcd_by n a b ≡ gcd_by k a b
by_enough zero k a b h l = absurd (omega arith)
by_enough (suc n) zero a b h l = absurd (omega arith)
by_enough (suc n) (suc k) a zero h l = by_zero n a ∙ sym (by_zero k a)
by_enough (suc n) (suc k) a (suc b) h l =
    let below = mod-lt a {m = suc b} (omega arith) in
    by_step n a (suc b) (omega arith)
    ∙ by_enough n k (suc b) (a % suc b) (omega arith) (omega arith)
    ∙ sym (by_step k a (suc b) (omega arith))

pub gcd-zero : (a : ℕ) → gcd a 0 ≡ a
unfolding gcd
gcd-zero a = by_zero 0 a

pub gcd-step : (a b : ℕ) → 0 < b → gcd a b ≡ gcd b (a % b)
unfolding gcd
gcd-step a b h =
    let below = mod-lt a h in
    by_step b a b h ∙ by_enough b (suc (a % b)) b (a % b) below (omega arith)

by_greatest : (n a b : ℕ) → b < n → Gcd a b (gcd_by n a b)
by_greatest zero a b h = absurd (omega arith)
by_greatest (suc n) a zero h = rw (by_zero n a) (divisor_zero a)
by_greatest (suc n) a (suc b) h =
    let below = mod-lt a {m = suc b} (omega arith) in
    rw (by_step n a (suc b) (omega arith)) (divisor_step a (suc b) _ (by_greatest n (suc b) (a % suc b) (omega arith)))

-- "Euclid's algorithm by remainders" gives the greatest common divisor
pub gcd-is : (a b : ℕ) → Gcd a b (gcd a b)
unfolding gcd
gcd-is a b = by_greatest (suc b) a b (omega arith)

-- ---- the least common multiple

-- l is a multiple of both, and divides every other one
pub record Lcm (a b l : ℕ) : Type 0 where
  pub left : Divides a l
  pub right : Divides b l
  pub least : (m : ℕ) → Divides a m → Divides b m → Divides l m

cancel : (x y g : ℕ) → 0 < g → x * g ≡ y * g → x ≡ y
cancel x y g h e = sym (mul-div_cancel x h) ∙ ap (λ (z : ℕ). z / g) e ∙ mul-div_cancel y h

multiple_of : (a b g : ℕ) → 0 < g → Gcd a b g → Lcm a b (a / g * b)
multiple_of a b g h G =
    let s = G.left.times in
    let t = G.right.times in
    let e : a / g ≡ s = ap (λ (z : ℕ). z / g) G.left.is ∙ mul-div_cancel s h in
    rw e
    (record {
      left = record { times = t; is = omega (arith, ap (λ (z : ℕ). s * z) G.right.is, ap (λ (z : ℕ). t * z) G.left.is) };
      right = record { times = s; is = refl };
      least = λ m x y.
          let r =
          G.most (s * b * g) m
          (record { times = y.times; is = omega (arith, ap (λ (z : ℕ). z * a) y.is, ap (λ (z : ℕ). y.times * b * z) G.left.is) })
          (record { times = x.times; is = omega (arith, ap (λ (z : ℕ). z * b) x.is, ap (λ (z : ℕ). x.times * z * b) G.left.is) }) in
          record { times = r.times; is = cancel m (r.times * (s * b)) g h (omega (arith, r.is)) };
    })

-- where the divisor is 0, both numbers are, and so is the multiple
multiple_nought : (a b g : ℕ) → g ≡ 0 → Gcd a b g → Lcm a b (a / g * b)
multiple_nought a b g z G =
    let p : a ≡ 0 = omega (arith, G.left.is, ap (λ (x : ℕ). G.left.times * x) z) in
    let q : b ≡ 0 = omega (arith, G.right.is, ap (λ (x : ℕ). G.right.times * x) z) in
    record {
      left = record { times = 0; is = omega (arith, ap (λ (x : ℕ). a / g * x) q) };
      right = record { times = a / g; is = refl };
      least = λ m x y.
          record { times = 0; is = omega (arith, x.is, ap (λ (k : ℕ). x.times * k) p) };
    }

pub lcm-is : (a b : ℕ) → Lcm a b (lcm a b)
unfolding lcm
lcm-is a b = go (gcd a b) (gcd-is a b)
  where
    go : (g : ℕ) → Gcd a b g → Lcm a b (a / g * b)
    go zero G = multiple_nought a b 0 refl G
    go (suc g) G = multiple_of a b (suc g) (omega arith) G

-- ---- what divides

pub divides_le : {d n : ℕ} → 0 < n → Divides d n → d ≤ n
divides_le {d} {n} h p = go p.times p.is
  where
    go : (t : ℕ) → n ≡ t * d → d ≤ n
    go zero e = absurd (omega arith)
    go (suc t) e = omega arith

pub divides_trans : {a b c : ℕ} → Divides a b → Divides b c → Divides a c
divides_trans p q =
    record { times = q.times * p.times; is = omega (arith, q.is, ap (λ (x : ℕ). q.times * x) p.is) }

-- what divides a number above 0 is above 0
pub divisor_some : {d n : ℕ} → 0 < n → Divides d n → 0 < d
divisor_some {d} {n} h p = go d p.is
  where
    go : (d : ℕ) → n ≡ p.times * d → 0 < d
    go zero e = absurd (omega arith)
    go (suc d) e = omega arith

-- an exact quotient
pub quotient : (d n t : ℕ) → 0 < d → n ≡ t * d → n / d ≡ t
quotient d n t h e = ap (λ (x : ℕ). x / d) e ∙ mul-div_cancel t h

pub gcd-some : (a b : ℕ) → 0 < b → 0 < gcd a b
gcd-some a b h = divisor_some h (gcd-is a b).right

-- the multiple of two numbers above 0 is above 0
pub lcm-some : (a b : ℕ) → 0 < a → 0 < b → 0 < lcm a b
lcm-some a b p q =
    divisor_some {n = a * b} (product a b p q)
    ((lcm-is a b).least (a * b) (record { times = b; is = mul_comm a b }) (record { times = a; is = refl }))
  where
    product : (a b : ℕ) → 0 < a → 0 < b → 0 < a * b
    product zero b p q = absurd (omega arith)
    product (suc a) b p q = omega arith
