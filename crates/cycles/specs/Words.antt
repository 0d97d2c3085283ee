-- A word as a set of numbers below 64: i is in w where digit i of w is set.
use Rattle.std.specs.Prelude.{◌≡◌, refl, Bool, true, false, cond, ◌&&◌, ◌||◌, ℕ, zero, suc, ◌*◌, ◌/◌, ◌%◌, ◌^◌, ◌≤◌, ◌<◌, max, eqb}
use Rattle.std.proofs.Common.{◌∙◌, ap, div-one, one-mul, one-add, arith, shr-shr, shl_exact, eq-eqb, ne_eqb}
use Rattle.std.proofs.Math.Decide.{ℕ_discrete}
use Rattle.std.specs.Int.Bits.{bit_or, or_step}
use Rattle.laws.specs.Tests.{Says, so, not_so, eq_says}

-- digit i, by halving
unfoldable pub digit : ℕ → ℕ → ℕ
digit w zero = w % 2
digit w (suc i) = digit (w / 2) i

-- the word w holds job i
unfoldable pub has : ℕ → ℕ → Bool
unfolding digit
has w i = eqb (digit w i) 1

-- the word w with job i in it
unfoldable pub insert : ℕ → ℕ → ℕ
insert w i = bit_or w (2 ^ i)

-- the word with all of `next` in it, where it holds k
unfoldable pub joined : ℕ → ℕ → ℕ → ℕ
unfolding has
joined w k next = cond (has w k) (bit_or w next) w

-- ---- digits

digit-is : (w i : ℕ) → w / 2 ^ i % 2 ≡ digit w i
unfolding digit
digit-is w zero = rw div-one
digit-is w (suc i) = rw (← one-add i, ← shr-shr w 1 i) (digit-is (w / 2) i)

digit_le : (w i : ℕ) → digit w i ≤ 1
unfolding digit
digit_le w zero = omega arith
digit_le w (suc i) = digit_le (w / 2) i

digit_or : (a b i : ℕ) → digit (bit_or a b) i ≡ max (digit a i) (digit b i)
unfolding digit
digit_or a b zero = omega (arith, or_step a b)
digit_or a b (suc i) =
    let e : bit_or a b / 2 ≡ bit_or (a / 2) (b / 2) = omega (arith, or_step a b) in rw e (digit_or (a / 2) (b / 2) i)

digit_nought : (i : ℕ) → digit 0 i ≡ 0
unfolding digit
digit_nought zero = refl
digit_nought (suc i) = digit_nought i

digit_same : (i : ℕ) → digit (2 ^ i) i ≡ 1
unfolding digit
digit_same zero = refl
digit_same (suc i) = let e : 2 ^ suc i / 2 ≡ 2 ^ i = omega arith in rw e (digit_same i)

digit_other : (i j : ℕ) → (i ≡ j → ⊥) → digit (2 ^ i) j ≡ 0
unfolding digit
digit_other zero zero h = absurd (h refl)
digit_other zero (suc j) h = digit_nought j
digit_other (suc i) zero h = omega arith
digit_other (suc i) (suc j) h =
    let e : 2 ^ suc i / 2 ≡ 2 ^ i = omega arith in rw e (digit_other i j (λ q. h (ap suc q)))

-- ---- members

pub has-none : (i : ℕ) → has 0 i ≡ false
unfolding has
has-none i = rw digit_nought

-- a union holds what either holds
pub has_or : (a b i : ℕ) → has (bit_or a b) i ≡ (has a i || has b i)
unfolding has
has_or a b i = go (eq_says (digit (bit_or a b) i) 1) (eq_says (digit a i) 1) (eq_says (digit b i) 1)
  where
    go : {o x y : Bool}
        → Says (digit (bit_or a b) i ≡ 1) (digit (bit_or a b) i ≡ 1 → ⊥) o
        → Says (digit a i ≡ 1) (digit a i ≡ 1 → ⊥) x
        → Says (digit b i ≡ 1) (digit b i ≡ 1 → ⊥) y
        → o ≡ (x || y)
    go (so p) (so q) r = refl
    go (so p) (not_so q) (so r) = refl
    go (so p) (not_so q) (not_so r) = absurd (omega (arith, digit_or a b i, digit_le a i, digit_le b i))
    go (not_so p) (so q) r = absurd (omega (arith, digit_or a b i, digit_le a i, digit_le b i))
    go (not_so p) (not_so q) (so r) = absurd (omega (arith, digit_or a b i, digit_le a i, digit_le b i))
    go (not_so p) (not_so q) (not_so r) = refl

has_one : (i j : ℕ) → has (2 ^ i) j ≡ eqb i j
unfolding has
has_one i j =
    elim (ℕ_discrete i j) [
      | yes e ↦ rw (eq-eqb i j e, ← e) (eq-eqb (digit (2 ^ i) i) 1 (digit_same i))
      | no d ↦ rw (ne_eqb i j d) (ne_eqb (digit (2 ^ i) j) 1 (omega (arith, digit_other i j d)))
    ]

pub has-insert : (w i j : ℕ) → has (insert w i) j ≡ (has w j || eqb i j)
unfolding insert
has-insert w i j = has_or w (2 ^ i) j ∙ ap (λ b. has w j || b) (has_one i j)

pub or_false : (b : Bool) → b ≡ (b || false)
or_false true = refl
or_false false = refl

pub has-joined : (w k next j : ℕ) → has (joined w k next) j ≡ (has w j || (has w k && has next j))
unfolding joined
has-joined w k next j = go (has w k)
  where
    go : (b : Bool) → has (cond b (bit_or w next) w) j ≡ (has w j || (b && has next j))
    go true = has_or w next j
    go false = or_false (has w j)

-- ---- laws for the code

pub has-is : (w i : ℕ) → eqb (w / 2 ^ i % 2) 1 ≡ has w i
unfolding has
has-is w i = rw digit-is

pub insert-is : (w i : ℕ) → i < 64 → bit_or w ((1 * 2 ^ i) % 2 ^ 64) ≡ insert w i
unfolding insert
insert-is w i h = ap (bit_or w) (shl_exact 1 i 64 (omega arith) (omega arith) ∙ one-mul (2 ^ i))
