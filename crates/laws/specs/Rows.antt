-- Laws of what is said of rows: all, any, counts, sums, the largest, the smallest, the lowest.
use Rattle.std.specs.Prelude.{◌≡◌, ◌≢◌, Bool, cond, Option, None, Some}
use Rattle.std.proofs.Math.Path.{refl, ap}
use Rattle.std.proofs.Common.{sym, ◌∙◌, ⊎_elim}
use Rattle.std.proofs.Math.Bool.{true, false}
use Prim.Native.Nat.{ℕ, zero, suc, ◌+◌, ◌*◌, ◌≤◌, ◌<◌, min, max}
use Rattle.std.proofs.Math.Numerals.{add-one}
use Rattle.std.proofs.Math.Decide.{ℕ_discrete, dec_lt}
use native.Mathlib.Omega.{arith}
use Rattle.rules.specs.Rows.{all, any, count, sum, largest, smallest, or_else, lowest}
use Rattle.laws.specs.Tests.{Says, so, not_so, clash, says_map, says_and, says_or, yes_says, no_says, yes_of, no_of, bool_says}

-- what holds of each row below n, and of n, holds of each below n + 1
pub below_suc : (P : ℕ → Type 0) (n : ℕ) → ((k : ℕ) → k < n → P k) → P n → (k : ℕ) → k < suc n → P k
below_suc P n h p k q = elim (ℕ_discrete k n) [ yes e ↦ rw e p | no d ↦ h k (omega arith) ]

-- ---- all and any, as facts

module _ (P Q : ℕ → Type 0) (f : ℕ → Bool) (w : (i : ℕ) → Says (P i) (Q i) (f i)) where
  -- all pass, or one fails, and which
  pub all_says : (n : ℕ) → Says ((i : ℕ) → i < n → P i) ((i : ℕ) × (i < n) × Q i) (all f n)
  unfolding all
  all_says zero = so (λ i l. absurd (omega arith))
  all_says (suc n) =
      says_map
      (λ h. below_suc P n h.0 h.1)
      (⊎_elim (λ v. (v.0, omega (arith, v.1), v.2)) (λ v. (n, omega arith, v)))
      (says_and (all_says n) (w n))

  -- one passes, and which, or all fail
  pub any_says : (n : ℕ) → Says ((i : ℕ) × (i < n) × P i) ((i : ℕ) → i < n → Q i) (any f n)
  unfolding any
  any_says zero = not_so (λ i l. absurd (omega arith))
  any_says (suc n) =
      says_map
      (⊎_elim (λ v. (v.0, omega (arith, v.1), v.2)) (λ v. (n, omega arith, v)))
      (λ h. below_suc Q n h.0 h.1)
      (says_or (any_says n) (w n))

module _ (f : ℕ → Bool) where
  pub all-at : (n : ℕ) → all f n ≡ true → (k : ℕ) → k < n → f k ≡ true
  all-at n = yes_says (all_says _ _ f (λ i. bool_says (f i)) n)

  pub all_from : (n : ℕ) → ((k : ℕ) → k < n → f k ≡ true) → all f n ≡ true
  all_from n h = yes_of (all_says _ _ f (λ i. bool_says (f i)) n) (λ w. clash (h w.0 w.1) w.2)

  pub all-not : (n k : ℕ) → k < n → f k ≡ false → all f n ≡ false
  all-not n k h e = no_of (all_says _ _ f (λ i. bool_says (f i)) n) (λ w. clash (w k h) e)

  pub any-from : (n k : ℕ) → k < n → f k ≡ true → any f n ≡ true
  any-from n k h e = yes_of (any_says _ _ f (λ i. bool_says (f i)) n) (λ w. clash e (w k h))

  pub any_none : (n : ℕ) → ((k : ℕ) → k < n → f k ≡ false) → any f n ≡ false
  any_none n h = no_of (any_says _ _ f (λ i. bool_says (f i)) n) (λ w. clash w.2 (h w.0 w.1))

  pub any-not : (n : ℕ) → any f n ≡ false → (k : ℕ) → k < n → f k ≡ false
  any-not n = no_says (any_says _ _ f (λ i. bool_says (f i)) n)

  -- for a loop: a turn more, and the end
  pub all_next : (n : ℕ) → all f n ≡ true → f n ≡ true → all f (n + 1) ≡ true
  unfolding all
  all_next n p q = simp (add-one, p, q)

  pub all_end : (i n : ℕ) → n ≤ i → all f i ≡ true → all f n ≡ true
  all_end i n h p = all_from n (λ k q. all-at i p k (omega arith))

  pub any_next : (n : ℕ) → any f n ≡ false → f n ≡ false → any f (n + 1) ≡ false
  unfolding any
  any_next n p q = simp (add-one, p, q)

  pub any_end : (i n : ℕ) → n ≤ i → any f i ≡ false → any f n ≡ false
  any_end i n h p = any_none n (λ k q. any-not i p k (omega arith))

-- ---- the step at the code's n + 1

module _ (f : ℕ → Bool) (n : ℕ) where
  pub count_more : count f (n + 1) ≡ count f n + cond (f n) 1 0
  unfolding count
  count_more = rw add-one

pub sum_more : (f : ℕ → ℕ) (n : ℕ) → sum f (n + 1) ≡ sum f n + f n
unfolding sum
sum_more f n = rw add-one

pub smallest_more : (passes : ℕ → Bool) (f : ℕ → ℕ) (base n : ℕ)
    → smallest passes f base (n + 1) ≡ cond (passes n) (min (smallest passes f base n) (f n)) (smallest passes f base n)
unfolding smallest
smallest_more passes f base n = rw add-one

-- ---- rows that agree

module _ (f g : ℕ → Bool) where
  pub all_ext : (n : ℕ) → ((k : ℕ) → k < n → f k ≡ g k) → all f n ≡ all g n
  unfolding all
  all_ext zero same = refl
  all_ext (suc n) same = rw (all_ext n (λ k l. same k (omega arith)), same n (omega arith))

  pub any_ext : (n : ℕ) → ((k : ℕ) → k < n → f k ≡ g k) → any f n ≡ any g n
  unfolding any
  any_ext zero same = refl
  any_ext (suc n) same = rw (any_ext n (λ k l. same k (omega arith)), same n (omega arith))

  pub count_ext : (n : ℕ) → ((k : ℕ) → k < n → f k ≡ g k) → count f n ≡ count g n
  unfolding count
  count_ext zero same = refl
  count_ext (suc n) same = rw (count_ext n (λ k l. same k (omega arith)), same n (omega arith))

  pub lowest_ext : (n : ℕ) → ((k : ℕ) → k < n → f k ≡ g k) → lowest f n ≡ lowest g n
  unfolding lowest
  lowest_ext zero same = refl
  lowest_ext (suc n) same = rw (lowest_ext n (λ k l. same k (omega arith)), same n (omega arith))

pub sum_ext : (f g : ℕ → ℕ) (n : ℕ) → ((k : ℕ) → k < n → f k ≡ g k) → sum f n ≡ sum g n
unfolding sum
sum_ext f g zero same = refl
sum_ext f g (suc n) same = omega (arith, sum_ext f g n (λ k l. same k (omega arith)), same n (omega arith))

-- ---- sums

module _ (f g : ℕ → ℕ) where
  pub sum_le : (n : ℕ) → ((k : ℕ) → k < n → f k ≤ g k) → sum f n ≤ sum g n
  unfolding sum
  sum_le zero h = omega arith
  sum_le (suc n) h = omega (arith, sum_le n (λ k l. h k (omega arith)), h n (omega arith))

  -- one row strictly less
  pub sum_lt : (n x : ℕ) → x < n → f x < g x → ((k : ℕ) → k < n → f k ≤ g k) → sum f n < sum g n
  unfolding sum
  sum_lt zero x l s h = absurd (omega arith)
  sum_lt (suc n) x l s h =
      elim (ℕ_discrete x n) [
        | yes e ↦ omega (arith, sum_le n (λ k l. h k (omega arith)), rw e at s)
        | no e ↦ omega (arith, sum_lt n x (omega arith) s (λ k l. h k (omega arith)), h n (omega arith))
      ]

  -- one row raised by one
  pub sum_grows : (x n : ℕ) → x < n → g x ≡ suc (f x) → ((k : ℕ) → k ≢ x → g k ≡ f k) → sum g n ≡ suc (sum f n)
  unfolding sum
  sum_grows x zero l up same = absurd (omega arith)
  sum_grows x (suc n) l up same =
      elim (ℕ_discrete x n) [
        | yes e ↦ omega (arith, sum_ext g f n (λ k l. same k (omega arith)), rw e at up)
        | no e ↦ omega (arith, sum_grows x n (omega arith) up same, same n (λ k. e (sym k)))
      ]

  -- all rows but one
  pub sum_but_one : (x n : ℕ) → x < n → ((k : ℕ) → k < n → k ≢ x → f k ≤ g k) → sum f n ≤ f x + sum g n
  unfolding sum
  sum_but_one x zero l h = absurd (omega arith)
  sum_but_one x (suc n) l h =
      elim (ℕ_discrete x n) [
        | yes e ↦ omega (arith, sum_le n (λ k l. h k (omega arith) (omega arith)), ap f e)
        | no e ↦ omega (arith, sum_but_one x n (omega arith) (λ k l. h k (omega arith)), h n (omega arith) (λ k. e (sym k)))
      ]

pub sum_term : (f : ℕ → ℕ) (n k : ℕ) → k < n → f k ≤ sum f n
unfolding sum
sum_term f zero k l = absurd (omega arith)
sum_term f (suc n) k l = elim (ℕ_discrete k n) [ yes e ↦ rw e (omega arith) | no e ↦ omega (arith, sum_term f n k (omega arith)) ]

pub sum_most : (f : ℕ → ℕ) (m n : ℕ) → ((k : ℕ) → k < n → f k ≤ m) → sum f n ≤ m * n
unfolding sum
sum_most f m zero h = omega arith
sum_most f m (suc n) h = omega (arith, sum_most f m n (λ k q. h k (omega arith)), h n (omega arith))

pub sum-none : (f : ℕ → ℕ) (n : ℕ) → ((k : ℕ) → k < n → f k ≡ 0) → sum f n ≡ 0
sum-none f n h = let z : sum f n ≤ 0 * n = sum_most f 0 n (λ k l. omega (arith, h k l)) in omega arith

-- ---- counts

-- a count is the sum of ones
pub count-sum : (f : ℕ → Bool) (n : ℕ) → count f n ≡ sum (λ k. cond (f k) 1 0) n
unfolding count sum
count-sum f zero = refl
count-sum f (suc n) = rw (count-sum f n)

pub bit_le : (a b : Bool) → (a ≡ true → b ≡ true) → cond a 1 0 ≤ cond b 1 0
bit_le true b h = rw (h refl) (omega arith)
bit_le false b h = omega arith

pub count_most : (f : ℕ → Bool) (n : ℕ) → count f n ≤ n
count_most f n =
    rw (count-sum f n) (omega (arith, sum_most (λ k. cond (f k) 1 0) 1 n (λ k l. bit_le (f k) true (λ e. refl))))

pub count_none : (f : ℕ → Bool) (n : ℕ) → ((k : ℕ) → k < n → f k ≡ false) → count f n ≡ 0
count_none f n h = rw (count-sum f n) (sum-none (λ k. cond (f k) 1 0) n (λ k l. rw (h k l)))

-- fewer rows pass f than g, where all that pass f pass g and one passes g alone
pub count_lt : (f g : ℕ → Bool) (n x : ℕ) → x < n → f x ≡ false → g x ≡ true → ((k : ℕ) → f k ≡ true → g k ≡ true) → count f n < count g n
count_lt f g n x l p q h =
    rw (count-sum f n, count-sum g n)
    (sum_lt (λ k. cond (f k) 1 0) (λ k. cond (g k) 1 0) n x l (rw (p, q) (omega arith)) (λ k l. bit_le (f k) (g k) (h k)))

-- ---- the largest and the smallest

-- what holds of the value so far, and where a row passes of the value with it, holds after the row's turn
turn : (P : ℕ → Type 0) (b : Bool) (so_far with_it : ℕ) → P so_far → (b ≡ true → P with_it) → P (cond b with_it so_far)
turn P true so_far with_it p q = q refl
turn P false so_far with_it p q = p

-- rows that are the same where they pass have the same turn
same_turn : (op : ℕ → ℕ → ℕ) (b : Bool) (m v w : ℕ) → (b ≡ true → v ≡ w) → cond b (op m v) m ≡ cond b (op m w) m
same_turn op true m v w e = rw (e refl)
same_turn op false m v w e = refl

module _ (passes : ℕ → Bool) (f : ℕ → ℕ) (base : ℕ) where
  pub largest_base : (n : ℕ) → base ≤ largest passes f base n
  unfolding largest
  largest_base zero = omega arith
  largest_base (suc n) = turn (λ x. base ≤ x) (passes n) _ _ (largest_base n) (λ e. omega (arith, largest_base n))

  pub smallest_base : (n : ℕ) → smallest passes f base n ≤ base
  unfolding smallest
  smallest_base zero = omega arith
  smallest_base (suc n) = turn (λ x. x ≤ base) (passes n) _ _ (smallest_base n) (λ e. omega (arith, smallest_base n))

  pub largest-at : (n k : ℕ) → k < n → passes k ≡ true → f k ≤ largest passes f base n
  unfolding largest
  largest-at zero k l e = absurd (omega arith)
  largest-at (suc n) k l e =
      elim (ℕ_discrete k n) [
        | yes q ↦ rw q (rw (ap passes (sym q) ∙ e) (omega arith))
        | no q ↦ let ih = largest-at n k (omega arith) e in turn (λ x. f k ≤ x) (passes n) _ _ ih (λ p. omega arith)
      ]

  pub smallest-at : (n k : ℕ) → k < n → passes k ≡ true → smallest passes f base n ≤ f k
  unfolding smallest
  smallest-at zero k l e = absurd (omega arith)
  smallest-at (suc n) k l e =
      elim (ℕ_discrete k n) [
        | yes q ↦ rw q (rw (ap passes (sym q) ∙ e) (omega arith))
        | no q ↦ let ih = smallest-at n k (omega arith) e in turn (λ x. x ≤ f k) (passes n) _ _ ih (λ p. omega arith)
      ]

  -- it is no more than what bounds the base and each row that passes
  pub largest_most : (n m : ℕ) → base ≤ m → ((k : ℕ) → k < n → passes k ≡ true → f k ≤ m) → largest passes f base n ≤ m
  unfolding largest
  largest_most zero m b h = b
  largest_most (suc n) m b h =
      let ih = largest_most n m b (λ k l. h k (omega arith)) in
      turn (λ x. x ≤ m) (passes n) _ _ ih (λ e. omega (arith, h n (omega arith) e))

  pub smallest_least : (n m : ℕ) → m ≤ base → ((k : ℕ) → k < n → passes k ≡ true → m ≤ f k) → m ≤ smallest passes f base n
  unfolding smallest
  smallest_least zero m b h = b
  smallest_least (suc n) m b h =
      let ih = smallest_least n m b (λ k l. h k (omega arith)) in
      turn (λ x. m ≤ x) (passes n) _ _ ih (λ e. omega (arith, h n (omega arith) e))

module _ (passes passes' : ℕ → Bool) (f g : ℕ → ℕ) (base : ℕ) where
  pub largest_ext : (n : ℕ) → ((k : ℕ) → k < n → passes k ≡ passes' k) → ((k : ℕ) → k < n → passes k ≡ true → f k ≡ g k)
      → largest passes f base n ≡ largest passes' g base n
  unfolding largest
  largest_ext zero same eq = refl
  largest_ext (suc n) same eq =
      rw (← same n (omega arith), largest_ext n (λ k l. same k (omega arith)) (λ k l. eq k (omega arith)))
      (same_turn max (passes n) (largest passes' g base n) (f n) (g n) (eq n (omega arith)))

  pub smallest_ext : (n : ℕ) → ((k : ℕ) → k < n → passes k ≡ passes' k) → ((k : ℕ) → k < n → passes k ≡ true → f k ≡ g k)
      → smallest passes f base n ≡ smallest passes' g base n
  unfolding smallest
  smallest_ext zero same eq = refl
  smallest_ext (suc n) same eq =
      rw (← same n (omega arith), smallest_ext n (λ k l. same k (omega arith)) (λ k l. eq k (omega arith)))
      (same_turn min (passes n) (smallest passes' g base n) (f n) (g n) (eq n (omega arith)))

-- ---- the lowest

-- what an answer says
abbrev pub Lowest : (ℕ → Bool) → ℕ → Option ℕ → Type 0
Lowest f n None = (k : ℕ) → k < n → f k ≡ false
Lowest f n (Some i) = (i < n) × (f i ≡ true) × ((k : ℕ) → k < i → f k ≡ false)

module _ (f : ℕ → Bool) where
  lowest_turn : (n : ℕ) (o : Option ℕ) (b : Bool) → f n ≡ b → Lowest f n o → Lowest f (suc n) (or_else o b n)
  unfolding or_else
  lowest_turn n (Some k) b e h = (omega arith, h.1, h.2)
  lowest_turn n None true e h = (omega arith, e, h)
  lowest_turn n None false e h = below_suc _ n h e

  pub lowest-told : (n : ℕ) → Lowest f n (lowest f n)
  unfolding lowest
  lowest-told zero = λ k h. absurd (omega arith)
  lowest-told (suc n) = lowest_turn n (lowest f n) (f n) refl (lowest-told n)

  -- only one answer is so
  lowest-one : (n : ℕ) (a b : Option ℕ) → Lowest f n a → Lowest f n b → a ≡ b
  lowest-one n None None p q = refl
  lowest-one n None (Some j) p q = clash q.1 (p j q.0)
  lowest-one n (Some i) None p q = clash p.1 (q i p.0)
  lowest-one n (Some i) (Some j) p q =
      elim (dec_lt i j) [
        | yes h ↦ clash p.1 (q.2 i h)
        | no g ↦ elim (dec_lt j i) [ yes h ↦ clash q.1 (p.2 j h) | no h ↦ ap Some (omega arith) ]
      ]

  -- what a loop finds by an early return is the definition's answer
  pub lowest-is : (n : ℕ) (a : Option ℕ) → Lowest f n a → a ≡ lowest f n
  lowest-is n a h = lowest-one n a (lowest f n) h (lowest-told n)
