-- What a chain over a range of rows answers, in the words of 01's rows.
use Rattle.std.specs.Prelude.{◌≡◌, Bool, true, false, ℕ, ◌≤◌, ◌<◌, List, length, get_or, Option, Some, None}
use Rattle.std.proofs.Common.{sym, ◌∙◌, subst, arith}
use Rattle.std.specs.declared.ops.Range.{Range}
use Rattle.std.specs.Fn.{Called, CalledAt}
use Rattle.std.specs.Iterator.{YieldsThen}
use Rattle.std.specs.Bool.{⊤, MatchBool}
use Rattle.std.specs.List.{range_with_len, FoldsTo, AllWithin, HoldsAt}
use Rattle.std.specs.Option.{MatchOption}
use Rattle.std.proofs.iter.Yields.{nat_range_steps}
use Rattle.std.proofs.lemmas.Iterator.{cases_from_all, cases_from_any, first_from_Range, YieldsList-from_range}
use Rattle.std.proofs.lemmas.List.FromFn.{length-range_with_len, get_or-range_with_len}
use denote.Param.Members.{Mut}
use denote.Ref.{Bor}
use Rattle.rules.specs.Rows.{all, any, lowest}
use Rattle.laws.specs.Rows.{all_from, all-not, any-from, any_none, lowest-is}

row_at : (n k : ℕ) → k < n → get_or (range_with_len 0 n) k 0 ≡ k
row_at n k l = get_or-range_with_len 0 n k 0 l ∙ omega arith

-- what is said of each row of a range is said of each number below its end
module _ (P : ℕ → Type 0) (n : ℕ) where
  within : AllWithin P (range_with_len 0 n) 0 (length (range_with_len 0 n)) → (k : ℕ) → k < n → P k
  within h k l = subst P (row_at n k l) (h k 0 (omega arith) (omega (arith, length-range_with_len 0 n)))

  one : (k : ℕ) × (k < length (range_with_len 0 n)) × HoldsAt P (range_with_len 0 n) k → (k : ℕ) × (k < n) × P k
  one (k, l, h) = let m : k < n = omega (arith, length-range_with_len 0 n) in (k, m, subst P (row_at n k m) (h 0))

-- `(0..n).all(test)`: whether every row below n passes
pub all_rows : {F : Type 0} {g : Mut F (ℕ × Unit {0}) Bool} (f : ℕ → Bool) (n : ℕ) {s u : Range ℕ} {c : F} {r : Bool}
    → (xs : List ℕ) × (o : Option ℕ) × (j : F) × YieldsThen nat_range_steps s xs o u × FoldsTo (λ p x q. Called g p (x, tt) true q) c xs j × MatchOption o (r ≡ true) (λ x. (r ≡ false) × ((h : F) × Called g j (x, tt) false h))
    → s ≡ record { start = 0; end = n }
    → ((x : ℕ) (q : F) → Called g c (x, tt) true q → (q ≡ c) × (f x ≡ true))
    → ((x : ℕ) (q : F) → Called g c (x, tt) false q → f x ≡ false)
    → r ≡ all f n
all_rows f n {u = u} {c = c} {r = r} ran e passes fails =
    go r (cases_from_all u c r (λ x. f x ≡ true) (λ x. f x ≡ false) ran (YieldsList-from_range 0 n n e (omega arith)) passes fails)
  where
    go : (b : Bool) → MatchBool b (AllWithin (λ x. f x ≡ true) (range_with_len 0 n) 0 (length (range_with_len 0 n))) ((k : ℕ) × (k < length (range_with_len 0 n)) × HoldsAt (λ x. f x ≡ false) (range_with_len 0 n) k) → b ≡ all f n
    go true h = sym (all_from f n (within (λ x. f x ≡ true) n h))
    go false h = let w = one (λ x. f x ≡ false) n h in sym (all-not f n w.0 w.1 w.2)

-- `(0..n).any(test)`: whether some row below n passes
pub any_rows : {F : Type 0} {g : Mut F (ℕ × Unit {0}) Bool} (f : ℕ → Bool) (n : ℕ) {s u : Range ℕ} {c : F} {r : Bool}
    → (xs : List ℕ) × (o : Option ℕ) × (j : F) × YieldsThen nat_range_steps s xs o u × FoldsTo (λ p x q. Called g p (x, tt) false q) c xs j × MatchOption o (r ≡ false) (λ x. (r ≡ true) × ((h : F) × Called g j (x, tt) true h))
    → s ≡ record { start = 0; end = n }
    → ((x : ℕ) (q : F) → Called g c (x, tt) true q → f x ≡ true)
    → ((x : ℕ) (q : F) → Called g c (x, tt) false q → (q ≡ c) × (f x ≡ false))
    → r ≡ any f n
any_rows f n {u = u} {c = c} {r = r} ran e passes fails =
    go r (cases_from_any u c r (λ x. f x ≡ true) (λ x. f x ≡ false) ran (YieldsList-from_range 0 n n e (omega arith)) passes fails)
  where
    go : (b : Bool) → MatchBool b ((k : ℕ) × (k < length (range_with_len 0 n)) × HoldsAt (λ x. f x ≡ true) (range_with_len 0 n) k) (AllWithin (λ x. f x ≡ false) (range_with_len 0 n) 0 (length (range_with_len 0 n))) → b ≡ any f n
    go true h = let w = one (λ x. f x ≡ true) n h in sym (any-from f n w.0 w.1 w.2)
    go false h = sym (any_none f n (within (λ x. f x ≡ false) n h))

-- `(0..n).find(test)`: the lowest row below n that passes
pub lowest_row : {F : Type 0} {g : Mut F (Bor ℕ × Unit {0}) Bool} (f : ℕ → Bool) (n : ℕ) {s : Range ℕ} (u : Range ℕ) {c : F} {r : Option ℕ}
    → (xs : List ℕ) × (j : F) × YieldsThen nat_range_steps s xs r u × FoldsTo (λ p x q. CalledAt g p x false q) c xs j × MatchOption r ⊤ (λ x. (h : F) × CalledAt g j x true h)
    → s ≡ record { start = 0; end = n }
    → ((x : ℕ) (q : F) → CalledAt g c x true q → f x ≡ true)
    → ((x : ℕ) (q : F) → CalledAt g c x false q → (q ≡ c) × (f x ≡ false))
    → r ≡ lowest f n
lowest_row f n {s} u {c} {r} ran e passes fails =
    go r (first_from_Range s u c r (λ x. f x ≡ true) (λ x. f x ≡ false) ran passes fails)
  where
    go : (o : Option ℕ) → MatchOption o ((k : ℕ) → s.start ≤ k → k < s.end → f k ≡ false) (λ i. (s.start ≤ i) × (i < s.end) × (f i ≡ true) × ((k : ℕ) → s.start ≤ k → k < i → f k ≡ false)) → o ≡ lowest f n
    go None h = lowest-is f n None (λ k l. (rw e at h) k (omega arith) l)
    go (Some i) h = let w = rw e at h in lowest-is f n (Some i) (w.1, w.2, λ k l. w.3 k (omega arith) l)
