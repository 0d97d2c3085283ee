-- `first` finds the first: what its answer says, over any order that is irreflexive and transitive.
use Rattle.std.specs.Prelude.{◌≡◌, ◌⊎◌, Bool, true, false, cond, Option, None, Some}
use Rattle.std.proofs.Math.Path.{refl}
use Rattle.std.proofs.Common.{inl, inr, add-one, arith}
use Prim.Native.Nat.{ℕ, zero, suc, ◌+◌, ◌<◌}
use Rattle.rules.specs.Rows.{better, first}
use Rattle.laws.specs.Tests.{tested, clash}
use Rattle.laws.specs.Rows.{below_suc}

pub first_more : (before : ℕ → ℕ → Bool) (passes : ℕ → Bool) (n : ℕ) → first before passes (n + 1) ≡ better before (passes n) n (first before passes n)
unfolding first
first_more before passes n = rw add-one

-- the four ways in which `better` answers, each with what was tested
pub data Better (before : ℕ → ℕ → Bool) (n : ℕ) : Bool → Option ℕ → Option ℕ → Type 0 where
  kept : {o : Option ℕ} → Better before n false o o
  opened : Better before n true None (Some n)
  passed : {old : ℕ} → before n old ≡ true → Better before n true (Some old) (Some n)
  stayed : {old : ℕ} → before n old ≡ false → Better before n true (Some old) (Some old)

-- a way tells the answer, and each answer has a way
pub better-is : {before : ℕ → ℕ → Bool} {n : ℕ} {b : Bool} {o r : Option ℕ} → Better before n b o r → better before b n o ≡ r
unfolding better
better-is kept = refl
better-is opened = refl
better-is (passed e) = rw e
better-is (stayed e) = rw e

better_view : (before : ℕ → ℕ → Bool) (n : ℕ) (b : Bool) (o : Option ℕ) → Better before n b o (better before b n o)
unfolding better
better_view before n false o = kept
better_view before n true None = opened
better_view before n true (Some old) = go (before n old) refl
  where
    go : (b : Bool) → before n old ≡ b → Better before n true (Some old) (cond b (Some n) (Some old))
    go true e = passed e
    go false e = stayed e

-- what the laws ask of an order
pub record Order (before : ℕ → ℕ → Bool) : Type 0 where
  pub irrefl : (i : ℕ) → before i i ≡ false
  pub trans : (i j k : ℕ) → before i j ≡ true → before j k ≡ true → before i k ≡ true

-- nobody passes; or x passes, is below n, and nobody that passes comes before it
pub data FirstOf (before : ℕ → ℕ → Bool) (passes : ℕ → Bool) (n : ℕ) : Option ℕ → Type 0 where
  nobody : ((k : ℕ) → k < n → passes k ≡ false) → FirstOf before passes n None
  found : {x : ℕ} → x < n → passes x ≡ true → ((k : ℕ) → k < n → passes k ≡ true → before k x ≡ false) → FirstOf before passes n (Some x)

module _ (before : ℕ → ℕ → Bool) (passes : ℕ → Bool) (O : Order before) where
  turn : (n : ℕ) {b : Bool} {o r : Option ℕ} → Better before n b o r → passes n ≡ b → FirstOf before passes n o → FirstOf before passes (suc n) r
  turn n kept e (nobody h) = nobody (below_suc _ n h e)
  turn n kept e (found {x = x} l p h) = found {x = x} (omega arith) p (below_suc _ n h (λ q. clash q e))
  turn n opened e (nobody h) = found {x = n} (omega arith) e (below_suc _ n (λ k l q. clash q (h k l)) (λ q. O.irrefl n))
  turn n (passed {old} w) e (found l p h) =
      found {x = n} (omega arith) e (below_suc _ n (λ k l q. go k (h k l q) (tested (before k n))) (λ q. O.irrefl n))
    where
      go : (k : ℕ) → before k old ≡ false → (before k n ≡ true) ⊎ (before k n ≡ false) → before k n ≡ false
      go k f (inl t) = clash (O.trans k n old t w) f
      go k f (inr t) = t
  turn n (stayed {old} w) e (found l p h) = found {x = old} (omega arith) p (below_suc _ n h (λ q. w))

  pub first_of : (n : ℕ) → FirstOf before passes n (first before passes n)
  unfolding first
  first_of zero = nobody (λ k l. absurd (omega arith))
  first_of (suc n) = turn n (better_view before n (passes n) (first before passes n)) refl (first_of n)

-- who is found is below n and passes
pub first-told : {before : ℕ → ℕ → Bool} {passes : ℕ → Bool} {n : ℕ} {o : Option ℕ} → FirstOf before passes n o
    → (j : ℕ) → o ≡ Some j → (j < n) × (passes j ≡ true)
first-told (nobody h) j e = let z : ◌≡◌ {A = ℕ} 0 1 = cc in absurd (omega arith)
first-told (found {x} l p h) j e = let q : x ≡ j = cc in rw (← q) (l, p)

-- tests that agree find the same first
pub first_ext : (before : ℕ → ℕ → Bool) (f g : ℕ → Bool) (n : ℕ) → ((k : ℕ) → k < n → f k ≡ g k) → first before f n ≡ first before g n
unfolding first
first_ext before f g zero same = refl
first_ext before f g (suc n) same = rw (first_ext before f g n (λ k l. same k (omega arith)), same n (omega arith))
