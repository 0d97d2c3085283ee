-- A row that was found, if one was, is below a bound; and a turn of the search.
use Rattle.std.specs.Prelude.{◌≡◌, Bool, ℕ, ◌+◌, ◌≤◌, ◌<◌, Option, None, Some}
use Rattle.std.proofs.Common.{arith}
use Rattle.rules.specs.Rows.{first, better}
use Rattle.laws.specs.First.{first_more}

-- a row that is named is below n
abbrev pub Within : Option ℕ → ℕ → Type 0
Within None n = Unit {0}
Within (Some j) n = j < n

-- a row below m is below a larger n
pub within_more : (o : Option ℕ) {m n : ℕ} → m ≤ n → Within o m → Within o n
within_more None l w = tt
within_more (Some k) l w = omega arith

-- row j was looked at, beside the best of the rows below it
pub first_goes : (before : ℕ → ℕ → Bool) (f : ℕ → Bool) (j : ℕ) (b : Bool) {o r : Option ℕ} → b ≡ f j → o ≡ first before f j
    → r ≡ better before b j o → r ≡ first before f (j + 1)
first_goes before f j b e h q = let m = first_more before f j in cc
