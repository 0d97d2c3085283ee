-- The best of the rows gone through is one of them, and the first of those that pass.
use Rattle.std.proofs.Common.{◌≡◌, Bool, ℕ}
use Rattle.foremost.specs.Within.{Within}
use Rattle.rules.specs.Rows.{first}
use Rattle.foremost.proofs.first.Given as goal

abbrev pub invariant-loop-j : goal.invariant-loop-j
invariant-loop-j g l =
    Within l.best l.j
    × ((f : ℕ → Bool) (b : ℕ → ℕ → Bool) → ((j : ℕ) (r : Bool) → goal.P-post g l.passes j r → r ≡ f j)
    → ((i j : ℕ) (r : Bool) → goal.B-post g l.before i j r → r ≡ b i j) → l.best ≡ first b f l.j)
