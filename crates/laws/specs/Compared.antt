-- What the comparisons of instants and spans answer: those of their numbers.
use Rattle.std.specs.Prelude.{◌≡◌, Bool, true, false, ℕ, ◌≤◌, ◌<◌, ltb, leb}
use Rattle.std.proofs.Common.{sym, ◌∙◌, rules, ltb-true, ltb-false, leb-true, leb-false}
use Rattle.std.specs.Ordering.{nat_cmp, is_lt, is_le}

pub lt_is : (a b : ℕ) → is_lt (nat_cmp a b) ≡ ltb a b
lt_is a b = search rules

pub le_is : (a b : ℕ) → is_le (nat_cmp a b) ≡ leb a b
le_is a b = search rules

-- the answer to `a < b`, and to `a <= b`, as a fact
module _ (a b : ℕ) {r : Bool} where
  pub less : r ≡ is_lt (nat_cmp a b) → r ≡ true → a < b
  less e f = ltb-true a b (sym (lt_is a b) ∙ sym e ∙ f)

  pub not_less : r ≡ is_lt (nat_cmp a b) → r ≡ false → b ≤ a
  not_less e f = ltb-false a b (sym (lt_is a b) ∙ sym e ∙ f)

  pub at_most : r ≡ is_le (nat_cmp a b) → r ≡ true → a ≤ b
  at_most e f = leb-true a b (sym (le_is a b) ∙ sym e ∙ f)

  pub above : r ≡ is_le (nat_cmp a b) → r ≡ false → b < a
  above e f = leb-false a b (sym (le_is a b) ∙ sym e ∙ f)
