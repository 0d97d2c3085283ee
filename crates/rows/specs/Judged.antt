-- What the entries promise: the first fault that the rules in order find, spoken through 01's number and place.
use Rattle.std.specs.Prelude.{◌≡◌, Bool, [], ◌∷◌, ◌++◌, Option, Result}
use Rattle.std.proofs.Common.{sym, ◌∙◌}
use Rattle.rules.specs.Rows.{lowest}
use Rattle.rules.specs.Table.{Table, section_count}
use Rattle.rules.specs.Refusals.{Fault, first_of, at_row, accepted, count_faults, row_faults, clashes}
use Rattle.rules.specs.declared.Refusal.{Refusal}
use Rattle.laws.specs.Answers.{fault_in, fault_in_settles}

-- what 2 to 7 find
unfoldable pub values_fault : Table → Option Fault
unfolding count_faults row_faults
values_fault t = first_of (count_faults t ++ row_faults t)

-- what 2 to 8 find
unfoldable pub clashes_fault : Table → Option Fault
unfolding count_faults row_faults lowest clashes
clashes_fault t = first_of (count_faults t ++ (row_faults t ++ (at_row 8 (lowest (clashes t) (section_count t)) ∷ [])))

-- ---- the promises settle the answers

pub values_settled : (t : Table) {a b : Result (Unit {0}) Refusal} → fault_in a ≡ values_fault t → fault_in b ≡ values_fault t → a ≡ b
values_settled t {a} {b} p q = fault_in_settles a b (p ∙ sym q)

pub values_right_settled : (t : Table) {a b : Bool} → a ≡ accepted (values_fault t) → b ≡ accepted (values_fault t) → a ≡ b
values_right_settled t p q = p ∙ sym q

pub clashes_settled : (t : Table) {a b : Result (Unit {0}) Refusal} → fault_in a ≡ clashes_fault t → fault_in b ≡ clashes_fault t → a ≡ b
clashes_settled t {a} {b} p q = fault_in_settles a b (p ∙ sym q)
