-- What the entry promises: the first fault that rules 2 to 9 find, in that order.
use Rattle.std.specs.Prelude.{◌≡◌, [], ◌∷◌, ◌++◌, Option, Result}
use Rattle.std.proofs.Common.{sym, ◌∙◌}
use Rattle.rules.specs.Rows.{lowest}
use Rattle.rules.specs.Table.{Table, job_count, section_count}
use Rattle.rules.specs.Refusals.{Fault, first_of, at_row, count_faults, row_faults, clashes, on_cycle}
use Rattle.rules.specs.declared.Refusal.{Refusal}
use Rattle.laws.specs.Answers.{fault_in, fault_in_settles}

-- what 9 finds
unfoldable pub cycle_found : Table → Option Fault
unfolding lowest on_cycle
cycle_found t = at_row 9 (lowest (on_cycle t) (job_count t))

-- what 2 to 9 find
unfoldable pub cycles_fault : Table → Option Fault
unfolding count_faults row_faults lowest clashes on_cycle
cycles_fault t =
    first_of
    (count_faults t
    ++ (row_faults t
    ++ (at_row 8 (lowest (clashes t) (section_count t)) ∷ at_row 9 (lowest (on_cycle t) (job_count t)) ∷ [])))

-- the promise settles the answer
pub cycles_settled : (t : Table) {a b : Result (Unit {0}) Refusal} → fault_in a ≡ cycles_fault t → fault_in b ≡ cycles_fault t → a ≡ b
cycles_settled t {a} {b} p q = fault_in_settles a b (p ∙ sym q)
