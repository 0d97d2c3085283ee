-- The sum of the costs passed, within its bound.
use Rattle.std.proofs.Common.{◌≡◌, ◌*◌, ◌≤◌}
use Rattle.rules.specs.Rows.{sum}
use Rattle.rules.specs.Table.{cost}
use Rattle.states.proofs.ends.total_cost.Given as goal

abbrev pub invariant-loop-j : goal.invariant-loop-j
invariant-loop-j l = (l.total ≤ l.j * 100000) × (l.table ≡ l.plan.table) × (l.total ≡ sum (cost l.plan.table) l.j)
