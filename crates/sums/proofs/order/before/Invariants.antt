-- The loop has the number of jobs passed that stand before job j.
use Rattle.std.proofs.Common.{◌≡◌, ◌≤◌}
use Rattle.rules.specs.Density.{sorts_before}
use Rattle.rules.specs.Rows.{count}
use Rattle.sums.proofs.order.before.Given as goal

abbrev pub invariant-loop-i : goal.invariant-loop-i
invariant-loop-i l = (l.k ≤ l.i) × (l.k ≡ count (λ i. sorts_before l.plan i l.j) l.i)
