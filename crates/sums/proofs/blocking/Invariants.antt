-- The loop has the longest of the sections passed that count.
use Rattle.std.proofs.Common.{◌≡◌, ◌≤◌}
use Rattle.rules.specs.Table.{most_cost}
use Rattle.sums.specs.Sums.{blocking_at}
use Rattle.sums.proofs.blocking.Given as goal

abbrev pub invariant-loop-s : goal.invariant-loop-s
invariant-loop-s l = (l.b ≤ most_cost) × (l.b ≡ blocking_at l.plan l.d.0 l.s)
