-- The largest release of the jobs passed.
use Rattle.std.proofs.Common.{◌≡◌, true, ◌≤◌}
use Rattle.rules.specs.Rows.{largest}
use Rattle.rules.specs.Table.{modified_release}
use Rattle.states.proofs.ends.last_release.Given as goal

abbrev pub invariant-loop-j : goal.invariant-loop-j
invariant-loop-j l = (l.last ≤ 1000000) × (l.last ≡ largest (λ k. true) (modified_release l.plan) 0 l.j)
