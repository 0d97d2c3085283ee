-- The smallest release after the tick of the jobs gone through.
use Rattle.std.proofs.Common.{◌≡◌}
use Rattle.events.specs.Events.{next_release}
use Rattle.events.proofs.next_release.Given as goal

abbrev pub invariant-loop-j : goal.invariant-loop-j
invariant-loop-j l = l.next.0 ≡ next_release l.plan l.tick.0 l.initial.next.0 l.j
