-- The smallest end after `done` of the sections gone through.
use Rattle.std.proofs.Common.{◌≡◌}
use Rattle.events.specs.Events.{next_stop}
use Rattle.events.proofs.next_stop.Given as goal

abbrev pub invariant-loop-s : goal.invariant-loop-s
invariant-loop-s l = l.stop ≡ next_stop l.table l.job l.done l.s
