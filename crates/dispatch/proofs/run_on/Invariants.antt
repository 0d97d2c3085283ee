-- What is left of the run comes to what the whole run comes to.
use Rattle.std.proofs.Common.{◌-◌, ◌≤◌}
use Rattle.dispatch.specs.Going.{Going}
use Rattle.rules.specs.Lent.{held, SameLists}
use Rattle.rules.specs.Run.{answered}
use Rattle.ticks.specs.Fits.{Fit}
use Rattle.dispatch.proofs.run_on.Given as goal

abbrev pub invariant-loop-tick : goal.invariant-loop-tick
invariant-loop-tick l =
    (l.end ≤ 7400000)
    × Fit l.plan (held l.tick l.lists)
    × Going l.plan (held l.tick l.lists) l.end (answered l.plan l.end (held 0 l.initial.lists))
    × SameLists l.initial.lists l.lists

abbrev pub decreases-loop-tick : goal.decreases-loop-tick
decreases-loop-tick l = l.end - l.tick
