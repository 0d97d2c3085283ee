-- After s sections the array holds the units that pending jobs hold in them.
use Rattle.std.proofs.Common.{◌≡◌}
use Rattle.choice.specs.Fits.{HeldTo}
use Rattle.choice.proofs.held_units.Given as goal

abbrev pub invariant-loop-s : goal.invariant-loop-s
invariant-loop-s l = (l.table ≡ l.plan.table) × HeldTo l.plan l.state l.s l.units
