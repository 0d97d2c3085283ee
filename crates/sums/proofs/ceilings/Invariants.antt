-- The loop has the smallest span of the sections passed, for each resource.
use Rattle.sums.specs.Sums.{Ceilings}
use Rattle.sums.proofs.ceilings.Given as goal

abbrev pub invariant-loop-s : goal.invariant-loop-s
invariant-loop-s l = Ceilings l.plan l.s l.ceilings
