-- Invariant: the words hold the arcs gone through.
use Rattle.cycles.specs.Chains.{Upto}
use Rattle.cycles.proofs.direct.Given as goal

abbrev pub invariant-loop-a : goal.invariant-loop-a
invariant-loop-a l = Upto l.table l.a l.words
