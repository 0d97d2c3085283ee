-- Invariant: the words hold the chains whose inner jobs are below k.
use Rattle.cycles.specs.Chains.{Reached}
use Rattle.cycles.proofs.reached.Given as goal

abbrev pub invariant-loop-k : goal.invariant-loop-k
invariant-loop-k l = Reached l.table l.k l.words
