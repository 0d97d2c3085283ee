-- Invariant: each job has the largest of its start and what the arcs gone through bring it.
use Rattle.modified.specs.Rounds.{Holds, brought_to}
use Rattle.modified.proofs.round.Given as goal

abbrev pub invariant-loop-a : goal.invariant-loop-a
invariant-loop-a l = Holds l.table (brought_to l.table l.way l.old l.a) l.new
