-- Invariant: each job has what k rounds give it, at most k costs above 1,000,000, so the next round's sums fit.
use Rattle.modified.specs.Rounds.{Holds, round_to}
use Rattle.modified.proofs.rounds.Given as goal

abbrev pub invariant-loop-k : goal.invariant-loop-k
invariant-loop-k l = Holds l.table (round_to l.table l.way l._k) l.old
