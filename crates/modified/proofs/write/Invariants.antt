-- Invariant: the pairs of the jobs gone through stand in front of the rest of the lent list.
use Rattle.std.proofs.Common.{◌++◌, ◌≡◌, ◌*◌, drop}
use Rattle.modified.specs.Rounds.{pairs_to}
use Rattle.modified.proofs.write.Given as goal

abbrev pub invariant-loop-j : goal.invariant-loop-j
invariant-loop-j l = l.times ≡ pairs_to l.releases l.tails l.j ++ drop (2 * l.j) l.initial.times
