-- The loop has the shares of the jobs passed.
use Rattle.sums.specs.Sums.{Shares}
use Rattle.sums.proofs.shares.Given as goal

abbrev pub invariant-loop-i : goal.invariant-loop-i
invariant-loop-i l = Shares l.plan l.m l.i l.shares
