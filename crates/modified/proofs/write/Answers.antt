use Rattle.std.proofs.Common.{arith}
use Rattle.modified.specs.Rounds.{pairs_none, pairs_more}
use Rattle.modified.proofs.write.Goals as goal

pub loop-j-init : goal.loop-j-init
loop-j-init c = pairs_none _ _ _

pub loop-j-preserved : goal.loop-j-preserved
loop-j-preserved c = pairs_more _ _ _ _ _ (omega arith) c.loop-j.invariant
