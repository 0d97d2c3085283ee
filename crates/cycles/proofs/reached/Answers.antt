use Rattle.std.proofs.Common.{arith}
use Rattle.cycles.specs.Chains.{reached_none, reached_more}
use Rattle.cycles.proofs.reached.Goals as goal

pub loop-k-init : goal.loop-k-init
loop-k-init c = reached_none _ _ c.requires.few c.direct-words.ensures

pub loop-k-preserved : goal.loop-k-preserved
loop-k-preserved c = reached_more _ _ _ _ _ c.job_count-n.ensures (omega arith) (omega arith) c.loop-k.invariant c.through.ensures
