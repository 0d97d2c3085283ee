use Rattle.std.proofs.Common.{◌<◌, arith}
use Rattle.cycles.specs.Chains.{upto_none, upto_more}
use Rattle.cycles.proofs.direct.Goals as goal

pub loop-a-init : goal.loop-a-init
loop-a-init c = upto_none _

pub loop-a-preserved : goal.loop-a-preserved
loop-a-preserved c =
    let h = c.requires c.loop-a.a (omega arith) in
    let below : c.before-before.result < 64 = omega arith in
    rw c.with.ensures (upto_more _ _ _ _ _ below c.before-before.ensures c.after-after.ensures c.loop-a.invariant)
