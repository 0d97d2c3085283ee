use Rattle.std.proofs.Common.{refl, arith}
use Rattle.rules.specs.Rows.{largest}
use Rattle.sums.specs.Sums.{blocking_more}
use Rattle.sums.proofs.blocking.Goals as goal

pub loop-s-init : goal.loop-s-init
unfolding largest
loop-s-init c = (omega arith, refl)

pub loop-s-preserved : goal.loop-s-preserved
loop-s-preserved c = (
  c.longer-b.ensures.1,
  blocking_more c.args.plan.now c.args.d.0 c.loop-s.s _ _ c.loop-s.invariant.1 c.longer-b.ensures.0,
)
