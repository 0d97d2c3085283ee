use Rattle.std.proofs.Common.{refl, ◌∙◌, arith, true, false}
use Rattle.foremost.specs.Within.{within_more, first_goes}
use Rattle.rules.specs.Rows.{first, better}
use Rattle.foremost.proofs.first.Goals as goal
use Rattle.foremost.proofs.first.Goals.{then-passes, else-passes}

pub loop-j-init : goal.loop-j-init
unfolding first
loop-j-init g c = (tt, λ f b p q. refl)

pub loop-j-preserved : goal.loop-j-preserved
unfolding better
loop-j-preserved g c = let (w, i) = c.loop-j.invariant in
    elim c.if-passes.branch [
      | then-passes t ↦ (
        rw t.best-is (t.turn-best.ensures.within _ (omega arith) (within_more c.loop-j.best (omega arith) w)),
        λ f b p q. first_goes b f _ true (p _ true t.if-passes.ensures) (i f b p q) (t.best-is ∙ t.turn-best.ensures.turns b q),
      )
      | else-passes t ↦ (
        rw t.best-is (within_more c.loop-j.best (omega arith) w),
        λ f b p q. first_goes b f _ false (p _ false t.if-passes.ensures) (i f b p q) t.best-is,
      )
    ]
