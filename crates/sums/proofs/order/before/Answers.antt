use Rattle.std.proofs.Common.{refl, sym, ◌∙◌, arith}
use Rattle.laws.specs.Rows.{count_more}
use Rattle.rules.specs.Rows.{count}
use Rattle.sums.proofs.order.before.Goals as goal
use Rattle.sums.proofs.order.before.Goals.{then-sorts_before, else-sorts_before}

pub loop-i-init : goal.loop-i-init
unfolding count
loop-i-init c = (omega arith, refl)

pub loop-i-preserved : goal.loop-i-preserved
loop-i-preserved c = let s = sym c.sorts_before.ensures in
    elim c.if-sorts_before.branch [
      | then-sorts_before w ↦ (omega arith, simp (count_more, s ∙ w.if-sorts_before.true) (omega arith))
      | else-sorts_before w ↦ (omega arith, simp (count_more, s ∙ w.if-sorts_before.false) (omega arith))
    ]
