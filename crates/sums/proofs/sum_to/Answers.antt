use Rattle.std.proofs.Common.{refl, sym, ◌∙◌, arith}
use Rattle.laws.specs.Rows.{sum_more}
use Rattle.rules.specs.Rows.{sum}
use Rattle.sums.proofs.sum_to.Goals as goal
use Rattle.sums.proofs.sum_to.Goals.{then-counts, else-counts}

pub loop-i-init : goal.loop-i-init
unfolding sum
loop-i-init c = (omega arith, refl)

pub loop-i-preserved : goal.loop-i-preserved
loop-i-preserved c = let s = sym c.sorts_before-counts.ensures in
    let n = rw c.table.ensures at c.job_count-i-end.ensures in
    elim c.if-counts.branch [
      | then-counts w ↦ (
        omega (arith, w.total-is, c.loop-i.invariant.0, c.requires.1.most c.loop-i.i (omega (arith, n))),
        simp (sum_more, s ∙ w.if-counts.true) (omega (arith, w.total-is)),
      )
      | else-counts w ↦ (omega arith, simp (sum_more, s ∙ w.if-counts.false) (omega arith))
    ]
