use Rattle.std.proofs.Common.{arith}
use Rattle.sums.specs.Sums.{ceilings_none, ceilings_more}
use Rattle.sums.proofs.ceilings.Goals as goal

pub loop-s-init : goal.loop-s-init
loop-s-init c = ceilings_none _

pub loop-s-preserved : goal.loop-s-preserved
loop-s-preserved c = let t = c.table-table.ensures in
    let q = rw t at c.resource-q.ensures in
    let s = c.loop-s.s in
    let h = c.requires s (omega (arith, rw t at c.section_count-s-end.ensures)) in
    ceilings_more c.args.plan.now s c.loop-s.ceilings _ _ _ c.loop-s.invariant q (omega (arith, q, h.resource_in)) (rw (rw t at c.owner.ensures) at c.span.ensures) c.min.ensures
