use Rattle.std.proofs.Common.{sym, arith}
use Rattle.density.specs.Multiple.{multiple-none, multiple_turn, multiple-over, multiple_end}
use Rattle.rules.specs.Table.{job_count}
use Rattle.density.proofs.multiple.multiple.Goals as goal

pub loop-j-init : goal.loop-j-init
loop-j-init c = (sym (multiple-none _), omega arith)

pub returns-in_err-m : goal.returns-in_err-m
returns-in_err-m c = let p = c.args.plan.now in
    let n = rw c.table.ensures at c.job_count-j-end.ensures in
    rw c.from_residual.ensures
    (multiple-over p c.loop-j.j _ _ _ c.loop-j.invariant.0 c.span.ensures c.lcm.ensures (job_count p.table) (omega (arith, n)) c.requires.above c.in_err-m.was)

pub loop-j-preserved : goal.loop-j-preserved
loop-j-preserved c = multiple_turn c.args.plan.now c.loop-j.j _ _ _ c.loop-j.invariant.0 c.span.ensures c.lcm.ensures _ c.in_ok-m.was

pub returns : goal.returns
returns c = let n = rw c.table.ensures at c.job_count-j-end.ensures in
    multiple_end c.args.plan.now c.loop-j.j _ _ (omega (arith, n)) (omega (arith, n)) c.loop-j.invariant.0 c.loop-j.invariant.1
