use Rattle.std.proofs.Common.{◌≡◌, ◌∙◌, ap, refl, arith}
use Rattle.laws.specs.Rows.{sum_more}
use Rattle.rules.specs.Rows.{sum}
use Rattle.rules.specs.Table.{job_count, cost}
use Rattle.states.proofs.ends.total_cost.Goals as goal

pub loop-j-init : goal.loop-j-init
unfolding sum
loop-j-init c = (omega arith, c.table-table.ensures, refl)

pub loop-j-preserved : goal.loop-j-preserved
loop-j-preserved c =
    let e : c.job_count-j-end.result ≡ job_count c.args.plan.now.table = c.job_count-j-end.ensures ∙ ap job_count c.table-table.ensures in
    let i : c.cost-total.result ≡ cost c.args.plan.now.table c.loop-j.j = c.cost-total.ensures ∙ ap (λ t. cost t c.loop-j.j) c.table-table.ensures in
    let b = c.requires.costs c.loop-j.j (omega arith) in
    (omega arith, c.table-table.ensures, rw (sum_more, ← i) (omega (arith, c.loop-j.invariant.2)))

pub returns : goal.returns
returns c =
    let e : c.job_count-j-end.result ≡ job_count c.args.plan.now.table = c.job_count-j-end.ensures ∙ ap job_count c.table-table.ensures in
    let n : c.loop-j.j ≡ job_count c.args.plan.now.table = omega arith in
    (rw n at c.loop-j.invariant.2, omega arith)
