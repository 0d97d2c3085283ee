use Rattle.std.proofs.Common.{◌≡◌, ◌∙◌, ap, refl, arith}
use Rattle.rules.specs.Rows.{largest}
use Rattle.rules.specs.Table.{job_count}
use Rattle.states.specs.Ends.{largest_more}
use Rattle.states.proofs.ends.last_release.Goals as goal

pub loop-j-init : goal.loop-j-init
unfolding largest
loop-j-init c = (omega arith, refl)

pub loop-j-preserved : goal.loop-j-preserved
loop-j-preserved c =
    let e : c.job_count-j-end.result ≡ job_count c.args.plan.now.table = c.job_count-j-end.ensures ∙ ap job_count c.table.ensures in
    let b = c.requires.releases c.loop-j.j (omega arith) in
    (omega (arith, c.max-last.ensures, c.release.ensures), rw (largest_more, ← c.loop-j.invariant.1, ← c.release.ensures) c.max-last.ensures)

pub returns : goal.returns
returns c =
    let e : c.job_count-j-end.result ≡ job_count c.args.plan.now.table = c.job_count-j-end.ensures ∙ ap job_count c.table.ensures in
    let n : c.loop-j.j ≡ job_count c.args.plan.now.table = omega arith in
    (rw n at c.loop-j.invariant.1, c.loop-j.invariant.0)
