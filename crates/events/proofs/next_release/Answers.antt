use Rattle.std.proofs.Common.{refl, arith, ap, ◌∙◌, ◌≡◌}
use Rattle.std.proofs.lemmas.Bool.Decides.{nat_tests}
use Rattle.events.specs.Events.{next_release}
use Rattle.laws.specs.Rows.{smallest_more}
use Rattle.rules.specs.Rows.{smallest}
use Rattle.rules.specs.Table.{job_count}
use Rattle.events.proofs.next_release.Goals as goal

pub loop-j-init : goal.loop-j-init
unfolding next_release smallest
loop-j-init c = refl

pub loop-j-preserved : goal.loop-j-preserved
unfolding next_release
loop-j-preserved c = rw (smallest_more, ← c.loop-j.invariant, ← c.release-release.ensures) (grind (arith, nat_tests))

pub returns : goal.returns
returns c =
    let e : c.job_count-j-end.result ≡ job_count c.args.plan.now.table = c.job_count-j-end.ensures ∙ ap job_count c.table.ensures in
    let n : c.loop-j.j ≡ job_count c.args.plan.now.table = omega arith in
    rw n at c.loop-j.invariant
