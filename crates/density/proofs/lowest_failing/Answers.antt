-- No job that fails is a yes; else the place of the first.
use Rattle.std.proofs.Common.{◌∙◌, ap, arith}
use Rattle.rules.specs.Table.{job_count}
use Rattle.density.specs.Promise.{no_place, place-at, job_there}
use Rattle.sums.specs.Sums.{timed}
use Rattle.density.proofs.lowest_failing.Goals as goal

pub returns-in_err-job : goal.returns-in_err-job
returns-in_err-job c = rw c.from_residual.ensures (no_place c.args.plan.now c.args.m c.first_failing.ensures c.in_err-job.was)

pub before-earlier-requires : goal.before-earlier-requires
before-earlier-requires c = let t = timed c.args.plan.now c.requires.0 in
    let h = job_there c.args.plan.now c.args.m c.first_failing.ensures c.in_ok-job.was in
    let n = c.job_count.ensures ∙ ap job_count c.table.ensures in
    (omega arith, omega arith, omega arith)

pub returns : goal.returns
returns c = let k = rw (c.job_count.ensures, c.table.ensures) at c.before-earlier.ensures.0 in
    place-at c.args.plan.now c.args.m c.first_failing.ensures c.in_ok-job.was k
