-- 12, then 14, else the verdict over the common multiple.
use Rattle.std.proofs.Common.{arith}
use Rattle.density.specs.Bounds.{jobs_in, sections_in}
use Rattle.density.specs.Multiple.{told-within}
use Rattle.density.specs.Promise.{answers_bounds, answers_multiple, answers_place}
use Rattle.density.proofs.density.Goals as goal

pub returns-then-not-plan_in_bounds : goal.returns-then-not-plan_in_bounds
returns-then-not-plan_in_bounds c = answers_bounds c.args.plan.now c.plan_in_bounds.ensures c.if-not-plan_in_bounds.true

pub multiple-requires : goal.multiple-requires
multiple-requires c = (jobs_in c.args.plan.now c.plan_in_bounds.ensures c.if-not-plan_in_bounds.false).spans

pub returns-in-None : goal.returns-in-None
returns-in-None c = answers_multiple c.args.plan.now c.plan_in_bounds.ensures c.if-not-plan_in_bounds.false _ c.multiple.ensures c.in-None.is

pub lowest_failing-requires : goal.lowest_failing-requires
lowest_failing-requires c = let e = c.plan_in_bounds.ensures in
    let f = c.if-not-plan_in_bounds.false in
    (jobs_in c.args.plan.now e f, sections_in c.args.plan.now e f, omega (arith, told-within _ _ _ c.multiple.ensures c.in-Some.is))

pub returns-in-Some : goal.returns-in-Some
returns-in-Some c = answers_place c.args.plan.now c.plan_in_bounds.ensures c.if-not-plan_in_bounds.false _ c.multiple.ensures c.in-Some.is c.lowest_failing.ensures
