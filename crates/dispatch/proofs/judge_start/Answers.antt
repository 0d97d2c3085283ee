-- 12, then room for each list, else nothing.
use Rattle.std.proofs.Common.{◌≡◌, sym, ◌∙◌, ap, true}
use Rattle.dispatch.specs.Promise.{start_unfit, start_short, start_ready}
use Rattle.laws.specs.Tests.{lt_says, says_or, yes_says, no_says}
use Rattle.rules.specs.Refusals.{plan_in_bounds}
use Rattle.rules.specs.Table.{job_count}
use Rattle.dispatch.proofs.judge_start.Goals as goal
use Rattle.dispatch.proofs.judge_start.Goals.{Else-not-plan_in_bounds, After-job_count-n}

plan_right : (c : Else-not-plan_in_bounds) → plan_in_bounds c.args.plan.now ≡ true
plan_right c = sym c.plan_in_bounds.ensures ∙ c.if-not-plan_in_bounds.false

jobs : (c : After-job_count-n) → c.job_count-n.result ≡ job_count c.args.plan.now.table
jobs c = c.job_count-n.ensures ∙ ap job_count c.table.ensures

pub returns-then-not-plan_in_bounds : goal.returns-then-not-plan_in_bounds
returns-then-not-plan_in_bounds c = start_unfit _ _ _ _ (sym c.plan_in_bounds.ensures ∙ c.if-not-plan_in_bounds.true)

pub returns-then-short : goal.returns-then-short
returns-then-short c = let here = goal.at.returns-then-short c in
    start_short _ _ _ _ (plan_right here.Else-not-plan_in_bounds)
    (yes_says (says_or (lt_says _ _) (says_or (lt_says _ _) (lt_says _ _))) (rw (jobs here.After-job_count-n) at c.if-short.true))

pub returns : goal.returns
returns c = let here = goal.at.returns c in
    let (x, w) = no_says (says_or (lt_says _ _) (says_or (lt_says _ _) (lt_says _ _))) (rw (jobs here.After-job_count-n) at c.if-short.false) in
    start_ready _ _ _ _ (plan_right here.Else-not-plan_in_bounds) x w.0 w.1
