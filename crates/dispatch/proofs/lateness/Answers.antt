-- 12 by bounds or by the job, else what `late_at` says.
use Rattle.std.proofs.Common.{◌≡◌, ◌<◌, sym, ◌∙◌, ap, true, arith}
use Rattle.dispatch.specs.Judged.{in_bounds, both, state_in, state_same, deadline_in}
use Rattle.dispatch.specs.Promise.{late_unfit, late_nobody, late_known}
use Rattle.rules.specs.Refusals.{gives}
use Rattle.rules.specs.Table.{job_count}
use Rattle.dispatch.proofs.lateness.Goals as goal
use Rattle.dispatch.proofs.lateness.Goals.{Else-not-in_bounds, After-job_count, Else-job_count-j}

judged : (c : Else-not-in_bounds) → in_bounds c.args.plan.now c.args.state.now ≡ true
judged c = sym c.in_bounds.ensures ∙ c.if-not-in_bounds.false

in_table : (c : Else-job_count-j) → c.args.job < job_count c.args.plan.now.table
in_table c = let e = c.job_count.ensures ∙ ap job_count c.table.ensures in omega arith

pub returns-then-not-in_bounds : goal.returns-then-not-in_bounds
returns-then-not-in_bounds c = record { is = late_unfit _ _ _ (sym c.in_bounds.ensures ∙ c.if-not-in_bounds.true) }

pub returns-then-job_count-j : goal.returns-then-job_count-j
returns-then-job_count-j c = let e = c.job_count.ensures ∙ ap job_count c.table.ensures in
    record { is = late_nobody _ _ _ (judged (goal.at.returns-then-job_count-j c).Else-not-in_bounds) (omega arith) }

pub late_at-requires-clause-j_in_bounds : goal.late_at-requires-clause-j_in_bounds
late_at-requires-clause-j_in_bounds c = let here = goal.at.late_at-requires-clause-j_in_bounds c in
    (state_same _ _ (both _ _ (judged here.Else-not-in_bounds)).1, in_table here.Else-job_count-j)

pub late_at-requires-clause-j_bound : goal.late_at-requires-clause-j_bound
late_at-requires-clause-j_bound c = let here = goal.at.late_at-requires-clause-j_bound c in
    let (a, b) = both _ _ (judged here.Else-not-in_bounds) in
    let l = in_table here.Else-job_count-j in
    (((state_in _ _ b).job_in c.args.job l).finish_in, deadline_in _ a c.args.job l)

pub returns : goal.returns
returns c = let here = goal.at.returns c in
    record { is = ap gives c.late_at.ensures ∙ late_known _ _ _ (judged here.Else-not-in_bounds) (in_table here.Else-job_count-j) }
