-- A judged plan is not refused, and its end state is printed.
use Rattle.std.proofs.Common.{refl, ◌∙◌, ap, arith}
use Rattle.answer.specs.Stages.{never_refused, was_run, run_long, report_front}
use Rattle.laws.specs.Refusals.{bounds_rows}
use Rattle.rules.specs.Output.{report}
use Rattle.answer.proofs.print_plan.Goals as goal

pub put_report-requires-clause-reported : goal.put_report-requires-clause-reported
put_report-requires-clause-reported c = let p = c.args.plan.now in
    let (rows, pairs) = bounds_rows p c.requires.in_bounds in
    let w = run_long p _ _ c.requires.in_bounds rows.few_jobs refl refl refl _ (rw c.in-Ok.is at c.run.ensures.runs) in
    rw c.at.ensures (record { few = rows.few_jobs; times = omega arith; marks = w.0; finish = w.1 })

pub returns-in-Err : goal.returns-in-Err
returns-in-Err c = let r = (bounds_rows c.args.plan.now c.requires.in_bounds).0 in
    never_refused c.args.plan.now _ _ c.requires.in_bounds r.few_jobs refl refl refl _ (rw c.in-Err.is at c.run.ensures.runs)

pub returns-in-Ok : goal.returns-in-Ok
returns-in-Ok c = let p = c.args.plan.now in
    let r = (bounds_rows p c.requires.in_bounds).0 in
    let w = was_run p _ _ c.requires.in_bounds r.few_jobs refl refl refl _ (rw c.in-Ok.is at c.run.ensures.runs) in
    let o = c.put_report.ensures in
    o ∙ ap (report p) c.at.ensures ∙ report_front p _ _ _ _ ∙ ap (report p) w
