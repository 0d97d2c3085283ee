-- The start stands in the fronts, and the run goes on in them.
use Rattle.std.proofs.Common.{length-take-le, ◌≡◌, ◌≤◌, sym, ◌∙◌, ap, true, length, None}
use Rattle.dispatch.specs.Judged.{plan_fit, bounded}
use Rattle.dispatch.specs.Promise.{contents, holding, fault_for, reach_for, start-room, start_long, reached_holds, run_holds}
use Rattle.rules.specs.Refusals.{plan_in_bounds}
use Rattle.rules.specs.Run.{start, end_state}
use Rattle.rules.specs.Table.{job_count}
use Rattle.dispatch.proofs.run.Goals as goal
use Rattle.dispatch.proofs.run.Goals.{In_ok-start, After-job_count-n}

-- the start state stands in the fronts
facts : (c : In_ok-start) → (fault_for c.args.plan.now (contents c.args.lists.now) ≡ None)
    × (contents c.start.new.lists ≡ holding (start c.args.plan.now) (contents c.args.lists.now))
facts c =
    reached_holds (start c.args.plan.now) (contents c.args.lists.now) (contents c.start.new.lists) (fault_for c.args.plan.now (contents c.args.lists.now))
    c.in_ok-start.field-0 (rw c.in_ok-start.was at c.start.ensures.starts.is)

plan_right : (c : In_ok-start) → plan_in_bounds c.args.plan.now ≡ true
plan_right c = (start-room _ _ _ _ (facts c).0).0

-- and the lists are as long as the jobs at least
roomy : (c : In_ok-start) → let n = job_count c.args.plan.now.table in let l = contents c.start.new.lists in
    (n ≤ length l.executed) × (n ≤ length l.marks) × (n ≤ length l.finish)
roomy c = start_long c.args.plan.now (contents c.args.lists.now) (contents c.start.new.lists) (facts c).1

jobs : (c : After-job_count-n) → c.job_count-n.result ≡ job_count c.args.plan.now.table
jobs c = c.job_count-n.ensures ∙ ap job_count c.table.ensures

pub slice_bounds-run_in-end : goal.slice_bounds-run_in-end
slice_bounds-run_in-end c = let here = goal.at.slice_bounds-run_in-end c in rw (jobs here.After-job_count-n) (roomy here.In_ok-start).0

pub slice_bounds-run_in-end-2 : goal.slice_bounds-run_in-end-2
slice_bounds-run_in-end-2 c = let here = goal.at.slice_bounds-run_in-end-2 c in
    rw (jobs here.After-job_count-n) (sym (length-take-le _ _ (roomy here.In_ok-start).0))

pub slice_bounds-run_in-end-3 : goal.slice_bounds-run_in-end-3
slice_bounds-run_in-end-3 c = let here = goal.at.slice_bounds-run_in-end-3 c in rw (jobs here.After-job_count-n) (roomy here.In_ok-start).1

pub slice_bounds-run_in-end-4 : goal.slice_bounds-run_in-end-4
slice_bounds-run_in-end-4 c = let here = goal.at.slice_bounds-run_in-end-4 c in
    rw (jobs here.After-job_count-n) (sym (length-take-le _ _ (roomy here.In_ok-start).1))

pub slice_bounds-run_in-end-5 : goal.slice_bounds-run_in-end-5
slice_bounds-run_in-end-5 c = let here = goal.at.slice_bounds-run_in-end-5 c in rw (jobs here.After-job_count-n) (roomy here.In_ok-start).2

pub slice_bounds-run_in-end-6 : goal.slice_bounds-run_in-end-6
slice_bounds-run_in-end-6 c = let here = goal.at.slice_bounds-run_in-end-6 c in
    rw (jobs here.After-job_count-n) (sym (length-take-le _ _ (roomy here.In_ok-start).2))

pub run_in-end-requires : goal.run_in-end-requires
run_in-end-requires c = let here = goal.at.run_in-end-requires c in
    let r = roomy here.In_ok-start in
    rw (jobs here.After-job_count-n) (
      plan_fit _ (plan_right here.In_ok-start) _
          (record {
            by_job = length-take-le _ _ r.0;
            marked = record { by_job = length-take-le _ _ r.1 };
            finished = length-take-le _ _ r.2;
          }),
      bounded _ (plan_right here.In_ok-start),
    )

pub returns-clause-runs : goal.returns-clause-runs
returns-clause-runs c = let here = goal.at.returns-clause-runs c in
    let n = jobs here.After-job_count-n in
    let r = roomy here.In_ok-start in
    let k = c.run_in-end.auto in
    record {
      is =
          rw n
          (run_holds c.args.plan.now (contents c.args.lists.now) (contents c.start.new.lists) _ _ _ _ (facts here.In_ok-start).1 (rw n at c.run_in-end.ensures)
          ((rw n at k.executed) ∙ length-take-le _ _ r.0)
          ((rw n at k.marks) ∙ length-take-le _ _ r.1)
          ((rw n at k.finish) ∙ length-take-le _ _ r.2)
          ∙ sym (ap (reach_for (end_state c.args.plan.now) (contents c.args.lists.now)) (facts here.In_ok-start).0));
    }
