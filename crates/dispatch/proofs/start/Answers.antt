-- A refusal writes nothing; else each front is zeros.
use Rattle.std.proofs.Common.{◌≡◌, sym, ◌∙◌, ap, None}
use Rattle.dispatch.specs.Promise.{contents, fault_for, start-room, reach_holds, start-holds}
use Rattle.rules.specs.Run.{start}
use Rattle.rules.specs.Table.{job_count}
use Rattle.laws.specs.Answers.{fault_in}
use Rattle.dispatch.proofs.start.Goals as goal
use Rattle.dispatch.proofs.start.Goals.{In_ok-judge_start, After-job_count-n}

free : (c : In_ok-judge_start) → fault_for c.args.plan.now (contents c.args.lists.now) ≡ None
free c = sym c.judge_start.ensures ∙ ap fault_in c.in_ok-judge_start.was

jobs : (c : After-job_count-n) → c.job_count-n.result ≡ job_count c.args.plan.now.table
jobs c = c.job_count-n.ensures ∙ ap job_count c.table.ensures

pub clear-requires : goal.clear-requires
clear-requires c = let here = goal.at.clear-requires c in
    rw (jobs here.After-job_count-n) (start-room _ _ _ _ (free here.In_ok-judge_start)).1

pub clear-requires-2 : goal.clear-requires-2
clear-requires-2 c = let here = goal.at.clear-requires-2 c in
    rw (jobs here.After-job_count-n) (start-room _ _ _ _ (free here.In_ok-judge_start)).2

pub clear-requires-3 : goal.clear-requires-3
clear-requires-3 c = let here = goal.at.clear-requires-3 c in
    rw (jobs here.After-job_count-n) (start-room _ _ _ _ (free here.In_ok-judge_start)).3

pub returns-clause-starts : goal.returns-clause-starts
unfolding start
returns-clause-starts c = let here = goal.at.returns-clause-starts c in
    let n = jobs here.After-job_count-n in
    record {
      is =
          reach_holds c.args.plan.now (start c.args.plan.now) (contents c.args.lists.now) _ (free here.In_ok-judge_start)
          (start-holds c.args.plan.now _ _ _ _ _ _ (rw n at c.clear.ensures) (rw n at c.clear-2.ensures) (rw n at c.clear-3.ensures));
    }
