-- The first find is the answer and leaves the list as it was; where nothing is found the rounds' arrays are the modified times.
use Rattle.std.proofs.Common.{refl, ◌∙◌}
use Rattle.std.proofs.lemmas.Result.{err_from_is_err_and}
use Rattle.laws.specs.Refusals.{RowsRight}
use Rattle.modified.specs.Rounds.{holds_low}
use Rattle.plan.specs.Modified.{jobs_in, window_is, times_are, times_fit}
use Rattle.plan.specs.Promise.{cycles_rows, check_are, plan-refused, plan-put}
use Rattle.plan.proofs.plan.Goals as goal
use Rattle.plan.proofs.plan.Goals.{In_ok-judge_cycles}

-- 2 to 9 found nothing: counts and rows are right
rows : (c : In_ok-judge_cycles) → RowsRight c.args.table.now
rows c = cycles_rows _ c.in_ok-judge_cycles.ensures

pub returns-in_err-judge_cycles : goal.returns-in_err-judge_cycles
returns-in_err-judge_cycles c =
    let p = err_from_is_err_and c.from_residual.result c.from_residual.ensures.1 in
    rw (p.1, p.2) (plan-refused _ _ _ (check_are _ c.in_err-judge_cycles.ensures refl))

pub rounds-releases-requires : goal.rounds-releases-requires
rounds-releases-requires c =
    let r = rows (goal.at.rounds-releases-requires c).In_ok-judge_cycles in
    record { jobs_in = jobs_in _ r; arcs_in = r.arc_in }

pub rounds-tails-requires : goal.rounds-tails-requires
rounds-tails-requires c =
    let r = rows (goal.at.rounds-tails-requires c).In_ok-judge_cycles in
    record { jobs_in = jobs_in _ r; arcs_in = r.arc_in }

pub judge_windows-requires : goal.judge_windows-requires
judge_windows-requires c =
    let r = rows (goal.at.judge_windows-requires c).In_ok-judge_cycles in
    let j = jobs_in _ r in
    record {
      jobs_in = j;
      releases_low = holds_low _ _ _ _ j.few j r.arc_in c.rounds-releases.ensures;
      tails_low = holds_low _ _ _ _ j.few j r.arc_in c.rounds-tails.ensures;
    }

pub returns-in_err-judge_windows : goal.returns-in_err-judge_windows
returns-in_err-judge_windows c =
    let r = rows (goal.at.returns-in_err-judge_windows c).In_ok-judge_cycles in
    let w = window_is _ r _ _ c.rounds-releases.ensures c.rounds-tails.ensures in
    let p = err_from_is_err_and c.from_residual-in_err-judge_windows.result c.from_residual-in_err-judge_windows.ensures.1 in
    rw (p.1, p.2) (plan-refused _ _ _ (check_are _ c.in_ok-judge_cycles.ensures (c.in_err-judge_windows.ensures ∙ w)))

pub put_times-requires : goal.put_times-requires
put_times-requires c =
    let r = rows (goal.at.put_times-requires c).In_ok-judge_cycles in
    record { few = r.few_jobs; fit = times_fit _ r _ _ c.rounds-releases.ensures c.rounds-tails.ensures c.in_ok-judge_windows.ensures }

pub returns : goal.returns
returns c =
    let r = rows (goal.at.returns c).In_ok-judge_cycles in
    let w = window_is _ r _ _ c.rounds-releases.ensures c.rounds-tails.ensures in
    plan-put _ _ _ _ _
    (check_are _ c.in_ok-judge_cycles.ensures (c.in_ok-judge_windows.ensures ∙ w))
    (times_are _ r _ _ c.rounds-releases.ensures c.rounds-tails.ensures)
    c.put_times.ensures
