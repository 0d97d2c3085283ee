-- `text::write` meets its promise: an answer for each way out.
use Rattle.std.proofs.lemmas.Result.{err_from_is_err_and}
use Rattle.laws.specs.Text.{AllCounted, counted_is}
use Rattle.rules.specs.Text.{job_part, arc_part, section_part}
use Rattle.text.proofs.Answers.{no_jobs, no_arcs, no_sections, no_room, writes}
use Rattle.text.proofs.write.Goals as goal
use Rattle.text.proofs.write.Goals.{In_ok-judge-3}

pub returns-in_err-judge : goal.returns-in_err-judge
returns-in_err-judge c = let p = err_from_is_err_and c.from_residual.result c.from_residual.ensures.1 in
    rw (p.1, p.2) (no_jobs _ _ (rw c.jobs.ensures at c.in_err-judge.ensures))

pub returns-in_err-judge-2 : goal.returns-in_err-judge-2
returns-in_err-judge-2 c = let p = err_from_is_err_and c.from_residual-in_err-judge-2.result c.from_residual-in_err-judge-2.ensures.1 in
    rw (p.1, p.2) (no_arcs _ _ (rw c.jobs.ensures at c.in_ok-judge.ensures) (rw c.arcs.ensures at c.in_err-judge-2.ensures))

pub returns-in_err-judge-3 : goal.returns-in_err-judge-3
returns-in_err-judge-3 c = let p = err_from_is_err_and c.from_residual-in_err-judge-3.result c.from_residual-in_err-judge-3.ensures.1 in
    rw (p.1, p.2) (no_sections _ _ (rw c.jobs.ensures at c.in_ok-judge.ensures) (rw c.arcs.ensures at c.in_ok-judge-2.ensures)
    (rw c.sections.ensures at c.in_err-judge-3.ensures))

-- all three lists are right
all : (c : In_ok-judge-3) → AllCounted c.args.table.now
all c = record {
  jobs = counted_is job_part _ (rw c.jobs.ensures at c.in_ok-judge.ensures);
  arcs = counted_is arc_part _ (rw c.arcs.ensures at c.in_ok-judge-2.ensures);
  sections = counted_is section_part _ (rw c.sections.ensures at c.in_ok-judge-3.ensures);
}

pub returns-then-out-needed : goal.returns-then-out-needed
returns-then-out-needed c = no_room _ _ (all (goal.at.returns-then-out-needed c).In_ok-judge-3) c.text_length-needed.ensures c.if-out-needed.true

pub returns : goal.returns
returns c = writes _ _ (all (goal.at.returns c).In_ok-judge-3) c.text_length-needed.ensures c.if-out-needed.false c.put_text.ensures
