-- Counts, jobs, arcs, sections: the first find is the answer. Right counts bound the rows of each rule.
use Rattle.std.proofs.Common.{◌≡◌, rules, refl, sym, ◌∙◌, arith}
use Rattle.std.proofs.lemmas.Result.{err_from_is_err_and}
use Rattle.laws.specs.Ranges.{lowest_row}
use Rattle.rows.specs.Stages.{few_rows, found_below, values_are}
use Rattle.rules.specs.Refusals.{job_out, arc_out, section_out}
use Rattle.rules.specs.Rows.{lowest}
use Rattle.rules.specs.Table.{job_count, arc_count, section_count}
use Rattle.rows.proofs.judge_values.Goals as goal
use Rattle.rows.proofs.judge_values.Goals.{After-find, After-find-2, After-find-3}

job : (c : After-find) → c.find.result ≡ lowest (job_out c.args.table.now) (job_count c.args.table.now)
job c = lowest_row (job_out c.args.table.now) _ _ c.find.ensures.ran (rw c.job_count.ensures) (λ x q k. search rules) (λ x q k. search rules)

arc : (c : After-find-2) → c.find-2.result ≡ lowest (arc_out c.args.table.now) (arc_count c.args.table.now)
arc c = lowest_row (arc_out c.args.table.now) _ _ c.find-2.ensures.ran (rw c.arc_count.ensures) (λ x q k. search rules) (λ x q k. search rules)

section : (c : After-find-3) → c.find-3.result ≡ lowest (section_out c.args.table.now) (section_count c.args.table.now)
section c = lowest_row (section_out c.args.table.now) _ _ c.find-3.ensures.ran (rw c.section_count.ensures) (λ x q k. search rules) (λ x q k. search rules)

pub returns-in_err-judge_counts : goal.returns-in_err-judge_counts
returns-in_err-judge_counts c =
    let p = err_from_is_err_and c.from_residual.result c.from_residual.ensures.1 in
    rw (p.1, p.2) (values_are _ c.in_err-judge_counts.ensures refl refl refl)

pub overflow_cast-result : goal.overflow_cast-result
overflow_cast-result c =
    omega (arith, few_rows _ c.in_ok-judge_counts.ensures, found_below _ _ (sym c.in-Some.is ∙ job (goal.at.overflow_cast-result c).After-find))

pub returns-in-Some : goal.returns-in-Some
returns-in-Some c = values_are _ c.in_ok-judge_counts.ensures (sym c.in-Some.is ∙ job (goal.at.returns-in-Some c).After-find) refl refl

pub overflow_cast-result-in-Some-find : goal.overflow_cast-result-in-Some-find
overflow_cast-result-in-Some-find c =
    omega (arith, few_rows _ c.in_ok-judge_counts.ensures, found_below _ _ (sym c.in-Some-find.is ∙ arc (goal.at.overflow_cast-result-in-Some-find c).After-find-2))

pub returns-in-Some-find : goal.returns-in-Some-find
returns-in-Some-find c =
    let e = goal.at.returns-in-Some-find c in
    values_are _ c.in_ok-judge_counts.ensures (sym c.in_default.is ∙ job e.After-find) (sym c.in-Some-find.is ∙ arc e.After-find-2) refl

pub overflow_cast-result-in-Some-find-2 : goal.overflow_cast-result-in-Some-find-2
overflow_cast-result-in-Some-find-2 c =
    omega (arith, few_rows _ c.in_ok-judge_counts.ensures, found_below _ _ (sym c.in-Some-find-2.is ∙ section (goal.at.overflow_cast-result-in-Some-find-2 c).After-find-3))

pub returns-in-Some-find-2 : goal.returns-in-Some-find-2
returns-in-Some-find-2 c =
    let e = goal.at.returns-in-Some-find-2 c in
    values_are _ c.in_ok-judge_counts.ensures
    (sym c.in_default.is ∙ job e.After-find)
    (sym c.in_default-find.is ∙ arc e.After-find-2)
    (sym c.in-Some-find-2.is ∙ section e.After-find-3)

pub returns : goal.returns
returns c =
    let e = goal.at.returns c in
    values_are _ c.in_ok-judge_counts.ensures
    (sym c.in_default.is ∙ job e.After-find)
    (sym c.in_default-find.is ∙ arc e.After-find-2)
    (sym c.in_default-find-2.is ∙ section e.After-find-3)
