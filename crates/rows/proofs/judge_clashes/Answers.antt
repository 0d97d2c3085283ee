-- What 2 to 7 find is the answer, else what 8 finds.
use Rattle.std.proofs.Common.{◌≡◌, rules, refl, sym, ◌∙◌, arith}
use Rattle.std.proofs.lemmas.Result.{err_from_is_err_and}
use Rattle.laws.specs.Ranges.{lowest_row}
use Rattle.rows.specs.Stages.{few_rows, found_below, clashes_are, values_counts}
use Rattle.rules.specs.Refusals.{clashes}
use Rattle.rules.specs.Rows.{lowest}
use Rattle.rules.specs.Table.{section_count}
use Rattle.rows.proofs.judge_clashes.Goals as goal
use Rattle.rows.proofs.judge_clashes.Goals.{After-find}

section : (c : After-find) → c.find.result ≡ lowest (clashes c.args.table.now) (section_count c.args.table.now)
section c = lowest_row (clashes c.args.table.now) _ _ c.find.ensures.ran (rw c.section_count.ensures) (λ x q k. search rules) (λ x q k. search rules)

pub returns-in_err-judge_values : goal.returns-in_err-judge_values
returns-in_err-judge_values c =
    let p = err_from_is_err_and c.from_residual.result c.from_residual.ensures.1 in
    rw (p.1, p.2) (clashes_are _ c.in_err-judge_values.ensures refl)

pub overflow_cast-result : goal.overflow_cast-result
overflow_cast-result c =
    omega (
      arith,
      few_rows _ (values_counts _ c.in_ok-judge_values.ensures),
      found_below _ _ (sym c.in-Some.is ∙ section (goal.at.overflow_cast-result c).After-find),
    )

pub returns-in-Some : goal.returns-in-Some
returns-in-Some c = clashes_are _ c.in_ok-judge_values.ensures (sym c.in-Some.is ∙ section (goal.at.returns-in-Some c).After-find)

pub returns-in-None : goal.returns-in-None
returns-in-None c = clashes_are _ c.in_ok-judge_values.ensures (sym c.in-None.is ∙ section (goal.at.returns-in-None c).After-find)
