-- All jobs are asked.
use Rattle.std.proofs.Common.{rules, refl, ◌∙◌, ap, get_or, eqb}
use Rattle.laws.specs.Ranges.{all_rows}
use Rattle.rules.specs.Rows.{all}
use Rattle.rules.specs.Refusals.{all_finished}
use Rattle.rules.specs.Table.{cost}
use Rattle.ticks.proofs.all_finished.Goals as goal

pub returns : goal.returns
unfolding all_finished
returns c =
    all_rows (λ j. eqb (get_or c.args.executed.now j 0) (cost c.args.table.now j)) _ c.all.ensures.ran refl (λ x q k. search rules) (λ x q k. search rules)
    ∙ ap (all _) c.job_count.ensures
