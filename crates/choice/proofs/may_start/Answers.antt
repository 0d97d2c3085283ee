-- All sections are asked.
use Rattle.std.proofs.Common.{rules, refl, ap, ◌∙◌}
use Rattle.laws.specs.Ranges.{all_rows}
use Rattle.rules.specs.Rows.{all}
use Rattle.rules.specs.Table.{section_count}
use Rattle.choice.specs.Fits.{clear_of}
use Rattle.choice.proofs.may_start.Goals as goal

pub returns : goal.returns
returns c =
    all_rows (clear_of c.args.plan.now c.args.span.0 c.args.units.now) _ c.all.ensures.ran refl (λ x q k. search rules) (λ x q k. search rules)
    ∙ ap (all _) (c.section_count.ensures ∙ ap section_count c.table.ensures)
