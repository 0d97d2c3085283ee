-- All arcs are asked, and looking at arcs is looking at predecessors.
use Rattle.std.proofs.Common.{rules, refl, ◌∙◌, ap}
use Rattle.laws.specs.Ranges.{any_rows}
use Rattle.rules.specs.Rows.{any}
use Rattle.ticks.specs.Marks.{brings_stale, stale_by_arcs}
use Rattle.ticks.proofs.after_stale.Goals as goal

pub returns : goal.returns
returns c =
    any_rows (brings_stale c.args.table.now c.args.state.now c.args.job) _ c.any.ensures.ran refl (λ x q k. search rules) (λ x q k. search rules)
    ∙ ap (any _) c.arc_count.ensures
    ∙ stale_by_arcs _ _ _ c.requires.0
