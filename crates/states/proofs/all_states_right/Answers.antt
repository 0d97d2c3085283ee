-- All jobs are asked.
use Rattle.std.proofs.Common.{rules, refl, ◌∙◌, ap, []}
use Rattle.laws.specs.Ranges.{all_rows}
use Rattle.rules.specs.Lists.{with_times}
use Rattle.rules.specs.Refusals.{job_state_right}
use Rattle.rules.specs.Rows.{all}
use Rattle.states.proofs.all_states_right.Goals as goal

pub returns : goal.returns
returns c =
    all_rows (job_state_right (with_times c.args.table.now []) c.args.state.now) _ c.all.ensures.ran refl (λ x q k. search rules) (λ x q k. search rules)
    ∙ ap (all _) c.job_count.ensures
