use Rattle.std.proofs.Common.{rules, get_or, ◌∙◌}
use Rattle.cycles.specs.Chains.{lowest_cycle_is}
use Rattle.cycles.specs.Words.{has}
use Rattle.laws.specs.Ranges.{lowest_row}
use Rattle.cycles.proofs.lowest_on_cycle.Goals as goal

pub returns : goal.returns
returns c =
    lowest_row (λ j. has (get_or c.reached-words.result j 0) j) _ _ c.find.ensures.ran (rw c.job_count.ensures) (λ x q k. search rules) (λ x q k. search rules)
    ∙ lowest_cycle_is _ _ c.reached-words.ensures
