-- The stores are those of `advance_by`, with or without the end of the job.
use Rattle.std.proofs.Common.{◌≡◌, ◌∙◌, ap, sym, arith}
use Rattle.rules.specs.Table.{cost}
use Rattle.rules.specs.Tick.{ends_stale}
use Rattle.ticks.specs.Marks.{ticks_end, ticks_go_on}
use Rattle.ticks.proofs.give_ticks.Goals as goal
use Rattle.ticks.proofs.give_ticks.Goals.{After-cost-cost}

costs : (c : After-cost-cost) → c.cost-cost.result ≡ cost c.args.plan.now.table c.args.job
costs c = c.cost-cost.ensures ∙ ap (λ t. cost t c.args.job) c.table.ensures

pub overflow_add-done : goal.overflow_add-done
overflow_add-done c = let e = costs (goal.at.overflow_add-done c).After-cost-cost in omega (arith, c.requires.ticks_bound)

pub returns-then-done-cost-clause-becomes : goal.returns-then-done-cost-clause-becomes
unfolding ends_stale
returns-then-done-cost-clause-becomes c =
    ticks_end _ _ _ _ _ _
    (c.if-done-cost.true ∙ costs (goal.at.returns-then-done-cost-clause-becomes c).After-cost-cost)
    (rw c.at.ensures at c.mark_at_end.ensures)

pub returns-else-done-cost-clause-becomes : goal.returns-else-done-cost-clause-becomes
returns-else-done-cost-clause-becomes c =
    ticks_go_on _ _ _ _ _ (λ e. c.if-done-cost.false (e ∙ sym (costs (goal.at.returns-else-done-cost-clause-becomes c).After-cost-cost)))
