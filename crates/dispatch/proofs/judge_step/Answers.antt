-- 12 by bounds or by the last tick, then 13, else nothing.
use Rattle.std.proofs.Common.{◌≡◌, ◌<◌, sym, ◌∙◌, true, arith}
use Rattle.dispatch.specs.Judged.{in_bounds, both, unfit, too_late, over, ready, state_same}
use Rattle.rules.specs.Refusals.{all_finished}
use Rattle.rules.specs.Table.{last_tick}
use Rattle.dispatch.proofs.judge_step.Goals as goal
use Rattle.dispatch.proofs.judge_step.Goals.{Else-not-in_bounds, Else-last, After-all_finished}

judged : (c : Else-not-in_bounds) → in_bounds c.args.plan.now c.args.state.now ≡ true
judged c = sym c.in_bounds.ensures ∙ c.if-not-in_bounds.false

asked : (c : After-all_finished) → c.all_finished.result ≡ all_finished c.args.plan.now c.args.state.now
unfolding all_finished
asked c = rw (← c.executed.ensures, ← c.table.ensures) c.all_finished.ensures

pub returns-then-not-in_bounds : goal.returns-then-not-in_bounds
returns-then-not-in_bounds c = unfit _ _ (sym c.in_bounds.ensures ∙ c.if-not-in_bounds.true)

pub returns-then-last : goal.returns-then-last
returns-then-last c = too_late _ _ (judged (goal.at.returns-then-last c).Else-not-in_bounds) (rw c.tick-last.ensures at c.if-last.true)

early : (c : Else-last) → c.args.state.now.tick < last_tick
early c = omega (arith, c.tick-last.ensures)

pub all_finished-requires : goal.all_finished-requires
all_finished-requires c =
    rw (c.executed.ensures, c.table.ensures)
    (state_same _ _ (both _ _ (judged (goal.at.all_finished-requires c).Else-not-in_bounds)).1).by_job

pub returns-then-all_finished : goal.returns-then-all_finished
returns-then-all_finished c = let here = goal.at.returns-then-all_finished c in
    over _ _ (judged here.Else-not-in_bounds) (early here.Else-last) (sym (asked here.After-all_finished) ∙ c.if-all_finished.true)

pub returns : goal.returns
returns c = let here = goal.at.returns c in
    ready _ _ (judged here.Else-not-in_bounds) (early here.Else-last) (sym (asked here.After-all_finished) ∙ c.if-all_finished.false)
