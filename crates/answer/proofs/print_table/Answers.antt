-- A refusal's lines, or the accepted table's plan run and printed.
use Rattle.std.proofs.Common.{◌≡◌, refl, ◌≤◌, take, true}
use Rattle.answer.specs.Stages.{not-planned, was_planned}
use Rattle.rules.specs.Refusals.{check, gives, plan_of, plan_in_bounds}
use Rattle.answer.proofs.print_table.Goals as goal
use Rattle.answer.proofs.print_table.Goals.{In-Ok}

-- what is known where there are times
known : (c : In-Ok) → let t = c.args.table in
    (check t ≡ gives (plan_of t))
    × (c.in-Ok.n ≤ 128)
    × (take c.in-Ok.n c.plan.new.times ≡ (plan_of t).times)
    × (plan_in_bounds (plan_of t) ≡ true)
known c = was_planned c.args.table _ _ refl _ (rw c.in-Ok.is at c.plan.ensures)

pub print_plan-requires-clause-in_bounds : goal.print_plan-requires-clause-in_bounds
unfolding plan_of
print_plan-requires-clause-in_bounds c = let k = known (goal.at.print_plan-requires-clause-in_bounds c).In-Ok in
    rw (c.new.ensures, k.2) k.3

pub returns-in-Err : goal.returns-in-Err
returns-in-Err c = rw (not-planned c.args.table _ _ refl _ (rw c.in-Err.is at c.plan.ensures)) c.put_refusal.ensures

pub returns-in-Ok : goal.returns-in-Ok
unfolding plan_of
returns-in-Ok c = let k = known (goal.at.returns-in-Ok c).In-Ok in
    let o = c.print_plan.ensures in
    rw k.0 (rw (c.new.ensures, k.2) at o)
