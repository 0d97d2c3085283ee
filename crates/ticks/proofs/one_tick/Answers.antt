-- The choice, and what it does: idle or a given tick.
use Rattle.std.proofs.Common.{◌≡◌, sym, ◌∙◌, ◌<◌, arith, Some}
use Rattle.laws.specs.Chosen.{chosen-pending, chosen_left, tick_idle, tick_runs}
use Rattle.laws.proofs.Events.{advance-one}
use Rattle.rules.specs.Lent.{held}
use Rattle.rules.specs.Table.{job_count}
use Rattle.rules.specs.Tick.{chosen}
use Rattle.ticks.proofs.one_tick.Goals as goal
use Rattle.ticks.proofs.one_tick.Goals.{In-Some}

runs : (c : In-Some) → chosen c.args.plan.now (held c.args.tick c.args.lists.now) ≡ Some c.in-Some.job
runs c = sym (rw c.at.ensures at c.choose-ran.ensures) ∙ c.in-Some.is

in_table : (c : In-Some) → c.in-Some.job < job_count c.args.plan.now.table
in_table c = (chosen-pending _ _ _ (runs c)).0

pub give_ticks-requires-clause-same : goal.give_ticks-requires-clause-same
give_ticks-requires-clause-same c = let f = c.requires.0 in
    (f.lists, f.arcs_fit, in_table (goal.at.give_ticks-requires-clause-same c).In-Some)

pub give_ticks-requires-clause-ticks_bound : goal.give_ticks-requires-clause-ticks_bound
give_ticks-requires-clause-ticks_bound c =
    let l = chosen_left _ _ _ (runs (goal.at.give_ticks-requires-clause-ticks_bound c).In-Some) in
    (omega arith, omega arith)

pub returns-in_default-clause-ticked : goal.returns-in_default-clause-ticked
returns-in_default-clause-ticked c = let w = rw c.at.ensures at c.choose-ran.ensures in
    record { who = w; becomes = tick_idle _ _ _ (sym w ∙ c.in_default.is) }

pub returns-in-Some-clause-ticked : goal.returns-in-Some-clause-ticked
returns-in-Some-clause-ticked c = let r = runs (goal.at.returns-in-Some-clause-ticked c).In-Some in
    record { who = sym r; becomes = c.give_ticks.ensures.becomes ∙ advance-one _ _ _ _ ∙ tick_runs _ _ _ _ r }
