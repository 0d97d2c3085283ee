-- The choice, and how far it lasts: idle to the next release, or the job's own ticks up to the next event.
use Rattle.std.proofs.Common.{◌≡◌, refl, sym, ◌∙◌, ◌+◌, ◌<◌, ◌≤◌, arith, Some}
use Rattle.events.specs.Events.{over, later, ticks_free, skips_idle, run_quiet, run_soon, skips_run}
use Rattle.laws.specs.Chosen.{chosen-pending, chosen_left}
use Rattle.laws.specs.Events.{Quiet}
use Rattle.rules.specs.Lent.{held}
use Rattle.rules.specs.Refusals.{all_finished}
use Rattle.rules.specs.Table.{job_count}
use Rattle.rules.specs.Tick.{chosen}
use Rattle.ticks.specs.Fits.{sized}
use Rattle.events.proofs.skip.Goals as goal
use Rattle.events.proofs.skip.Goals.{After-all_finished, In-Some, After-ticks_free-ticks}

ended : (c : After-all_finished) → c.all_finished.result ≡ all_finished c.args.plan.now (held c.args.tick c.args.lists.now)
unfolding all_finished
ended c = rw (← c.at-state.ensures, ← c.executed.ensures, ← c.table.ensures) c.all_finished.ensures

runs : (c : In-Some) → chosen c.args.plan.now (held c.args.tick c.args.lists.now) ≡ Some c.in-Some.job
runs c = sym (rw c.at-state.ensures at c.choose.ensures) ∙ c.in-Some.is

in_table : (c : In-Some) → c.in-Some.job < job_count c.args.plan.now.table
in_table c = (chosen-pending _ _ _ (runs c)).0

free : (c : After-ticks_free-ticks)
    → c.ticks_free-ticks.result ≡ ticks_free c.args.plan.now (held c.args.tick c.args.lists.now) c.args.end c.in-Some.job
free c = rw c.at-state.ensures at c.ticks_free-ticks.ensures

-- so many ticks from here on are quiet, they are at least one, and they end in time
quiet : (c : After-ticks_free-ticks) → chosen c.args.plan.now (held c.args.tick c.args.lists.now) ≡ Some c.in-Some.job
    → Quiet c.args.plan.now (held c.args.tick c.args.lists.now) c.in-Some.job c.ticks_free-ticks.result
    × (0 < c.ticks_free-ticks.result)
    × (c.args.tick + c.ticks_free-ticks.result ≤ c.args.end)
quiet c r =
    let s = run_soon _ _ _ c.requires.1 _ r _ (free c) in
    (run_quiet _ _ _ c.requires.1 _ r _ (free c), s.0, s.1)

pub returns-then-all_finished-clause-next : goal.returns-then-all_finished-clause-next
returns-then-all_finished-clause-next c =
    over (sym (ended (goal.at.returns-then-all_finished-clause-next c).After-all_finished) ∙ c.if-all_finished.true) refl

pub ticks_free-ticks-requires-clause-fits : goal.ticks_free-ticks-requires-clause-fits
ticks_free-ticks-requires-clause-fits c = rw c.at-state.ensures (sized c.requires.0, in_table (goal.at.ticks_free-ticks-requires-clause-fits c).In-Some)

pub ticks_free-ticks-requires-clause-left : goal.ticks_free-ticks-requires-clause-left
ticks_free-ticks-requires-clause-left c = rw c.at-state.ensures (chosen_left _ _ _ (runs (goal.at.ticks_free-ticks-requires-clause-left c).In-Some), c.requires.1)

pub give_ticks-requires-clause-same : goal.give_ticks-requires-clause-same
give_ticks-requires-clause-same c = let f = c.requires.0 in
    (f.lists, f.arcs_fit, in_table (goal.at.give_ticks-requires-clause-same c).In-Some)

pub give_ticks-requires-clause-ticks_bound : goal.give_ticks-requires-clause-ticks_bound
give_ticks-requires-clause-ticks_bound c = let here = goal.at.give_ticks-requires-clause-ticks_bound c in
    let h = quiet here.After-ticks_free-ticks (runs here.In-Some) in
    (h.0.room, omega (arith, h.2, c.requires.2))

pub overflow_add-result : goal.overflow_add-result
overflow_add-result c = let here = goal.at.overflow_add-result c in
    let h = quiet here.After-ticks_free-ticks (runs here.In-Some) in
    record { fits = omega (arith, h.2, c.requires.2) }

pub returns-else-all_finished-clause-next : goal.returns-else-all_finished-clause-next
returns-else-all_finished-clause-next c =
    later
    (skips_idle _ _ _ c.requires.1 (sym (rw c.at-state.ensures at c.choose.ensures) ∙ c.in-None.is)
    (sym (ended (goal.at.returns-else-all_finished-clause-next c).After-all_finished) ∙ c.if-all_finished.false) _ c.next_release-release.ensures)

pub returns-in-Some-clause-next : goal.returns-in-Some-clause-next
returns-in-Some-clause-next c = let here = goal.at.returns-in-Some-clause-next c in
    let l = in_table here.In-Some in
    later
    (skips_run _ _ _ c.requires.1 _ (runs here.In-Some) _ (free here.After-ticks_free-ticks) (omega (arith, c.requires.0.lists.by_job)) _ c.give_ticks.ensures.becomes)
