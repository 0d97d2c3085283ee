-- The ticks up to the stop, and then the release that comes before; a single tick needs no look at releases.
use Rattle.std.proofs.Common.{◌≡◌, ◌∙◌, ◌+◌, arith}
use Rattle.events.specs.Events.{next_release, most_free, stop_of, stop_after, free_one, free_to}
use Rattle.rules.specs.Table.{job_count, executed, section_count}
use Rattle.events.proofs.ticks_free.Goals as goal
use Rattle.events.proofs.ticks_free.Goals.{After-min-most, After-next_release-release}

most_is : (c : After-min-most) → c.min-most.result ≡ most_free c.args.plan.now c.args.state.now c.args.end c.args.job
most_is c = rw (← c.executed-executed.ensures, ← c.table.ensures, ← c.next_stop.ensures, ← c.tick.ensures) c.min-most.ensures

released : (c : After-next_release-release)
    → c.next_release-release.result.0 ≡ next_release c.args.plan.now c.args.state.now.tick (c.args.state.now.tick + c.min-most.result) (job_count c.args.plan.now.table)
released c = rw (← c.tick.ensures) c.next_release-release.ensures

pub overflow_sub-own : goal.overflow_sub-own
overflow_sub-own c =
    let e : c.next_stop.result ≡ stop_of c.args.plan.now c.args.state.now c.args.job = rw (← c.executed-executed.ensures, ← c.table.ensures) c.next_stop.ensures in
    rw c.executed-executed.ensures
    (omega (arith, c.requires.left.0, stop_after c.args.plan.now.table c.args.job (executed c.args.state.now c.args.job) (section_count c.args.plan.now.table)))

pub returns-then-most-eq1 : goal.returns-then-most-eq1
returns-then-most-eq1 c = free_one _ _ _ _ _ (most_is (goal.at.returns-then-most-eq1 c).After-min-most) c.if-most-eq1.true

pub returns : goal.returns
returns c = let here = goal.at.returns c in
    c.since.ensures ∙ rw c.tick.ensures (free_to _ _ _ _ _ _ (most_is here.After-min-most) (released here.After-next_release-release))
