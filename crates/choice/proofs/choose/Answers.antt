-- Rules 1 to 4: the first pending job, its start or the test of the ceilings, else the first started one.
use Rattle.std.proofs.Common.{◌≡◌, ◌&&◌, rules, sym, ◌∙◌, ◌<◌, arith, Some}
use Rattle.choice.specs.Choice.{may_start_is}
use Rattle.laws.specs.Chosen.{chosen_idle, chosen_resumes, chosen-starts, chosen_detains, first-pending-told}
use Rattle.rules.specs.Table.{job_count}
use Rattle.rules.specs.Tick.{pending, started, first_pending, first_started, may_start}
use Rattle.choice.proofs.choose.Goals as goal
use Rattle.choice.proofs.choose.Goals.{After-first_job, After-may_start, In_ok-first}

-- what was found is the first pending job
found : (c : After-first_job) → c.first_job.result ≡ first_pending c.args.plan.now c.args.state.now
unfolding first_pending
found c = c.first_job.ensures (pending c.args.plan.now c.args.state.now) (λ j r k. search rules)

at_job : (c : In_ok-first) → first_pending c.args.plan.now c.args.state.now ≡ Some c.in_ok-first.first
unfolding first_pending
at_job c = sym (c.first_job.ensures (pending c.args.plan.now c.args.state.now) (λ j r k. search rules)) ∙ c.in_ok-first.was

in_table : (c : In_ok-first) → c.in_ok-first.first < job_count c.args.plan.now.table
in_table c = (first-pending-told _ _ _ (at_job c)).0

-- the test of the ceilings is the rules' own
may : (c : After-may_start) → c.may_start.result ≡ may_start c.args.plan.now c.args.state.now c.in_ok-first.first
may c = c.may_start.ensures
    ∙ may_start_is _ _ _ c.held_units-units.ensures (λ s l. (c.requires.1.inside s l).1) c.in_ok-first.first _ c.span.ensures

pub returns-in_err-first : goal.returns-in_err-first
returns-in_err-first c = let here = goal.at.returns-in_err-first c in
    c.from_residual.ensures ∙ sym (chosen_idle _ _ (sym (found here.After-first_job) ∙ c.in_err-first.was))

pub is_started-requires : goal.is_started-requires
is_started-requires c = let l = in_table (goal.at.is_started-requires c).In_ok-first in omega arith

pub span-requires : goal.span-requires
span-requires c = let l = in_table (goal.at.span-requires c).In_ok-first in omega arith

pub returns-then-is_started : goal.returns-then-is_started
returns-then-is_started c =
    sym (chosen_resumes _ _ _ (at_job (goal.at.returns-then-is_started c).In_ok-first) (sym c.is_started.ensures ∙ c.if-is_started.true))

pub returns-then-may_start : goal.returns-then-may_start
returns-then-may_start c = let here = goal.at.returns-then-may_start c in
    sym (chosen-starts _ _ _ (at_job here.In_ok-first) (sym c.is_started.ensures ∙ c.if-is_started.false) (sym (may here.After-may_start) ∙ c.if-may_start.true))

pub returns : goal.returns
unfolding first_started
returns c = let here = goal.at.returns c in
    c.first_job-2.ensures (λ j. pending c.args.plan.now c.args.state.now j && started c.args.state.now j) (λ j r k. search rules)
    ∙ sym (chosen_detains _ _ _ (at_job here.In_ok-first) (sym c.is_started.ensures ∙ c.if-is_started.false) (sym (may here.After-may_start) ∙ c.if-may_start.false))
