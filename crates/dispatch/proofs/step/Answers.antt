-- A refusal gives everything back; else one tick, and who ran.
use Rattle.std.proofs.Common.{◌≡◌, rules, sym, ◌∙◌, ap, arith, None}
use Rattle.dispatch.specs.Judged.{step_fit}
use Rattle.dispatch.specs.Promise.{step-refused, step_ran}
use Rattle.laws.specs.Chosen.{chosen-pending}
use Rattle.rules.specs.Lent.{held}
use Rattle.rules.specs.Refusals.{step_fault}
use Rattle.laws.specs.Answers.{fault_in}
use Rattle.dispatch.proofs.step.Goals as goal
use Rattle.dispatch.proofs.step.Goals.{In_default}

-- a step can be taken
taken : (c : In_default) → step_fault c.args.plan.now (held c.args.tick c.args.lists.now) ≡ None
taken c = sym (rw c.at.ensures at c.judge_step.ensures) ∙ ap fault_in c.in_default.is

pub returns-in-Err-clause-steps : goal.returns-in-Err-clause-steps
returns-in-Err-clause-steps c =
    record { is = step-refused _ _ _ c.in-Err.refusal (sym (rw c.at.ensures at c.judge_step.ensures) ∙ ap fault_in c.in-Err.is) }

pub one_tick-ran-requires : goal.one_tick-ran-requires
one_tick-ran-requires c = step_fit _ _ (taken (goal.at.one_tick-ran-requires c).In_default)

pub overflow_add-result : goal.overflow_add-result
overflow_add-result c = omega (arith, (step_fit _ _ (taken (goal.at.overflow_add-result c).In_default)).1)

pub map-requires : goal.map-requires
map-requires c = λ x e a b.
    let l = (chosen-pending _ _ _ (sym c.one_tick-ran.ensures.ticked.who ∙ e)).0 in
    omega (arith, (step_fit _ _ (taken (goal.at.map-requires c).In_default)).0.few_jobs)

pub returns-clause-steps : goal.returns-clause-steps
returns-clause-steps c =
    let same : c.map.result ≡ c.one_tick-ran.result = search rules in
    record { is = rw same (step_ran _ _ _ _ _ (taken (goal.at.returns-clause-steps c).In_default) c.one_tick-ran.ensures.ticked) }
