-- The answers to its three parts make up the judgement.
use Rattle.std.proofs.Common.{◌≡◌, rules, refl, sym, ◌∙◌, ap, arith, eq-eqb, ne_eqb}
use Rattle.laws.specs.Ranges.{all_rows}
use Rattle.plan.specs.Bounds.{parts, few_jobs}
use Rattle.rules.specs.Refusals.{times_right}
use Rattle.rules.specs.Table.{job_count}
use Rattle.plan.proofs.plan_in_bounds.Goals as goal
use Rattle.plan.proofs.plan_in_bounds.Goals.{After-job_count-n}

job_total : (c : After-job_count-n) → c.job_count-n.result ≡ job_count c.args.plan.now.table
job_total c = c.job_count-n.ensures ∙ ap job_count c.table-table.ensures

pub returns-then-not-values_right : goal.returns-then-not-values_right
returns-then-not-values_right c = parts _ c.table-table.ensures (sym c.if-not-values_right.true ∙ c.values_right.ensures) refl refl

pub overflow_mul-n : goal.overflow_mul-n
overflow_mul-n c = omega (arith, few_jobs _ (sym c.if-not-values_right.false ∙ c.values_right.ensures))

pub returns-then-times-n : goal.returns-then-times-n
returns-then-times-n c =
    let n = job_total (goal.at.returns-then-times-n c).After-job_count-n in
    parts _ c.table-table.ensures
    (sym c.if-not-values_right.false ∙ c.values_right.ensures)
    (sym (eq-eqb _ _ (cc (c.if-times-n.true, n, c.times.ensures))))
    (all_rows (times_right c.args.plan.now) _ c.all.ensures.ran (rw n) (λ x q k. search rules) (λ x q k. search rules))

pub returns-else-times-n : goal.returns-else-times-n
returns-else-times-n c =
    let n = job_total (goal.at.returns-else-times-n c).After-job_count-n in
    ne_eqb _ _ c.if-times-n.false
    ∙ parts _ c.table-table.ensures
    (sym c.if-not-values_right.false ∙ c.values_right.ensures)
    (sym (ne_eqb _ _ (λ e. c.if-times-n.false (cc (e, n, c.times.ensures)))))
    refl
