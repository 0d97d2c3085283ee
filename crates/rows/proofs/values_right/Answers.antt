-- The tests in turn, of a table that is the lent one: up to the first that fails, or all, they make up whether anything is found.
use Rattle.std.proofs.Common.{◌≡◌, not, rules, refl, sym, ◌∙◌, ap}
use Rattle.laws.specs.Ranges.{all_rows}
use Rattle.laws.specs.Tests.{clash}
use Rattle.rules.specs.Refusals.{accepted, first_of, count_faults, arc_out, job_out, section_out}
use Rattle.rules.specs.Rows.{all}
use Rattle.rules.specs.Table.{arc_count}
use Rattle.rows.specs.Judged.{values_fault}
use Rattle.rows.specs.Stages.{ok_accepted, values_asked}
use Rattle.rows.proofs.values_right.Goals as goal
use Rattle.rows.proofs.values_right.Goals.{After-is_ok, then-is_ok, else-is_ok, then-arcs_right, else-arcs_right}

counts : (c : After-is_ok) → c.is_ok.result ≡ accepted (first_of (count_faults c.new.result))
counts c = c.is_ok.ensures.value ∙ ok_accepted _ ∙ ap accepted c.judge_counts.ensures

lent : (c : After-is_ok) → accepted (values_fault c.new.result) ≡ accepted (values_fault c.args.table.now)
lent c = ap (λ t. accepted (values_fault t)) (c.new.ensures ∙ rw (c.jobs.ensures, c.arcs.ensures, c.sections.ensures) refl)

pub returns-then-all : goal.returns-then-all
returns-then-all c = let here = (goal.at.returns-then-all c).After-is_ok in
    elim c.if-arcs_right.branch [
      | then-arcs_right w ↦
          elim c.if-is_ok.branch [
            | then-is_ok v ↦
                values_asked _
                (sym v.if-is_ok.true ∙ counts here)
                (sym w.if-arcs_right.true ∙ v.value-is ∙ v.arcs_right.ensures)
                (sym c.if-all.true ∙ w.value-is ∙ all_rows (λ j. not (job_out c.new.result j)) _ w.all.ensures.ran (rw w.job_count.ensures) (λ x q k. search rules) (λ x q k. search rules))
                (all_rows (λ s. not (section_out c.new.result s)) _ c.all-then-all.ensures.ran (rw c.section_count.ensures) (λ x q k. search rules) (λ x q k. search rules))
                ∙ lent here
            | else-is_ok v ↦ clash w.if-arcs_right.true (v.value-is ∙ v.if-is_ok.false)
          ]
      | else-arcs_right w ↦ clash c.if-all.true (w.value-is ∙ w.if-arcs_right.false)
    ]

pub returns-else-all : goal.returns-else-all
returns-else-all c = let here = (goal.at.returns-else-all c).After-is_ok in
    c.if-all.false
    ∙ elim c.if-is_ok.branch [
      | then-is_ok v ↦
          let ok = sym v.if-is_ok.true ∙ counts here in
          let arcs : c.if-is_ok.value ≡ all (λ a. not (arc_out c.new.result a)) (arc_count c.new.result) = v.value-is ∙ v.arcs_right.ensures in
          elim c.if-arcs_right.branch [
            | then-arcs_right w ↦
                values_asked _ ok
                (sym w.if-arcs_right.true ∙ arcs)
                (sym c.if-all.false ∙ w.value-is ∙ all_rows (λ j. not (job_out c.new.result j)) _ w.all.ensures.ran (rw w.job_count.ensures) (λ x q k. search rules) (λ x q k. search rules))
                refl
            | else-arcs_right w ↦ values_asked _ ok (sym w.if-arcs_right.false ∙ arcs) refl refl
          ]
      | else-is_ok v ↦ values_asked _ (sym v.if-is_ok.false ∙ counts here) refl refl refl
    ]
    ∙ lent here
