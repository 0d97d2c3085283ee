use Rattle.std.proofs.Common.{◌≡◌, ◌<◌, ap, sym, ◌∙◌, arith}
use Rattle.choice.specs.Choice.{held_start, held_skip, held_more, held_few}
use Rattle.rules.specs.Table.{section_count, resource}
use Rattle.choice.proofs.held_units.Goals as goal
use Rattle.choice.proofs.held_units.Goals.{In-loop-s, else-is_held, then-is_held}

-- there is a section s, and the resource that it names
named : (c : In-loop-s) → resource c.args.plan.now.table c.loop-s.s < 16
named c =
    let e : c.section_count-s-end.result ≡ section_count c.args.plan.now.table = c.section_count-s-end.ensures ∙ ap section_count c.table-table.ensures in
    (c.requires.1.inside c.loop-s.s (omega arith)).1

pub loop-s-init : goal.loop-s-init
loop-s-init c = (c.table-table.ensures, held_start _ _)

pub overflow_add-units : goal.overflow_add-units
overflow_add-units c = let h = named (goal.at.overflow_add-units c).In-loop-s in
    let r : c.resource-q.result ≡ resource c.args.plan.now.table c.loop-s.s = c.resource-q.ensures ∙ ap (λ t. resource t c.loop-s.s) c.loop-s.invariant.0 in
    let e : c.section_count-s-end.result ≡ section_count c.args.plan.now.table = c.section_count-s-end.ensures ∙ ap section_count c.table-table.ensures in
    omega (arith, held_few _ _ c.loop-s.invariant.1 c.resource-q.result (omega arith), c.requires.1.few)

pub loop-s-preserved : goal.loop-s-preserved
loop-s-preserved c = let (e, h) = c.loop-s.invariant in
    let there = named (goal.at.loop-s-preserved c).In-loop-s in
    elim c.if-is_held.branch [
      | then-is_held w ↦ (
        e,
        rw (w.units-is, w.resource-q.ensures, e) (held_more _ _ h (sym c.is_held.ensures ∙ w.if-is_held.true) there),
      )
      | else-is_held w ↦ (e, rw w.units-is (held_skip _ _ h (sym c.is_held.ensures ∙ w.if-is_held.false)))
    ]
