-- A refusal's lines, or what the table that was read comes to.
use Rattle.std.proofs.Common.{refl}
use Rattle.answer.specs.Stages.{Fronts, not-read, was_read, refusal_printed, table-printed}
use Rattle.answer.proofs.print_text.Goals as goal
use Rattle.answer.proofs.print_text.Goals.{In-Ok}

-- what is known where there are counts: the table stands in the fronts of the lists
known : (c : In-Ok) → Fronts c.args.text.now c.read.new.jobs c.read.new.arcs c.read.new.sections c.in-Ok.counts
known c = was_read c.args.text.now _ _ _ refl refl refl _ _ _ _ (rw c.in-Ok.is at c.read.ensures)

pub returns-in-Err : goal.returns-in-Err
returns-in-Err c = let e = not-read c.args.text.now _ _ _ refl refl refl _ _ _ _ (rw c.in-Err.is at c.read.ensures) in
    rw (refusal_printed _ _ e) c.put_refusal.ensures

pub returns-in-Ok : goal.returns-in-Ok
returns-in-Ok c = let k = known (goal.at.returns-in-Ok c).In-Ok in
    let o = c.print_table.ensures in
    rw (table-printed _ _ k.read) (rw (c.table.ensures, k.jobs_front, k.arcs_front, k.sections_front) at o)
