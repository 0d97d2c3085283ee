-- `parts::writer::put_text` meets its contract: the three parts, one after the other.
use Rattle.std.proofs.Common.{arith}
use Rattle.parts.specs.Rows.{text_length, text_put}
use Rattle.parts.proofs.writer.put_text.Goals as goal

pub put_part-arcs_at-requires : goal.put_part-arcs_at-requires
put_part-arcs_at-requires c = let l = text_length c.args.table.now in
    rw c.jobs.ensures record { counted = c.requires.counted.jobs; values_in_bounds = omega arith }

pub put_part-sections_at-requires : goal.put_part-sections_at-requires
put_part-sections_at-requires c = let l = text_length c.args.table.now in
    let p = rw c.jobs.ensures at c.put_part-arcs_at.ensures in
    rw c.arcs.ensures record { counted = c.requires.counted.arcs; values_in_bounds = omega (arith, p.end) }

pub put_part-requires : goal.put_part-requires
put_part-requires c = let l = text_length c.args.table.now in
    let p = rw c.jobs.ensures at c.put_part-arcs_at.ensures in
    let q = rw c.arcs.ensures at c.put_part-sections_at.ensures in
    rw c.sections.ensures record { counted = c.requires.counted.sections; values_in_bounds = omega (arith, p.end, q.end) }

pub returns : goal.returns
returns c = text_put c.args.table.now
    (rw c.jobs.ensures at c.put_part-arcs_at.ensures)
    (rw c.arcs.ensures at c.put_part-sections_at.ensures)
    (rw c.sections.ensures at c.put_part.ensures)
    c.requires.in_bounds
