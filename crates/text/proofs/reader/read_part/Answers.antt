-- `text::reader::read_part` meets its contract, by what its first line says.
use Rattle.std.proofs.Common.{sym, ◌∙◌, ap, drop}
use Rattle.lines.specs.Leaves.{Took}
use Rattle.parts.specs.Parts.{part_of}
use Rattle.rules.specs.Refusals.{refused}
use Rattle.rules.specs.Text.{key, line_value}
use Rattle.std.specs.Prelude.{Ok}
use Rattle.text.proofs.Walking.{line_at, part_stops, part_wrong, part_rows}
use Rattle.text.proofs.reader.read_part.Goals as goal
use Rattle.text.proofs.reader.read_part.Goals.{In-Ok}

count : (c : In-Ok) → Took (line_value (key c.head.result) (drop c.args.from c.args.text.now)) (drop c.args.from c.args.text.now) (Ok c.in-Ok.count)
count c = line_at c.args.text.now c.args.from c.head.result c.line_value.ensures c.in-Ok.is

pub returns-in_default : goal.returns-in_default
returns-in_default c = let a = c.args in
    part_stops (part_of a.part) c.head.ensures.0 a.text.now a.from a.line
    (line_at a.text.now a.from c.head.result c.line_value.ensures c.in_default.is)

pub returns-then-not-right : goal.returns-then-not-right
returns-then-not-right c = let a = c.args in
    part_wrong (part_of a.part) c.head.ensures.0 a.text.now a.from a.line (count (goal.at.returns-then-not-right c).In-Ok)
    (sym c.right.ensures ∙ c.if-not-right.true)
    ∙ ap refused (sym c.refusal.ensures)

pub returns : goal.returns
returns c = let a = c.args in
    rw (part_rows (part_of a.part) c.head.ensures.0 a.text.now a.from a.line (count (goal.at.returns c).In-Ok) (sym c.right.ensures ∙ c.if-not-right.false))
    c.read_rows.ensures
