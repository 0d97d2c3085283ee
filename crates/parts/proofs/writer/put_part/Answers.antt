-- `parts::writer::put_part` meets its contract: its count's line, and then its values' lines.
use Rattle.std.proofs.Common.{◌≡◌, refl, ◌+◌, arith, length}
use Rattle.parts.specs.Parts.{part_of}
use Rattle.parts.specs.Rows.{part_length, part_put}
use Rattle.rules.specs.Text.{key, line, value_lines, part_text}
use Rattle.parts.proofs.writer.put_part.Goals as goal
use Rattle.parts.proofs.writer.put_part.Goals.{After-rows}

long : (c : After-rows) → length (line (key c.head.result) c.rows.result) + length (value_lines (part_of c.args.part) 0 c.args.values.now)
    ≡ length (part_text (part_of c.args.part) c.args.values.now)
long c = part_length (part_of c.args.part) c.args.values.now c.head.ensures.0 c.rows.ensures refl refl

pub put_line-next-requires : goal.put_line-next-requires
put_line-next-requires c = (omega arith, omega (arith, (long (goal.at.put_line-next-requires c).After-rows)))

pub put_values-requires : goal.put_values-requires
put_values-requires c = omega (arith, (long (goal.at.put_values-requires c).After-rows))

pub returns : goal.returns
returns c = part_put (part_of c.args.part) c.args.values.now c.head.ensures.0 c.rows.ensures
    c.put_line-next.ensures c.put_values.ensures (omega (arith, (long (goal.at.returns c).After-rows)))
