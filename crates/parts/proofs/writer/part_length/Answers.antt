-- `parts::writer::part_length` meets its contract: a part is its count's line and its values' lines.
use Rattle.std.proofs.Common.{arith}
use Rattle.parts.specs.Parts.{part_of}
use Rattle.parts.specs.Rows.{part_length}
use Rattle.parts.proofs.writer.part_length.Goals as goal

pub returns : goal.returns
returns c = let a = c.args in (
  part_length (part_of a.part) a.values.now c.head.ensures.0 c.rows.ensures
      c.line_length.ensures.0 c.values_length.ensures.0,
  omega arith,
)
