-- `text::reader::read_rows` meets its contract: the values that are done, and what is left to read, make the whole.
use Rattle.std.proofs.Common.{◌≡◌, ◌+◌}
use Rattle.parts.specs.Parts.{part_of}
use Rattle.text.proofs.Walking.{Walking}
use Rattle.text.proofs.reader.read_rows.Given as goal

abbrev pub invariant-loop-i : goal.invariant-loop-i
invariant-loop-i l = record {
  line : l.line ≡ l.first + l.i;
  walking : Walking (part_of l.part) l.n l.text l.from l.first l.out l.i l.at;
}
