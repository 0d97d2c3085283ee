-- `parts::writer::values_length` meets its contract: what is counted, with what is left, is the whole.
use Rattle.parts.proofs.Lining.{Measuring}
use Rattle.parts.specs.Parts.{part_of}
use Rattle.parts.proofs.writer.values_length.Given as goal

abbrev pub invariant-loop-i : goal.invariant-loop-i
invariant-loop-i l = Measuring (part_of l.part) l.values l.sum l.i
