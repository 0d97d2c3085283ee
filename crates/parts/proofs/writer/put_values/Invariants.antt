-- `parts::writer::put_values` meets its contract: the lines that are left make the whole.
use Rattle.parts.proofs.Lining.{Lining}
use Rattle.parts.specs.Parts.{part_of}
use Rattle.parts.proofs.writer.put_values.Given as goal

abbrev pub invariant-loop-i : goal.invariant-loop-i
invariant-loop-i l = Lining l.initial.out l.from (part_of l.part) l.values l.out l.i l.at
