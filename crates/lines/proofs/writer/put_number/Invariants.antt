-- `lines::writer::put_number` meets its contract: what is left to write, put into the list, makes the whole.
use Rattle.std.proofs.Common.{◌≡◌, ◌+◌, length}
use Rattle.lines.proofs.Putting.{Numbering}
use Rattle.rules.specs.Text.{digits}
use Rattle.lines.proofs.writer.put_number.Given as goal

abbrev pub invariant-loop-rest : goal.invariant-loop-rest
invariant-loop-rest l = (l.end ≡ l.at + length (digits l.n)) × Numbering l.initial.out l.at l.n l.out l.rest l.p

abbrev pub decreases-loop-rest : goal.decreases-loop-rest
decreases-loop-rest l = l.rest
