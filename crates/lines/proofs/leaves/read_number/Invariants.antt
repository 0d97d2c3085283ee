-- `lines::leaves::read_number` meets its contract: what is left to read answers what the whole does.
use Rattle.lines.specs.Leaves.{Counting}
use Rattle.lines.proofs.leaves.read_number.Given as goal

abbrev pub invariant-loop-i : goal.invariant-loop-i
invariant-loop-i l = Counting l.digits l.value l.i
