-- The bytes so far went over the caller's.
use Rattle.std.proofs.Common.{◌+◌, take}
use Rattle.lines.specs.Put.{Over}
use Rattle.lines.proofs.writer.put_bytes.Given as goal

abbrev pub invariant-loop-i : goal.invariant-loop-i
invariant-loop-i l = Over l.initial.out l.at (take l.i l.bytes) l.out (l.at + l.i)
