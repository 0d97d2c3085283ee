-- `lines::leaves::match_bytes` meets its contract: what is left to match answers what the whole does.
use Rattle.lines.proofs.Matching.{Matching}
use Rattle.lines.proofs.leaves.match_bytes.Given as goal

abbrev pub invariant-loop-i : goal.invariant-loop-i
invariant-loop-i l = Matching l.bytes l.line l.i
