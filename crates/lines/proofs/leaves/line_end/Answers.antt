-- `lines::leaves::line_end` meets its contract, by its two tests.
use Rattle.std.proofs.Common.{arith}
use Rattle.lines.proofs.Numbers.{cut, no_lf, an_lf}
use Rattle.lines.proofs.leaves.line_end.Goals as goal
use Rattle.lines.proofs.leaves.line_end.Goals.{else-at-line-via-then-at-line+else-line-at-eq10, else-at-line-via-else-at-line}

pub returns-then-line-at-eq10 : goal.returns-then-line-at-eq10
returns-then-line-at-eq10 c = an_lf _ _ _ (omega arith) (omega arith) c.if-line-at-eq10.true

pub returns : goal.returns
returns c = elim c.else-at-line.branch [
  | else-at-line-via-then-at-line+else-line-at-eq10 w ↦ no_lf _ _ _ (omega arith) w.if-at-line.true w.if-line-at-eq10.false
  | else-at-line-via-else-at-line w ↦ cut _ _ _ (omega arith) w.if-at-line.false
]
