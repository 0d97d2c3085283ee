use Rattle.std.proofs.Common.{◌≡◌, arith}
use Rattle.lines.proofs.Matching.{all_there, cut, differs, goes}
use Rattle.lines.proofs.leaves.match_bytes.Goals as goal

pub returns-then-line-i : goal.returns-then-line-i
returns-then-line-i c = differs c.loop-i.invariant (omega arith) (omega arith) c.if-line-i.true

pub loop-i-preserved : goal.loop-i-preserved
loop-i-preserved c = goes c.loop-i.invariant (omega arith) (omega arith) c.if-line-i.false

pub returns-then-both-bytes : goal.returns-then-both-bytes
returns-then-both-bytes c = let e : c.min-both.result ≡ c.loop-i.i = omega arith in
    rw e (cut c.loop-i.invariant (omega arith) (omega arith))

pub returns : goal.returns
returns c = let e : c.min-both.result ≡ c.loop-i.i = omega arith in
    rw e (all_there c.loop-i.invariant (omega arith))
