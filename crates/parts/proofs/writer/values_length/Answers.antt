use Rattle.std.proofs.Common.{arith}
use Rattle.parts.proofs.Lining.{measure, measured}
use Rattle.parts.proofs.writer.values_length.Goals as goal

pub loop-i-preserved : goal.loop-i-preserved
loop-i-preserved c = let inv = c.loop-i.invariant in
    let n = c.line_length-sum in
    measure inv (omega arith) c.key_at.ensures.0 n.ensures.0 n.ensures.1

pub returns : goal.returns
returns c = (measured c.loop-i.invariant (omega arith), omega arith)
