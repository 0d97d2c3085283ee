use Rattle.std.proofs.Common.{arith}
use Rattle.parts.proofs.Lining.{fits, line-put, lined}
use Rattle.parts.proofs.writer.put_values.Goals as goal

pub put_line-at-requires : goal.put_line-at-requires
put_line-at-requires c = let k = c.key_at in
    (k.ensures.1, fits c.loop-i.invariant (omega arith) k.ensures.0)

pub loop-i-preserved : goal.loop-i-preserved
loop-i-preserved c = line-put c.loop-i.invariant (omega arith) c.key_at.ensures.0
    c.put_line-at.ensures c.put_line-at.auto.out

pub returns : goal.returns
returns c = lined c.loop-i.invariant (omega arith)
