use Rattle.std.proofs.Common.{arith, length}
use Rattle.std.proofs.Math.ListN.{length-set}
use Rattle.std.proofs.Math.Path.{ap}
use Rattle.laws.specs.Digits.{one-digit}
use Rattle.lines.proofs.Putting.{digits_sized, two_digits, writes_two, written, written_two}
use Rattle.lines.proofs.writer.put_number.Goals as goal

pub overflow_sub-p : goal.overflow_sub-p
overflow_sub-p c = omega (arith, two_digits c.loop-rest.rest c.loop-rest-test.true)

pub bounds-out-p : goal.bounds-out-p
bounds-out-p c = omega (arith, two_digits c.loop-rest.rest c.loop-rest-test.true)

pub bounds-out-p-in-loop-rest : goal.bounds-out-p-in-loop-rest
bounds-out-p-in-loop-rest c = rw length-set (omega (arith, two_digits c.loop-rest.rest c.loop-rest-test.true))

pub loop-rest-preserved : goal.loop-rest-preserved
loop-rest-preserved c = (c.loop-rest.invariant.0, writes_two c.loop-rest.invariant.1 c.loop-rest-test.true)

pub bounds-out-at : goal.bounds-out-at
bounds-out-at c = omega (arith, digits_sized 1 c.loop-rest.rest (omega arith) (omega arith))

pub bounds-out-at-then-rest-ge10 : goal.bounds-out-at-then-rest-ge10
bounds-out-at-then-rest-ge10 c = rw length-set (omega (arith, digits_sized 1 c.loop-rest.rest (omega arith) (omega arith)))

pub returns-then-rest-ge10 : goal.returns-then-rest-ge10
returns-then-rest-ge10 c = let inv = c.loop-rest.invariant in
    record { end = inv.0; list = written_two inv.1 c.if-rest-ge10.true (omega arith) }

pub bounds-out-at-2 : goal.bounds-out-at-2
bounds-out-at-2 c = omega (arith, ap length (one-digit c.loop-rest.rest (omega arith)))

pub returns : goal.returns
returns c = let inv = c.loop-rest.invariant in
    record { end = inv.0; list = written inv.1 (omega arith) }
