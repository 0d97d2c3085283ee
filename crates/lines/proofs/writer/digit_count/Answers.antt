-- `lines::writer::digit_count` meets its contract: each answer by the two powers of ten that n lies between.
use Rattle.std.proofs.Common.{ap, arith, length}
use Rattle.laws.specs.Digits.{one-digit}
use Rattle.lines.proofs.Putting.{digits_sized}
use Rattle.lines.proofs.writer.digit_count.Goals as goal

pub returns-in-0-to-9 : goal.returns-in-0-to-9
returns-in-0-to-9 c = omega (arith, ap length (one-digit c.args.n (omega arith)))

pub returns-in-10-to-99 : goal.returns-in-10-to-99
returns-in-10-to-99 c = omega (arith, digits_sized 1 c.args.n (omega arith) (omega arith))

pub returns-in-100-to-999 : goal.returns-in-100-to-999
returns-in-100-to-999 c = omega (arith, digits_sized 2 c.args.n (omega arith) (omega arith))

pub returns-in-1000-to-9999 : goal.returns-in-1000-to-9999
returns-in-1000-to-9999 c = omega (arith, digits_sized 3 c.args.n (omega arith) (omega arith))

pub returns-in-10000-to-99999 : goal.returns-in-10000-to-99999
returns-in-10000-to-99999 c = omega (arith, digits_sized 4 c.args.n (omega arith) (omega arith))

pub returns-in-100000-to-999999 : goal.returns-in-100000-to-999999
returns-in-100000-to-999999 c = omega (arith, digits_sized 5 c.args.n (omega arith) (omega arith))

pub returns-in-1000000-to-9999999 : goal.returns-in-1000000-to-9999999
returns-in-1000000-to-9999999 c = omega (arith, digits_sized 6 c.args.n (omega arith) (omega arith))

pub returns-in-10000000-to-99999999 : goal.returns-in-10000000-to-99999999
returns-in-10000000-to-99999999 c = omega (arith, digits_sized 7 c.args.n (omega arith) (omega arith))

pub returns-in-100000000-to-999999999 : goal.returns-in-100000000-to-999999999
returns-in-100000000-to-999999999 c = omega (arith, digits_sized 8 c.args.n (omega arith) (omega arith))

pub returns-in_default : goal.returns-in_default
returns-in_default c = omega (arith, digits_sized 9 c.args.n (omega arith) (omega arith))
