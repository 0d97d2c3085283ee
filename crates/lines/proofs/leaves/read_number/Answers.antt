use Rattle.std.proofs.Common.{◌≡◌, true, arith, length, get_or}
use Rattle.laws.specs.Digits.{high}
use Rattle.lines.proofs.Numbers.{digit, empty, no_digit, begun, ended, other, leading, too_large, longer}
use Rattle.rules.specs.Text.{is_digit}
use Rattle.lines.proofs.leaves.read_number.Goals as goal
use Rattle.lines.proofs.leaves.read_number.Goals.{Else-not-is_ascii_digit-2}

-- the digit that is read next
next : (c : Else-not-is_ascii_digit-2) → is_digit (get_or c.args.digits.now c.loop-i.i 0) ≡ true
next c = digit _ c.is_ascii_digit-in-loop-i.ensures.value c.if-not-is_ascii_digit-2.false

pub returns-in_default : goal.returns-in_default
returns-in_default c = empty _ (omega arith)

pub returns-then-not-is_ascii_digit : goal.returns-then-not-is_ascii_digit
returns-then-not-is_ascii_digit c = no_digit _ (omega arith) (digit _ c.is_ascii_digit.ensures.value c.if-not-is_ascii_digit.true)

pub read_pairs-front-requires : goal.read_pairs-front-requires
read_pairs-front-requires c = let d : is_digit (get_or c.args.digits.now 0 0) ≡ true = digit _ c.is_ascii_digit.ensures.value c.if-not-is_ascii_digit.false in
    rw c.from.ensures (begun _ (omega arith) d, omega (arith, high _ d))

pub returns-then-not-is_ascii_digit-2 : goal.returns-then-not-is_ascii_digit-2
returns-then-not-is_ascii_digit-2 c = other c.loop-i.invariant (omega arith)
    (digit _ c.is_ascii_digit-in-loop-i.ensures.value c.if-not-is_ascii_digit-2.true)

pub returns-then-leading : goal.returns-then-leading
returns-then-leading c = leading c.loop-i.invariant (omega arith) (next (goal.at.returns-then-leading c).Else-not-is_ascii_digit-2) c.if-leading.true

pub returns-then-too_large : goal.returns-then-too_large
returns-then-too_large c = too_large c.loop-i.invariant (omega arith) (next (goal.at.returns-then-too_large c).Else-not-is_ascii_digit-2) c.if-leading.false (omega arith)

pub loop-i-preserved : goal.loop-i-preserved
loop-i-preserved c = rw c.from-in-loop-i.ensures
    (longer c.loop-i.invariant (omega arith) (next (goal.at.loop-i-preserved c).Else-not-is_ascii_digit-2) c.if-leading.false (omega arith))

pub returns : goal.returns
returns c = let e : length c.args.digits.now ≡ c.loop-i.i = omega arith in
    rw e (ended c.loop-i.invariant (omega arith))
