use Rattle.std.proofs.Common.{◌≡◌, true, ◌+◌, arith, get_or}
use Rattle.rules.specs.Text.{is_digit}
use Rattle.lines.proofs.Numbers.{digit, pair, pair_small}
use Rattle.lines.proofs.leaves.read_pairs.Goals as goal

pub loop-end-preserved : goal.loop-end-preserved
loop-end-preserved c = let inv = c.loop-end.invariant in
    let s = c.args.digits.now in
    let i = c.loop-end.end in
    let tens : is_digit (get_or s i 0) ≡ true = digit _ c.is_ascii_digit.ensures.value c.if-not-is_ascii_digit.false in
    let ones : is_digit (get_or s (i + 1) 0) ≡ true = digit _ c.is_ascii_digit-else-not-is_ascii_digit.ensures.value c.if-not-is_ascii_digit-2.false in
    rw (c.from.ensures, c.from-in-loop-end.ensures) record {
      positive = omega arith;
      few = pair_small inv.counting (omega arith) (omega arith) inv.positive inv.few tens ones;
      counting = pair inv.counting (omega arith) (omega arith) inv.positive inv.few tens ones;
    }
