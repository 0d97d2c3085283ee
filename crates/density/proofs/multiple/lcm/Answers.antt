-- The quotient is compared with the limit's before the product is made, so the product never wraps.
use Rattle.std.proofs.Common.{arith}
use Rattle.density.specs.Multiple.{divisor_above, lcm-within, lcm_beyond}
use Rattle.density.proofs.multiple.lcm.Goals as goal

pub nonzero_div-q : goal.nonzero_div-q
nonzero_div-q c = divisor_above _ _ _ c.requires c.gcd-g.ensures

pub returns-then-q-b : goal.returns-then-q-b
returns-then-q-b c = lcm_beyond _ _ _ c.requires c.gcd-g.ensures c.if-q-b.true

pub overflow_mul-result : goal.overflow_mul-result
overflow_mul-result c = let h = lcm-within _ _ _ c.requires c.gcd-g.ensures c.if-q-b.false in omega arith

pub returns : goal.returns
returns c = lcm-within _ _ _ c.requires c.gcd-g.ensures c.if-q-b.false
