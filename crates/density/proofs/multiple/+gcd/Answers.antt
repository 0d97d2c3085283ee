use Rattle.std.proofs.Common.{sym, ◌∙◌, arith}
use Rattle.density.specs.Divides.{gcd-zero, gcd-step}
use Rattle.density.proofs.multiple.+gcd.Goals as goal

pub returns-then-b-eq0 : goal.returns-then-b-eq0
returns-then-b-eq0 t c = rw c.if-b-eq0.true (sym (gcd-zero _))

pub returns-else-b-eq0 : goal.returns-else-b-eq0
returns-else-b-eq0 t c = c.gcd.ensures ∙ sym (gcd-step _ _ (omega arith))
