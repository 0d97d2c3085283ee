use Rattle.std.proofs.Common.{rules, refl}
use Rattle.rules.specs.Refusals.{clash, clashes}
use Rattle.laws.specs.Ranges.{any_rows}
use Rattle.row_rules.proofs.clashes.Goals as goal

pub returns : goal.returns
unfolding clashes
returns c = any_rows (λ k. clash c.args.table.now k c.args.s) _ c.any.ensures.ran refl (λ x q k. search rules) (λ x q k. search rules)
