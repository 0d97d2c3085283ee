-- There is room for ten digits, and no number has more.
use Rattle.std.proofs.Common.{◌≡◌, arith, length, take}
use Rattle.laws.specs.Digits.{digits_most}
use Rattle.rules.specs.Text.{digits}
use Rattle.page.specs.Page.{Adds, filled, longer}
use Rattle.page.proofs.Page.put_number.Goals as goal

pub put_number-self-inside-requires : goal.put_number-self-inside-requires
put_number-self-inside-requires c = let l : length c.args.self.now ≡ c.self.inside.len = filled _ (omega arith) c.self.view_is in
    omega (arith, digits_most c.args.n (omega arith))

pub invariant_of-self : goal.invariant_of-self
invariant_of-self c = let l : length c.args.self.now ≡ c.self.inside.len = filled _ (omega arith) c.self.view_is in
    omega (arith, digits_most c.args.n (omega arith), c.put_number-self-inside.ensures.end)

pub returns-clause-written : goal.returns-clause-written
returns-clause-written c = longer _ (omega arith) c.self.view_is c.put_number-self-inside.ensures

pub returns-clause-short : goal.returns-clause-short
returns-clause-short c = let a : Adds c.args.self.now (digits c.args.n) (take c.put_number-self-inside.result c.put_number-self-inside.new.out) = longer _ (omega arith) c.self.view_is c.put_number-self-inside.ensures in
    omega (arith, digits_most c.args.n (omega arith))
