use Rattle.std.proofs.Common.{arith, ◌≡◌}
use Rattle.std.proofs.lemmas.Bool.Decides.{nat_tests}
use Rattle.events.specs.Events.{next_stop}
use Rattle.laws.specs.Rows.{smallest_more}
use Rattle.rules.specs.Rows.{smallest}
use Rattle.rules.specs.Table.{section_count}
use Rattle.events.proofs.next_stop.Goals as goal

pub loop-s-init : goal.loop-s-init
unfolding next_stop smallest
loop-s-init c = c.cost-stop.ensures

pub loop-s-preserved : goal.loop-s-preserved
unfolding next_stop
loop-s-preserved c = rw (smallest_more, ← c.loop-s.invariant) (grind (arith, nat_tests))

pub returns : goal.returns
returns c = let n : c.loop-s.s ≡ section_count c.args.table.now = omega arith in rw n at c.loop-s.invariant
