use Rattle.std.proofs.Common.{refl, add-one}
use Rattle.rules.specs.Rows.{all}
use Rattle.rows.proofs.arcs_right.Goals as goal

pub loop-a-init : goal.loop-a-init
unfolding all
loop-a-init c = refl

pub loop-a-preserved : goal.loop-a-preserved
unfolding all
loop-a-preserved c = rw (add-one, c.loop-a.invariant, c.arc_out.ensures)
