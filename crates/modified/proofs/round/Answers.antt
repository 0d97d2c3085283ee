use Rattle.std.proofs.Common.{arith}
use Rattle.modified.specs.Rounds.{brought-none, brought_more}
use Rattle.modified.proofs.round.Goals as goal

pub loop-a-init : goal.loop-a-init
loop-a-init c = brought-none _ _ _ _ c.starts-new.ensures

pub loop-a-preserved : goal.loop-a-preserved
loop-a-preserved c = let p = c.requires in
    brought_more _ _ _ _ _ _ p.jobs_in (p.arcs_in c.loop-a.a (omega arith)) c.loop-a.invariant c.carry.ensures
