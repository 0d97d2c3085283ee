use Rattle.std.proofs.Common.{arith}
use Rattle.std.proofs.lemmas.Bool.Decides.{Decides-eqb}
use Rattle.std.proofs.lemmas.Slice.Eq.{slice_eq-Decides}
use Rattle.modified.specs.Rounds.{holds_low, round_none, round_more, round_stays}
use Rattle.modified.proofs.rounds.Goals as goal

pub loop-k-init : goal.loop-k-init
loop-k-init c = round_none _ _ _ c.starts-old.ensures

pub round-new-requires-clause-low : goal.round-new-requires-clause-low
round-new-requires-clause-low c = let p = c.requires in
    holds_low _ _ _ _ (omega (arith, p.jobs_in.few)) p.jobs_in p.arcs_in c.loop-k.invariant

pub returns-then-eq : goal.returns-then-eq
returns-then-eq c =
    let w = round_more _ _ _ _ _ c.requires.arcs_in c.loop-k.invariant c.round-new.ensures in
    rw c.job_count-n.ensures at (round_stays _ _ _ _ _ c.job_count-n.result c.requires.arcs_in c.loop-k.invariant w (omega arith) ((slice_eq-Decides Decides-eqb _ _ _ c.eq.ensures).0 c.if-eq.true) (omega arith))

pub loop-k-preserved : goal.loop-k-preserved
loop-k-preserved c = round_more _ _ _ _ _ c.requires.arcs_in c.loop-k.invariant c.round-new.ensures
