use Rattle.std.proofs.Common.{◌∙◌, arith}
use Rattle.dispatch.specs.Going.{next_fits, run_over, next_ends, next_goes}
use Rattle.dispatch.proofs.run_on.Goals as goal

pub returns-then-next-tick-clause-runs : goal.returns-then-next-tick-clause-runs
returns-then-next-tick-clause-runs c =
    rw (← c.all_end_by-end.ensures.0, ← c.if-next-tick.true)
    (next_ends c.loop-tick.invariant.2 (omega arith) _ c.skip-next.ensures.next c.if-next-tick.true)

pub loop-tick-preserved : goal.loop-tick-preserved
loop-tick-preserved c = let i = c.loop-tick.invariant in
    let lent = c.skip-next.ensures.lent in (
      i.0,
      next_fits i.1 c.skip-next.ensures.next,
      (next_goes i.2 _ c.skip-next.ensures.next c.if-next-tick.false).1,
      record { executed = lent.executed ∙ i.3.executed; marks = lent.marks ∙ i.3.marks; finish = lent.finish ∙ i.3.finish },
    )

pub returns-clause-runs : goal.returns-clause-runs
returns-clause-runs c = rw (← c.all_end_by-end.ensures.0) (run_over c.loop-tick.invariant.2 (omega arith))
