-- Each way out is a law: the section is no longer, or doesn't count, or is the longest so far.
use Rattle.std.proofs.Common.{arith}
use Rattle.laws.specs.Compared.{less, not_less}
use Rattle.sums.specs.Sums.{longer_clear, longer_counts}
use Rattle.sums.proofs.longer.Goals as goal

pub returns-then-above : goal.returns-then-above
returns-then-above c = let a = c.args in
    let t = c.table-table.ensures in (
      longer_clear a.plan.now a.d.0 a.s a.b _ (rw t at c.ticks_of-t.ensures) _ (rw (rw t at c.owner.ensures) at c.span-e.ensures) a.ceilings.now c.requires.1 c.requires.2 _
          (rw t at c.resource.ensures) (omega (arith, (rw t at c.resource.ensures), c.requires.0.resource_in)) (less _ _ c.lt-outside.ensures c.if-outside.false) (less _ _ c.lt-above.ensures c.if-above.true),
      c.requires.3,
    )

pub returns : goal.returns
returns c = let a = c.args in
    let t = c.table-table.ensures in (
      longer_counts a.plan.now a.d.0 a.s a.b _ (rw t at c.ticks_of-t.ensures) _ (rw (rw t at c.owner.ensures) at c.span-e.ensures) a.ceilings.now c.requires.1 c.requires.2 _
          (rw t at c.resource.ensures) (omega (arith, (rw t at c.resource.ensures), c.requires.0.resource_in)) (less _ _ c.lt-outside.ensures c.if-outside.false) (not_less _ _ c.lt-above.ensures c.if-above.false) c.if-t-b.false,
      omega (arith, (rw t at c.ticks_of-t.ensures), c.requires.0.short),
    )
