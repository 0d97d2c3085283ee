-- Nothing at first; then one byte after the other, up to the last.
use Rattle.std.proofs.Common.{◌≡◌, ◌+◌, arith, add-zero, add-one, length, take_all, length-take-le, slice_index_or}
use Rattle.std.proofs.Math.Seq.{take-suc}
use Rattle.lines.specs.Pieces.{nothing, one, two}
use Rattle.lines.proofs.writer.put_bytes.Goals as goal

pub loop-i-init : goal.loop-i-init
loop-i-init c = rw add-zero (nothing _ _)

pub loop-i-preserved : goal.loop-i-preserved
loop-i-preserved c =
    let next : c.args.at + (c.loop-i.i + 1) ≡ c.args.at + c.loop-i.i + 1 = omega arith in
    rw (next, add-one c.loop-i.i, take-suc c.args.bytes.now c.loop-i.i 0 c.loop-i-test.true)
    (two c.loop-i.invariant (one _ _ (slice_index_or c.args.bytes.now c.loop-i.i 0) (omega arith))
    (omega (arith, length-take-le c.loop-i.i c.args.bytes.now (omega arith))))

pub returns : goal.returns
returns c = let all : c.loop-i.i ≡ length c.args.bytes.now = omega arith in
    rw (all, take_all (length c.args.bytes.now) c.args.bytes.now (omega arith)) at c.loop-i.invariant
