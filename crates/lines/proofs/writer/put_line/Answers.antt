-- `lines::writer::put_line` meets its contract: three pieces, one after the other.
use Rattle.std.proofs.Common.{ap, arith, length, length-append, ◌<◌}
use Rattle.laws.specs.Digits.{line-bytes, line-length}
use Rattle.lines.specs.Pieces.{two, one}
use Rattle.rules.specs.Text.{key}
use Rattle.lines.proofs.writer.put_line.Goals as goal
use Rattle.lines.proofs.writer.put_line.Goals.{After-put_number-end}

-- there is room for the LF
ended : (c : After-put_number-end) → c.put_number-end.result < length c.put_number-end.new.out
ended c = omega (arith, line-length (key c.args.k) c.args.value, ap length c.key.ensures.is)

pub put_bytes-equals-requires : goal.put_bytes-equals-requires
put_bytes-equals-requires c = let a = c.args in
    omega (arith, line-length (key a.k) a.value, ap length c.key.ensures.is)

pub put_number-end-requires : goal.put_number-end-requires
put_number-end-requires c = let a = c.args in
    omega (arith, line-length (key a.k) a.value, ap length c.key.ensures.is)

pub bounds-out-end : goal.bounds-out-end
bounds-out-end c = ended (goal.at.bounds-out-end c).After-put_number-end

pub overflow_add-result : goal.overflow_add-result
overflow_add-result c = omega (arith, ended (goal.at.overflow_add-result c).After-put_number-end)

pub returns : goal.returns
returns c = let a = c.args in
    let l = line-length (key a.k) a.value in
    rw (line-bytes (key a.k) a.value)
    (two
    (two (rw c.key.ensures.is at c.put_bytes-equals.ensures) c.put_number-end.ensures (omega arith))
    (one _ _ _ (ended (goal.at.returns c).After-put_number-end))
    (rw length-append (omega arith)))
