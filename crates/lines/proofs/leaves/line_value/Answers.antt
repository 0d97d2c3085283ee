-- `lines::leaves::line_value` meets its contract, stage by stage.
use Rattle.std.proofs.lemmas.Result.{err_from_is_err_and}
use Rattle.lines.proofs.Stages.{key-stops, number-stops, line_ended}
use Rattle.lines.specs.Pieces.{rest_is}
use Rattle.lines.proofs.leaves.line_value.Goals as goal

pub returns-in_err-n : goal.returns-in_err-n
returns-in_err-n c = let p = err_from_is_err_and c.from_residual.result c.from_residual.ensures.1 in
    rw (p.1, p.2, ← c.key.ensures.is) (key-stops c.in_err-n.ensures)

pub returns-in-Err : goal.returns-in-Err
returns-in-Err c = rw (← c.key.ensures.is) (number-stops c.in_ok-n.ensures (rw (rest_is c.in_ok-n.n c.args.line.now) at c.in-Err.ensures))

pub returns-in-Ok : goal.returns-in-Ok
returns-in-Ok c = rw (← c.key.ensures.is) (line_ended c.in_ok-n.ensures (rw (rest_is c.in_ok-n.n c.args.line.now) at c.in-Ok.ensures) c.line_end.ensures)
