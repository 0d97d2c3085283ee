-- A number, or a minus sign and a number.
use Rattle.std.proofs.Common.{arith}
use Rattle.page.specs.Page.{next, early}
use Rattle.rules.specs.Text.{bytes_of}
use Rattle.page.proofs.Page.put_late.Goals as goal

pub returns-else-deadline-finish-clause-written : goal.returns-else-deadline-finish-clause-written
unfolding bytes_of
returns-else-deadline-finish-clause-written c =
    rw (early c.args.finish c.args.deadline (omega arith)) (next c.put.ensures c.put_number-else-deadline-finish.ensures.written)
