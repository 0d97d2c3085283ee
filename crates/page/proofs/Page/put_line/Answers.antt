-- Key, digits, LF, one after the other.
use Rattle.page.specs.Page.{next}
use Rattle.rules.specs.Text.{line}
use Rattle.page.proofs.Page.put_line.Goals as goal

pub returns-clause-written : goal.returns-clause-written
unfolding line
returns-clause-written c = next c.put.ensures (next c.put_number.ensures.written c.put-2.ensures)
