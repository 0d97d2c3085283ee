-- What is put stands behind what was written.
use Rattle.std.proofs.Common.{arith}
use Rattle.page.specs.Page.{longer}
use Rattle.page.proofs.Page.put.Goals as goal

pub returns : goal.returns
returns c = longer _ (omega arith) c.self.view_is c.put_bytes-self-inside.ensures
