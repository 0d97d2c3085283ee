-- `parts::writer::text_length` meets its contract: a text is its three parts.
use Rattle.std.proofs.Common.{arith}
use Rattle.parts.specs.Rows.{text_length}
use Rattle.parts.proofs.writer.text_length.Goals as goal

pub returns : goal.returns
returns c = rw (text_length c.args.table.now, ← c.jobs.ensures, ← c.arcs.ensures, ← c.sections.ensures) (omega arith)
