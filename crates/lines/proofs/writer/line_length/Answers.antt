-- `lines::writer::line_length` meets its contract: a line is its key, its digits and an LF.
use Rattle.std.proofs.Common.{ap, arith, length}
use Rattle.laws.specs.Digits.{line-length}
use Rattle.rules.specs.Text.{key}
use Rattle.lines.proofs.writer.line_length.Goals as goal

pub returns : goal.returns
returns c = let a = c.args in omega (arith, line-length (key a.k) a.value, ap length c.key.ensures.is)
