-- Two lines, one after the other, on a page that had nothing.
use Rattle.page.specs.Page.{next}
use Rattle.rules.specs.Output.{refusal_lines}
use Rattle.rules.specs.Text.{bytes_of}
use Rattle.page.proofs.Page.put_refusal.Goals as goal

pub returns : goal.returns
unfolding refusal_lines bytes_of
returns c = (next (rw (c.requires, c.number-number.ensures) at c.put_line.ensures.written) (rw c.place-place.ensures at c.put_line-2.ensures.written)).list
