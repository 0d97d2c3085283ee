-- `text::reader::read_text` meets its contract, part by part.
use Rattle.std.proofs.Common.{arith}
use Rattle.std.proofs.lemmas.Result.{err_from_is_err_and}
use Rattle.parts.specs.declared.Part.TheVariants.{Jobs, Arcs}
use Rattle.text.proofs.Whole.{next_line, jobs_refused, arcs_refused, sections_refused, left_over, whole}
use Rattle.text.proofs.reader.read_text.Goals as goal

pub returns-in_err-j : goal.returns-in_err-j
returns-in_err-j c = let p = err_from_is_err_and c.from_residual.result c.from_residual.ensures.1 in
    rw (p.1, p.2) (jobs_refused _ c.in_err-j.ensures)

pub read_part-requires-2 : goal.read_part-requires-2
read_part-requires-2 c = let j = c.in_ok-j.ensures in (j.within, omega (arith, next_line Jobs _ _ j), omega arith)

pub returns-in_err-a : goal.returns-in_err-a
returns-in_err-a c = let p = err_from_is_err_and c.from_residual-in_err-a.result c.from_residual-in_err-a.ensures.1 in
    rw (p.1, p.2) (arcs_refused _ c.in_ok-j.ensures c.in_err-a.ensures)

pub read_part-requires-3 : goal.read_part-requires-3
read_part-requires-3 c = let a = c.in_ok-a.ensures in
    (a.within, omega (arith, next_line Jobs _ _ c.in_ok-j.ensures, next_line Arcs _ _ a), omega arith)

pub returns-in_err-s : goal.returns-in_err-s
returns-in_err-s c = let p = err_from_is_err_and c.from_residual-in_err-s.result c.from_residual-in_err-s.ensures.1 in
    rw (p.1, p.2) (sections_refused _ c.in_ok-j.ensures c.in_ok-a.ensures c.in_err-s.ensures)

pub returns-then-more : goal.returns-then-more
returns-then-more c = left_over _ c.in_ok-j.ensures c.in_ok-a.ensures c.in_ok-s.ensures c.if-more.true

pub returns : goal.returns
returns c = whole _ c.in_ok-j.ensures c.in_ok-a.ensures c.in_ok-s.ensures c.if-more.false
