-- `text::read` meets its promise: an answer for each way out.
use Rattle.std.proofs.Common.{refl, sym, ◌∙◌}
use Rattle.std.proofs.lemmas.Result.{err_from_is_err_and}
use Rattle.text.proofs.Answers.{text_refused, lacks, reads}
use Rattle.text.proofs.read.Goals as goal

pub returns-in_err-counts : goal.returns-in_err-counts
returns-in_err-counts c = let p = err_from_is_err_and c.from_residual.result c.from_residual.ensures.1 in
    rw (p.1, p.2) (text_refused _ _ _ _ _ c.in_err-counts.ensures)

pub returns-then-not-have_room : goal.returns-then-not-have_room
returns-then-not-have_room c = lacks _ _ _ _ c.in_ok-counts.ensures (sym c.have_room.ensures ∙ c.if-not-have_room.true)

pub returns : goal.returns
returns c = reads _ _ _ _ c.in_ok-counts.ensures (sym c.have_room.ensures ∙ c.if-not-have_room.false)
    (rw (c.copy_from_slice.ensures.after, c.values-j.ensures) refl)
    (rw (c.copy_from_slice-2.ensures.after, c.values-a.ensures) refl)
    (rw (c.copy_from_slice-3.ensures.after, c.values-s.ensures) refl)
