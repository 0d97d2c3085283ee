-- The printed lines go out whole, where there is room.
use Rattle.std.proofs.Common.{◌≡◌, refl, ◌∙◌, ap, arith, length}
use Rattle.answer.specs.Promise.{prints_short, prints_whole}
use Rattle.rules.specs.Output.{answer}
use Rattle.answer.proofs.answer.Goals as goal
use Rattle.answer.proofs.answer.Goals.{After-as_slice-lines}

-- the lines are those of the rules
lines : (c : After-as_slice-lines) → c.as_slice-lines.result.now ≡ answer c.args.text.now
lines c = c.as_slice-lines.ensures.value ∙ c.print_text.ensures

pub returns-then-out-lines : goal.returns-then-out-lines
returns-then-out-lines c = let e = lines (goal.at.returns-then-out-lines c).After-as_slice-lines in
    prints_short _ _ _ (rw e at c.if-out-lines.true) refl

pub returns : goal.returns
returns c = let e = lines (goal.at.returns c).After-as_slice-lines in
    let l = ap length e in
    prints_whole _ _ _ _ (omega (arith, l, c.put_bytes.ensures.end)) (omega (arith, c.put_bytes.ensures.end)) (rw e at c.put_bytes.ensures.list)
