-- The lengths and the tick, then each job.
use Rattle.std.proofs.Common.{◌≡◌, Bool, ◌∙◌, true, false, ◌&&◌, leb}
use Rattle.laws.specs.Tests.{bool_says, says_and, yes_says}
use Rattle.rules.specs.Table.{last_tick}
use Rattle.states.specs.Lengths.{lengths_right, same_lengths, lengths_first}
use Rattle.states.proofs.state_in_bounds.Goals as goal
use Rattle.states.proofs.state_in_bounds.Goals.{After-tick}

-- what the code tested first
tested : (c : After-tick) (b : Bool) → (c.lengths_right.result && leb c.tick.result 10000000) ≡ b
    → (lengths_right c.args.table.now c.args.state.now && leb c.args.state.now.tick last_tick) ≡ b
tested c b e = rw (← c.lengths_right.ensures, ← c.tick.ensures) e

pub all_states_right-requires : goal.all_states_right-requires
all_states_right-requires c =
    same_lengths _ _ (yes_says (says_and (bool_says _) (bool_says _)) (tested (goal.at.all_states_right-requires c).After-tick true c.if-fits.true)).0

pub returns-then-fits : goal.returns-then-fits
returns-then-fits c =
    c.all_states_right.ensures
    ∙ rw (tested (goal.at.returns-then-fits c).After-tick true c.if-fits.true) at (lengths_first c.args.table.now c.args.state.now)

pub returns-else-fits : goal.returns-else-fits
returns-else-fits c =
    c.if-fits.false
    ∙ rw (tested (goal.at.returns-else-fits c).After-tick false c.if-fits.false) at (lengths_first c.args.table.now c.args.state.now)
