-- The lists that a run writes, as a state.
use Rattle.std.specs.Prelude.{◌≡◌, ℕ}
use Rattle.rules.specs.Table.{State}
use Rattle.rules.specs.Lists.{state}
use Rattle.rules.specs.declared.state.Lists.{Lists}

-- The state that the lists hold at a tick.
abbrev pub held : ℕ → Lists → State
held tick l = state tick l.executed.now l.marks.now l.finish.now

-- They are still the lists that were lent, whatever they hold.
pub record SameLists (before after : Lists) : Type 0 where
  pub executed : after.executed.ghost_name ≡ before.executed.ghost_name
  pub marks : after.marks.ghost_name ≡ before.marks.ghost_name
  pub finish : after.finish.ghost_name ≡ before.finish.ghost_name
