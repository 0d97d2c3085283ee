-- Unfinished, or the difference.
use Rattle.std.proofs.Common.{◌≡◌, ◌∙◌, ◌^◌, arith}
use Rattle.std.proofs.Math.IntN.{sub_ℕ}
use Rattle.dispatch.specs.Promise.{not-finished, ended_by}
use Rattle.rules.specs.Table.{finish, deadline}
use Rattle.states.specs.Ends.{difference_small}
use mir.Facts.{to_z-of_z}
use mir.Syntax.{w32}
use mir.Val.{SFits}
use Rattle.dispatch.proofs.late_at.Goals as goal

pub returns-then-executed-j : goal.returns-then-executed-j
returns-then-executed-j c = not-finished _ _ _ (rw (c.executed-executed.ensures, c.cost.ensures, c.table-table.ensures) at c.if-executed-j.true)

pub returns : goal.returns
returns c = let a = c.args in
    let late : c.late_by.result ≡ sub_ℕ (finish a.state.now a.j) (deadline a.plan.now.table a.j) = cc in
    let fits : SFits w32 c.late_by.result =
    rw late (record { sfits = difference_small (2 ^ 31) (finish a.state.now a.j) (deadline a.plan.now.table a.j) (omega (arith, c.requires.j_bound)) (omega (arith, c.requires.j_bound)) }) in
    ended_by _ _ _ _ (rw (c.executed-executed.ensures, c.cost.ensures, c.table-table.ensures) at c.if-executed-j.false) (to_z-of_z fits ∙ late)
