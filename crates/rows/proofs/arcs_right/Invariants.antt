-- Invariant: what is carried is whether no arc gone through breaks the rule.
use Rattle.std.proofs.Common.{◌≡◌, not}
use Rattle.rules.specs.Refusals.{arc_out}
use Rattle.rules.specs.Rows.{all}
use Rattle.rows.proofs.arcs_right.Given as goal

abbrev pub invariant-loop-a : goal.invariant-loop-a
invariant-loop-a l = l.right ≡ all (λ k. not (arc_out l.table k)) l.a
