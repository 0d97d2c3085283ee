-- The loop has the sum of the jobs passed, and a bound for it by their number.
use Rattle.std.proofs.Common.{◌≡◌, ◌≤◌, ◌*◌, get_or}
use Rattle.rules.specs.Rows.{sum}
use Rattle.sums.specs.Sums.{most_share, up_to}
use Rattle.sums.proofs.sum_to.Given as goal

abbrev pub invariant-loop-i : goal.invariant-loop-i
invariant-loop-i l = (l.total ≤ l.i * most_share) × (l.total ≡ sum (up_to l.plan l.j (λ i. get_or l.shares i 0)) l.i)
