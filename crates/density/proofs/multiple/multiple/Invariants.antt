-- The loop has the multiple of the jobs passed, within the limit; where one more exceeds it, the whole multiple does.
use Rattle.std.proofs.Common.{◌≡◌, ◌≤◌}
use Rattle.rules.specs.Density.{multiple_to, most_multiple}
use Rattle.density.proofs.multiple.multiple.Given as goal

abbrev pub invariant-loop-j : goal.invariant-loop-j
invariant-loop-j l = (l.m ≡ multiple_to l.plan l.j) × (l.m ≤ most_multiple)
