-- Invariant: each job gone through has what it has by itself.
use Rattle.std.proofs.Common.{◌≡◌, ℕ, ◌<◌, length, get_or}
use Rattle.modified.specs.Rounds.{start_of}
use Rattle.modified.proofs.starts.Given as goal

abbrev pub invariant-loop-j : goal.invariant-loop-j
invariant-loop-j l = (length l.times ≡ 64) × ((k : ℕ) → k < l.j → get_or l.times k 0 ≡ start_of l.table l.way k)
