-- Invariant: the words gone through are joined with the word of k as it was at the start, the others are as they were.
use Rattle.cycles.specs.Chains.{Passed}
use Rattle.cycles.proofs.through.Given as goal

abbrev pub invariant-loop-word : goal.invariant-loop-word
invariant-loop-word l = Passed l.k l.next l.initial.words l.words l.word-index
