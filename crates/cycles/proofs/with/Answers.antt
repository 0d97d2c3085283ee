-- The shifted one is the set of that job alone.
use Rattle.cycles.specs.Words.{insert-is}
use Rattle.cycles.proofs.with.Goals as goal

pub returns : goal.returns
returns c = insert-is _ _ c.requires
