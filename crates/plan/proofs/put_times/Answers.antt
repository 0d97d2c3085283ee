-- Too little room writes nothing; else what was written is as long as the answer says.
use Rattle.std.proofs.Common.{arith}
use Rattle.modified.specs.Rounds.{pairs_length}
use Rattle.plan.specs.Promise.{put-short}
use Rattle.plan.proofs.put_times.Goals as goal

pub returns-then-times-needed : goal.returns-then-times-needed
returns-then-times-needed c = put-short _ _ _ (pairs_length _ _ _) (omega arith)
