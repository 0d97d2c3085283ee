-- The shifted word's last digit is the word's digit at the job.
use Rattle.cycles.specs.Words.{has-is}
use Rattle.cycles.proofs.holds.Goals as goal

pub returns : goal.returns
returns c = has-is _ _
