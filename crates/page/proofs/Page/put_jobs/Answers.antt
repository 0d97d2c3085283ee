use Rattle.std.proofs.Common.{arith}
use Rattle.page.specs.Page.{next, nothing, jobs_none, jobs_more}
use Rattle.page.proofs.Page.put_jobs.Goals as goal

pub loop-j-init : goal.loop-j-init
loop-j-init c = record { written = rw (jobs_none _ _) (nothing _); short = omega arith }

pub loop-j-preserved : goal.loop-j-preserved
loop-j-preserved c = let i = c.loop-j.invariant in
    record { written = rw (jobs_more _ _ _) (next i.written c.put_job.ensures.written); short = omega (arith, c.put_job.ensures.short) }
