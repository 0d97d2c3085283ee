-- Five lines, one after the other.
use Rattle.page.specs.Page.{next}
use Rattle.rules.specs.Output.{job_lines}
use Rattle.rules.specs.Run.{lateness}
use Rattle.rules.specs.Text.{bytes_of}
use Rattle.page.proofs.Page.put_job.Goals as goal

pub returns-clause-written : goal.returns-clause-written
unfolding job_lines bytes_of lateness
returns-clause-written c =
    next (rw c.release.ensures at c.put_line.ensures.written)
    (next (rw c.deadline-modified.ensures at c.put_line-2.ensures.written)
    (next (rw c.finish.ensures at c.put_line-3.ensures.written)
    (next (next c.put.ensures (next (rw (c.finish.ensures, c.deadline-given.ensures, c.table.ensures) at c.put_late.ensures.written) c.put-2.ensures))
    (rw c.marks.ensures at c.put_mark.ensures.written))))
