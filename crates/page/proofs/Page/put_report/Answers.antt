-- The number of jobs, the lines of each, the tick, on a page that had nothing.
use Rattle.page.specs.Page.{next}
use Rattle.rules.specs.Output.{report}
use Rattle.rules.specs.Text.{bytes_of}
use Rattle.page.proofs.Page.put_report.Goals as goal

pub returns : goal.returns
unfolding report bytes_of
returns c = (next (rw (c.requires.empty, c.job_count-count.ensures, c.table.ensures) at c.put_line.ensures.written)
    (next c.put_jobs.ensures.written (rw c.tick-tick.ensures at c.put_line-2.ensures.written))).list
