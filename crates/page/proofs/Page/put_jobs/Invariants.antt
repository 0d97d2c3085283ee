-- The lines of the jobs so far, and then the next job's.
use Rattle.std.proofs.Common.{◌+◌, ◌*◌, ◌≤◌, length}
use Rattle.rules.specs.Output.{jobs_lines}
use Rattle.page.specs.Page.{Adds}
use Rattle.page.proofs.Page.put_jobs.Given as goal

abbrev pub invariant-loop-j : goal.invariant-loop-j
invariant-loop-j l = record {
  written : Adds l.initial.self (jobs_lines l.plan l.state l.j) l.self;
  short : length l.self ≤ length l.initial.self + 89 * l.j;
}
