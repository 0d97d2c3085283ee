-- The code's lists as a table, a plan and a state: what the promises speak of.
use Rattle.std.specs.Prelude.{List, [], ℕ}
use Rattle.rules.specs.Table.{Table, Plan, State}

-- The three lists of a table.
abbrev pub table : List ℕ → List ℕ → List ℕ → Table
table jobs arcs sections = record { jobs = jobs; arcs = arcs; sections = sections }

-- These and the modified times.
abbrev pub plan : List ℕ → List ℕ → List ℕ → List ℕ → Plan
plan jobs arcs sections times = record { table = table jobs arcs sections; times = times }

-- A table and the modified times of its jobs.
abbrev pub with_times : Table → List ℕ → Plan
with_times t times = record { table = t; times = times }

-- The tick and the three lists of a state.
abbrev pub state : ℕ → List ℕ → List ℕ → List ℕ → State
state tick executed marks finish = record { tick = tick; executed = executed; marks = marks; finish = finish }

-- What the order and the times of jobs need of a plan.
abbrev pub timed : List ℕ → List ℕ → Plan
timed jobs times = plan jobs [] [] times

-- What a choice needs of a state.
abbrev pub at : ℕ → List ℕ → State
at tick executed = state tick executed [] []
