-- 01, "What the daemon hands over": tables, plans and states as lists, and what stands in their rows.
use Rattle.std.specs.Prelude.{Bool, ◌&&◌, List, ℕ, ◌+◌, ◌*◌, ◌/◌, ◌-◌, length, get_or, eqb}
use Rattle.rules.specs.Rows.{any}

-- A table: release, cost, deadline for each job; before, after for each arc; job, resource, from, to for each section.
pub record Table : Type 0 where
  pub jobs : List ℕ
  pub arcs : List ℕ
  pub sections : List ℕ

-- A plan: a table with its modified times, a pair (release, deadline) for each job.
pub record Plan : Type 0 where
  pub table : Table
  pub times : List ℕ

-- A state: the tick and, for each job, its executed ticks, its mark and its finish.
pub record State : Type 0 where
  pub tick : ℕ
  pub executed : List ℕ
  pub marks : List ℕ
  pub finish : List ℕ

-- ---- widths and bounds

-- "Release, cost, deadline per job."
abbrev pub job_width : ℕ
job_width = 3

-- "Before, after per arc."
abbrev pub arc_width : ℕ
arc_width = 2

-- "Job, resource, from, to per section."
abbrev pub section_width : ℕ
section_width = 4

-- Jobs: 1 to 64.
abbrev pub most_jobs : ℕ
most_jobs = 64

-- Arcs: 0 to 256.
abbrev pub most_arcs : ℕ
most_arcs = 256

-- Sections: 0 to 128.
abbrev pub most_sections : ℕ
most_sections = 128

-- Release and deadline: 0 to 1,000,000.
abbrev pub latest : ℕ
latest = 1_000_000

-- Cost: 1 to 100,000.
abbrev pub most_cost : ℕ
most_cost = 100_000

-- Resource: 0 to 15.
abbrev pub resources : ℕ
resources = 16

-- Tick of a state: 0 to 10,000,000.
abbrev pub last_tick : ℕ
last_tick = 10_000_000

-- ---- rows of a table, numbered from 0

-- How many jobs the table has.
abbrev pub job_count : Table → ℕ
job_count t = length t.jobs / job_width

-- The given release of job j.
abbrev pub release : Table → ℕ → ℕ
release t j = get_or t.jobs (3 * j) 0

-- The cost of job j: the ticks that it needs.
abbrev pub cost : Table → ℕ → ℕ
cost t j = get_or t.jobs (3 * j + 1) 0

-- The given deadline of job j.
abbrev pub deadline : Table → ℕ → ℕ
deadline t j = get_or t.jobs (3 * j + 2) 0

-- How many arcs the table has.
abbrev pub arc_count : Table → ℕ
arc_count t = length t.arcs / arc_width

-- The job that comes first on arc a.
abbrev pub before : Table → ℕ → ℕ
before t a = get_or t.arcs (2 * a) 0

-- The job that depends on it.
abbrev pub after : Table → ℕ → ℕ
after t a = get_or t.arcs (2 * a + 1) 0

-- Job i is a direct predecessor of job j, and j a direct successor of i: some arc leads from i to j.
unfoldable pub precedes : Table → ℕ → ℕ → Bool
unfolding any
precedes t i j = any (λ a. eqb (before t a) i && eqb (after t a) j) (arc_count t)

-- How many sections the table has.
abbrev pub section_count : Table → ℕ
section_count t = length t.sections / section_width

-- The job of section s.
abbrev pub owner : Table → ℕ → ℕ
owner t s = get_or t.sections (4 * s) 0

-- The resource that section s is on.
abbrev pub resource : Table → ℕ → ℕ
resource t s = get_or t.sections (4 * s + 1) 0

-- "A section covers its job's own executed ticks numbered from (included) .."
abbrev pub from : Table → ℕ → ℕ
from t s = get_or t.sections (4 * s + 2) 0

-- ".. to to (excluded), counted from 0."
abbrev pub to : Table → ℕ → ℕ
to t s = get_or t.sections (4 * s + 3) 0

-- How many ticks a section covers.
abbrev pub ticks_of : Table → ℕ → ℕ
ticks_of t s = to t s - from t s

-- ---- what a plan and a state say of a job

-- The modified release of job j, as the plan has it.
abbrev pub modified_release : Plan → ℕ → ℕ
modified_release p j = get_or p.times (2 * j) 0

-- The modified deadline of job j, as the plan has it.
abbrev pub modified_deadline : Plan → ℕ → ℕ
modified_deadline p j = get_or p.times (2 * j + 1) 0

-- "The relative deadline is modified deadline less modified release."
abbrev pub span : Plan → ℕ → ℕ
span p j = modified_deadline p j - modified_release p j

-- How many ticks job j has executed.
abbrev pub executed : State → ℕ → ℕ
executed st j = get_or st.executed j 0

-- "Marks 0 (none), 1 (fresh), 2 (stale)."
abbrev pub mark : State → ℕ → ℕ
mark st j = get_or st.marks j 0

-- "A finish is 0 until the job ends."
abbrev pub finish : State → ℕ → ℕ
finish st j = get_or st.finish j 0
