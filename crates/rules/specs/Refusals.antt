-- 01, "Numbered refusals": what is refused, with which number, at which place, in which order.
use Rattle.std.specs.Prelude.{Bool, true, false, cond, not, ◌&&◌, ◌||◌, List, [], ◌∷◌, ◌++◌, ℕ, zero, suc, ◌+◌, ◌*◌, ◌%◌, length, ltb, leb, eqb, Option, None, Some}
use Rattle.rules.specs.Rows.{all, any, lowest}
use Rattle.rules.specs.Table.{
  Table,
  Plan,
  State,
  job_width,
  arc_width,
  section_width,
  most_jobs,
  most_arcs,
  most_sections,
  latest,
  most_cost,
  resources,
  last_tick,
  job_count,
  release,
  cost,
  deadline,
  arc_count,
  before,
  after,
  precedes,
  section_count,
  owner,
  resource,
  from,
  to,
  modified_release,
  modified_deadline,
  executed,
  mark,
  finish,
}
use Rattle.rules.specs.Times.{lift, new_release, lifted_deadline, times_to}
use Rattle.rules.specs.declared.Refusal.{Refusal}
use Rattle.rules.specs.declared.Refusal.TheVariants.{
  Text,
  Jobs,
  Arcs,
  Sections,
  JobOut,
  ArcOut,
  SectionOut,
  Clash,
  Cycle,
  Window,
  Room,
  Bounds,
  Finished,
  Multiple,
}

-- ---- what a refusal says

-- A refusal returns its number and its place.
pub record Fault : Type 0 where
  pub number : ℕ
  pub place : ℕ

-- The refusal with number n, at place k.
abbrev pub fault : ℕ → ℕ → Fault
fault n k = record { number = n; place = k }

-- 01's number for each case of the code's enum.
abbrev pub number_of : Refusal → ℕ
number_of (Text line) = 1
number_of (Jobs line) = 2
number_of (Arcs line) = 3
number_of (Sections line) = 4
number_of (JobOut job) = 5
number_of (ArcOut arc) = 6
number_of (SectionOut section) = 7
number_of (Clash section) = 8
number_of (Cycle job) = 9
number_of (Window job) = 10
number_of Room = 11
number_of Bounds = 12
number_of Finished = 13
number_of Multiple = 14

-- 01's place for each case.
abbrev pub place_of : Refusal → ℕ
place_of (Text line) = line
place_of (Jobs line) = line
place_of (Arcs line) = line
place_of (Sections line) = line
place_of (JobOut job) = job
place_of (ArcOut arc) = arc
place_of (SectionOut section) = section
place_of (Clash section) = section
place_of (Cycle job) = job
place_of (Window job) = job
place_of Room = 0
place_of Bounds = 0
place_of Finished = 0
place_of Multiple = 0

-- 01's number and place of the code's refusal.
abbrev pub fault_of : Refusal → Fault
fault_of r = fault (number_of r) (place_of r)

-- What an entry comes to: a refusal, or what it gives.
pub data Outcome (A : Type 0) : Type 0 where
  refused : Fault → Outcome A
  gives : A → Outcome A

-- go on with what is given; a refusal stays
abbrev pub and_then : {A B : Type 0} → Outcome A → (A → Outcome B) → Outcome B
and_then (refused f) go = refused f
and_then (gives a) go = go a

-- Refusals are looked for in a fixed order, and the first one found is given.
abbrev pub first_of : List (Option Fault) → Option Fault
first_of [] = None
first_of (None ∷ later) = first_of later
first_of (Some f ∷ later) = Some f

-- The refusal, where there is one; else a is given.
abbrev pub unless : {A : Type 0} → Option Fault → A → Outcome A
unless None a = gives a
unless (Some f) a = refused f

-- refusal n at place 0, where the test fails
abbrev pub demand : Bool → ℕ → Option Fault
demand right n = cond right None (Some (fault n 0))

-- refusal n at the row that was found, if one was
abbrev pub at_row : ℕ → Option ℕ → Option Fault
at_row n None = None
at_row n (Some k) = Some (fault n k)

-- ---- 2, 3, 4: counts and lengths

-- A right count of jobs: 1 to 64.
abbrev pub jobs_right : ℕ → Bool
jobs_right n = leb 1 n && leb n most_jobs

-- A right count of arcs: 0 to 256.
abbrev pub arcs_right : ℕ → Bool
arcs_right n = leb n most_arcs

-- A right count of sections: 0 to 128.
abbrev pub sections_right : ℕ → Bool
sections_right n = leb n most_sections

-- "Count not .., or length not a multiple of ..".
unfoldable pub count_faults : Table → List (Option Fault)
count_faults t =
    demand (eqb (length t.jobs % job_width) 0 && jobs_right (job_count t)) 2
    ∷ demand (eqb (length t.arcs % arc_width) 0 && arcs_right (arc_count t)) 3
    ∷ demand (eqb (length t.sections % section_width) 0 && sections_right (section_count t)) 4
    ∷ []

-- ---- 5, 6, 7: what stands in a row

-- "A release, cost or deadline out of bounds."
unfoldable pub job_out : Table → ℕ → Bool
job_out t j =
    ltb latest (release t j) || (eqb (cost t j) 0 || (ltb most_cost (cost t j) || ltb latest (deadline t j)))

-- "An arc names a job not in the table."
unfoldable pub arc_out : Table → ℕ → Bool
arc_out t a = leb (job_count t) (before t a) || leb (job_count t) (after t a)

-- "A section's job not in the table, resource over 15, from not below to, or to above the job's cost."
unfoldable pub section_out : Table → ℕ → Bool
section_out t s =
    leb (job_count t) (owner t s)
    || (leb resources (resource t s) || (leb (to t s) (from t s) || ltb (cost t (owner t s)) (to t s)))

-- 5, 6 and 7, each at its lowest row.
unfoldable pub row_faults : Table → List (Option Fault)
unfolding lowest job_out arc_out section_out
row_faults t =
    at_row 5 (lowest (job_out t) (job_count t))
    ∷ at_row 6 (lowest (arc_out t) (arc_count t))
    ∷ at_row 7 (lowest (section_out t) (section_count t))
    ∷ []

-- ---- 8: sections that clash

-- Two sections overlap if they share a tick; adjacent ones don't.
unfoldable pub overlap : Table → ℕ → ℕ → Bool
overlap t k s = ltb (from t k) (to t s) && ltb (from t s) (to t k)

-- Section k lies within section s; equal ranges lie within one another.
unfoldable pub within : Table → ℕ → ℕ → Bool
within t k s = leb (from t s) (from t k) && leb (to t k) (to t s)

-- "Two sections of a job clash if they overlap and neither lies within the other, or overlap on the same resource."
unfoldable pub clash : Table → ℕ → ℕ → Bool
unfolding overlap within
clash t k s =
    eqb (owner t k) (owner t s)
    && (overlap t k s && (eqb (resource t k) (resource t s) || not (within t k s || within t s k)))

-- "A section clashes with a lower-numbered one of the same job."
unfoldable pub clashes : Table → ℕ → Bool
unfolding any clash
clashes t s = any (λ k. clash t k s) s

-- ---- 9: cycles

-- A chain of arcs leads from i to j, and the jobs on the way between them are all below k.
unfoldable pub reaches_by : Table → ℕ → ℕ → ℕ → Bool
unfolding precedes
reaches_by t zero i j = precedes t i j
reaches_by t (suc k) i j = reaches_by t k i j || (reaches_by t k i k && reaches_by t k k j)

-- Job i is an ancestor of job j: some chain of arcs leads from i to j.
unfoldable pub reaches : Table → ℕ → ℕ → Bool
unfolding reaches_by
reaches t i j = reaches_by t (job_count t) i j

-- A job is on a cycle if it reaches itself.
unfoldable pub on_cycle : Table → ℕ → Bool
unfolding reaches
on_cycle t j = reaches t j j

-- ---- 10: windows

-- "Modified deadline less modified release is below cost."
unfoldable pub too_short : Table → ℕ → Bool
unfolding new_release lifted_deadline
too_short t j = ltb (lifted_deadline t j) (lift + new_release t j + cost t j)

-- 8, 9 and 10, each at its lowest row.
unfoldable pub plan_faults : Table → List (Option Fault)
unfolding lowest clashes on_cycle too_short
plan_faults t =
    at_row 8 (lowest (clashes t) (section_count t))
    ∷ at_row 9 (lowest (on_cycle t) (job_count t))
    ∷ at_row 10 (lowest (too_short t) (job_count t))
    ∷ []

-- ---- the table check

-- "The table check runs 2 to 10 in that order."
unfoldable pub check_fault : Table → Option Fault
unfolding count_faults row_faults plan_faults
check_fault t = first_of (count_faults t ++ (row_faults t ++ plan_faults t))

-- The plan that an accepted table gives.
unfoldable pub plan_of : Table → Plan
unfolding times_to
plan_of t = record { table = t; times = times_to t (job_count t) }

-- The table check: its first refusal, or the plan that the table gives.
unfoldable pub check : Table → Outcome Plan
unfolding check_fault plan_of
check t = unless (check_fault t) (plan_of t)

-- ---- 11: room

-- "A lent list is too short for the result", which needs so many places and is lent so many; given last.
abbrev pub room : ℕ → ℕ → Option Fault
room needed lent = demand (leb needed lent) 11

-- ---- 12: plans and states handed in

-- No refusal was found.
abbrev pub accepted : Option Fault → Bool
accepted None = true
accepted (Some f) = false

-- The modified times of a job "lie in 0 to 1,000,000, window at least cost".
unfoldable pub times_right : Plan → ℕ → Bool
times_right p j =
    leb (modified_release p j) latest
    && (leb (modified_deadline p j) latest && leb (modified_release p j + cost p.table j) (modified_deadline p j))

-- "Counts and values of a plan must meet rules 2 to 7, its modified times, a pair for each job, .."
unfoldable pub plan_in_bounds : Plan → Bool
unfolding all count_faults row_faults times_right
plan_in_bounds p =
    accepted (first_of (count_faults p.table ++ row_faults p.table))
    && (eqb (length p.times) (2 * job_count p.table) && all (times_right p) (job_count p.table))

-- "Executed ticks at most cost; marks 0, 1, 2; finish at most 10,000,000."
unfoldable pub job_state_right : Plan → State → ℕ → Bool
job_state_right p st j =
    leb (executed st j) (cost p.table j) && (leb (mark st j) 2 && leb (finish st j) last_tick)

-- "The state's lists as long as the plan's jobs; tick at most 10,000,000."
unfoldable pub state_in_bounds : Plan → State → Bool
unfolding all job_state_right
state_in_bounds p st =
    eqb (length st.executed) (job_count p.table)
    && (eqb (length st.marks) (job_count p.table)
    && (eqb (length st.finish) (job_count p.table)
    && (leb st.tick last_tick && all (job_state_right p st) (job_count p.table))))

-- ---- 13: a step at the end

-- A job has finished when its executed ticks are its cost.
abbrev pub finished : Plan → State → ℕ → Bool
finished p st j = eqb (executed st j) (cost p.table j)

-- "Every job has finished."
unfoldable pub all_finished : Plan → State → Bool
unfolding all
all_finished p st = all (finished p st) (job_count p.table)

-- "The step gives 12, then 13"; for a step the tick is below 10,000,000.
unfoldable pub step_fault : Plan → State → Option Fault
unfolding plan_in_bounds state_in_bounds all_finished
step_fault p st =
    first_of
    (demand (plan_in_bounds p && (state_in_bounds p st && ltb st.tick last_tick)) 12
    ∷ demand (not (all_finished p st)) 13
    ∷ [])
