-- Demand 3: what is so of every run of an accepted table, whatever the reports. Only statements; their proofs are Theorems.
use Rattle.std.specs.Prelude.{◌≡◌, ◌↔◌, ◌⊎◌, Bool, true, false, cond, List, [], ◌∷◌, ℕ, ◌-◌, ◌≤◌, ◌<◌, length, get_or, take, replicate, None, Some}
use Rattle.rules.specs.Rows.{any}
use Rattle.rules.specs.Table.{
  Table,
  Plan,
  State,
  last_tick,
  job_count,
  section_count,
  owner,
  resource,
  ticks_of,
  modified_release,
  modified_deadline,
  mark,
  finish,
}
use Rattle.rules.specs.Refusals.{
  plan_in_bounds,
  Outcome,
  refused,
  gives,
  and_then,
  unless,
  fault,
  check,
  finished,
  all_finished,
  step_fault,
}
use Rattle.rules.specs.Order.{comes_before}
use Rattle.rules.specs.Tick.{holds, covers, chosen, ends, tick}
use Rattle.rules.specs.Run.{start, after_reports, all_end_by, end_state, waits, waited, longest_later}
use Rattle.laws.specs.Reach.{Ancestor}

-- ---- words

-- The state before the tick at place n of the reports: the one after the n reports that come before.
abbrev pub state_at : Plan → List Bool → ℕ → State
state_at p reports n = after_reports p (take n reports)

-- `Ancestor t i j`, from the laws on arcs: a chain of one arc or more leads from i to j. It is the closure of the arcs,
--   direct : precedes t i j ≡ true → Ancestor t i j
--   further : Ancestor t i m → precedes t m j ≡ true → Ancestor t i j

-- Job k is later than job j: j comes before it in the order.
abbrev pub Later : Plan → ℕ → ℕ → Type 0
Later p j k = comes_before p j k ≡ true

-- The job of a section is inside it: it holds it at the decision, or the tick is its and the section covers that tick.
pub data Inside (p : Plan) (st : State) (s : ℕ) : Type 0 where
  while_held : holds p st s ≡ true → Inside p st s
  in_its_tick : chosen p st ≡ Some (owner p.table s) → covers p st s ≡ true → Inside p st s

-- Job i ended silent: the tick at some place was its last one, and the report at that place was silent.
pub record EndedSilent (p : Plan) (reports : List Bool) (i : ℕ) : Type 0 where
  pub place : ℕ
  pub reported : place < length reports
  pub its_tick : chosen p (state_at p reports place) ≡ Some i
  pub its_last : ends p (state_at p reports place) i ≡ true
  pub silent : get_or reports place false ≡ true

-- Ticks given to later jobs, from the rules: `waits p st j`, job j is at or past its modified release and unfinished, and the
-- tick goes to a later job; `waited p st reports j`, in how many of the ticks with these reports that is so; `longest_later p j`,
-- the longest section among jobs later than j, 0 where they have none.

-- All the ticks in which job j waits go to the job `who`.
abbrev pub WaitsOnlyFor : Plan → List Bool → ℕ → ℕ → Type 0
WaitsOnlyFor p reports j who =
    (n : ℕ) → n < length reports → waits p (state_at p reports n) j ≡ true → chosen p (state_at p reports n) ≡ Some who

-- What job j waited for: nothing; or a section of a later job, to which all those ticks go, fewer than the section has.
pub data WaitedFor (p : Plan) (reports : List Bool) (j : ℕ) : Type 0 where
  nothing : waited p (start p) reports j ≡ 0 → WaitedFor p reports j
  a_section : (s : ℕ)
      → s < section_count p.table
      → Later p j (owner p.table s)
      → WaitsOnlyFor p reports j (owner p.table s)
      → waited p (start p) reports j ≤ ticks_of p.table s - 1
      → WaitedFor p reports j

-- One step as the entry takes it: refusal 12, then 13, else the tick.
abbrev pub step : Plan → State → Bool → Outcome State
step p st silent = unless (step_fault p st) (tick p st silent)

-- Steps with these reports, up to the first refusal.
abbrev pub steps : Plan → State → List Bool → Outcome State
steps p st [] = gives st
steps p st (silent ∷ rest) = and_then (step p st silent) (λ next. steps p next rest)

-- ---- the seven statements

-- (a) No job gets a tick before all its ancestors have finished.
abbrev pub AncestorsFirst : Type 0
AncestorsFirst =
    (t : Table) (p : Plan) → check t ≡ gives p → (reports : List Bool)
    → (i j : ℕ) → chosen p (after_reports p reports) ≡ Some j → Ancestor t i j → finished p (after_reports p reports) i ≡ true

-- (b) No two jobs are inside sections of one resource at once.
abbrev pub OneInside : Type 0
OneInside =
    (t : Table) (p : Plan) → check t ≡ gives p → (reports : List Bool)
    → (s k : ℕ) → resource t s ≡ resource t k
    → Inside p (after_reports p reports) s → Inside p (after_reports p reports) k → owner t s ≡ owner t k

-- (c) A finished job is marked fresh or stale, and stale exactly if it or an ancestor ended silent.
abbrev pub MarksRight : Type 0
MarksRight =
    (t : Table) (p : Plan) → check t ≡ gives p → (reports : List Bool)
    → (j : ℕ) → j < job_count t → finished p (after_reports p reports) j ≡ true
    → ((mark (after_reports p reports) j ≡ 1) ⊎ (mark (after_reports p reports) j ≡ 2))
    × ((mark (after_reports p reports) j ≡ 2) ↔ ((i : ℕ) × ((i ≡ j) ⊎ Ancestor t i j) × EndedSilent p reports i))

-- (d) From a job's modified release to its finish, ticks given to later jobs all go to one job and number at most the longest
-- section among later jobs, less one; none where they have no section.
abbrev pub WaitsBounded : Type 0
WaitsBounded =
    (t : Table) (p : Plan) → check t ≡ gives p → (reports : List Bool)
    → (j : ℕ) → ((who : ℕ) × WaitsOnlyFor p reports j who) × (waited p (start p) reports j ≤ longest_later p j - 1)

-- (e) A tick is idle exactly if no job at or past its modified release is unfinished.
abbrev pub NeverIdle : Type 0
NeverIdle =
    (t : Table) (p : Plan) → check t ≡ gives p → (reports : List Bool)
    → (chosen p (after_reports p reports) ≡ None)
    ↔ ((j : ℕ) → modified_release p j ≤ (after_reports p reports).tick → finished p (after_reports p reports) j ≡ true)

-- (f) All end by the largest modified release plus the sum of costs: after so many reports every job has finished, no finish
-- is later, and as long as a job is unfinished the tick is below it.
abbrev pub AllEnd : Type 0
AllEnd =
    (t : Table) (p : Plan) → check t ≡ gives p → (reports : List Bool)
    → (all_end_by p ≤ length reports → (j : ℕ) → finished p (after_reports p reports) j ≡ true)
    × ((j : ℕ) → finish (after_reports p reports) j ≤ all_end_by p)
    × (all_finished p (after_reports p reports) ≡ false → (after_reports p reports).tick < all_end_by p)

-- The entry's steps are these ticks: before tick 10,000,000 a step is refused exactly if every job has finished, with 13; and
-- steps from the start come to the run's state, or to 13 if every job had finished before the last of the reports.
abbrev pub StepsAreTicks : Type 0
StepsAreTicks =
    (t : Table) (p : Plan) → check t ≡ gives p → (reports : List Bool)
    → (length reports < last_tick
    → step_fault p (after_reports p reports) ≡ cond (all_finished p (after_reports p reports)) (Some (fault 13 0)) None)
    × (steps p (start p) reports
    ≡ cond
    (any (λ n. all_finished p (state_at p reports n)) (length reports))
    (refused (fault 13 0))
    (gives (after_reports p reports)))

-- ---- three more

-- (d), sharper: the one job's own section, less one.
abbrev pub WaitsForSection : Type 0
WaitsForSection =
    (t : Table) (p : Plan) → check t ≡ gives p → (reports : List Bool) → (j : ℕ) → WaitedFor p reports j

-- 003, definition 3.3: the whole schedule is quasi_normal. Where a tick of j comes before a tick of i, and i is released no
-- later than j, the deadline of j is no later than that of i.
abbrev pub QuasiNormal : Type 0
QuasiNormal =
    (t : Table) (p : Plan) → check t ≡ gives p → (reports : List Bool)
    → (m n i j : ℕ) → m < n → n ≤ length reports
    → chosen p (state_at p reports m) ≡ Some j → chosen p (state_at p reports n) ≡ Some i
    → modified_release p i ≤ modified_release p j → modified_deadline p j ≤ modified_deadline p i

-- The state to which the program runs, every report answered until all have finished, is the run's first one in which all
-- have finished, and comes by (f)'s tick; this of every plan within its bounds.
abbrev pub EndReached : Type 0
EndReached =
    (p : Plan) → plan_in_bounds p ≡ true
    → (n : ℕ) × (n ≤ all_end_by p)
    × (end_state p ≡ after_reports p (replicate n false))
    × (all_finished p (after_reports p (replicate n false)) ≡ true)
    × ((m : ℕ) → m < n → all_finished p (after_reports p (replicate m false)) ≡ false)
