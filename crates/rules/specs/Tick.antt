-- 01, "One tick": who runs in a tick, and what the tick writes.
use Rattle.std.specs.Prelude.{Bool, true, cond, ◌&&◌, ◌||◌, ℕ, ◌+◌, set, ltb, leb, eqb, Option, None, Some}
use Rattle.rules.specs.Rows.{all, any, sum, first}
use Rattle.rules.specs.Table.{
  Plan,
  State,
  resources,
  job_count,
  cost,
  precedes,
  section_count,
  owner,
  resource,
  from,
  to,
  modified_release,
  span,
  executed,
  mark,
}
use Rattle.rules.specs.Order.{comes_before}

-- "A job is pending if its modified release is at most the tick and it has executed less than its cost."
unfoldable pub pending : Plan → State → ℕ → Bool
pending p st j = leb (modified_release p j) st.tick && ltb (executed st j) (cost p.table j)

-- "Started if it has executed at least one tick."
unfoldable pub started : State → ℕ → Bool
started st j = ltb 0 (executed st j)

-- "A job holds a section at a decision when its executed count lies strictly between from and to."
unfoldable pub holds : Plan → State → ℕ → Bool
holds p st s =
    ltb (from p.table s) (executed st (owner p.table s)) && ltb (executed st (owner p.table s)) (to p.table s)

-- The section covers its job's next tick.
unfoldable pub covers : Plan → State → ℕ → Bool
covers p st s =
    leb (from p.table s) (executed st (owner p.table s)) && ltb (executed st (owner p.table s)) (to p.table s)

-- ---- ceilings

-- The smallest relative deadline of the jobs with a section on q is that of the section's owner found here, if there is one.
unfoldable pub tightest : Plan → ℕ → Option ℕ
unfolding first
tightest p q =
    first
    (λ a b. ltb (span p (owner p.table a)) (span p (owner p.table b)))
    (λ s. eqb (resource p.table s) q)
    (section_count p.table)

-- The relative deadline of a section's owner, where there is a section.
abbrev pub span_of : Plan → Option ℕ → Option ℕ
span_of p None = None
span_of p (Some s) = Some (span p (owner p.table s))

-- "A resource's ceiling is the smallest relative deadline of all jobs with a section on it, finished or not."
unfoldable pub ceiling : Plan → ℕ → Option ℕ
unfolding tightest
ceiling p q = span_of p (tightest p q)

-- "Strictly below the ceiling"; where nobody has a section there is none to be below.
abbrev pub below_ceiling : ℕ → Option ℕ → Bool
below_ceiling d None = true
below_ceiling d (Some c) = ltb d c

-- ---- may it start?

-- Each resource has one unit, and a section takes it.
abbrev pub units : Plan → ℕ → ℕ
units p s = 1

-- The section is on q, held, and held by a pending job.
unfoldable pub held_on : Plan → State → ℕ → ℕ → Bool
unfolding holds pending
held_on p st q s = eqb (resource p.table s) q && (holds p st s && pending p st (owner p.table s))

-- How many units of q pending jobs hold.
unfoldable pub held : Plan → State → ℕ → ℕ
unfolding sum held_on
held p st q = sum (λ s. cond (held_on p st q s) (units p s) 0) (section_count p.table)

-- A relative deadline d clears the resource q of which so many units are held: none is, or d is below the ceiling.
unfoldable pub clears : Plan → ℕ → ℕ → ℕ → Bool
unfolding ceiling
clears p d q busy = eqb busy 0 || below_ceiling d (ceiling p q)

-- "Its relative deadline is strictly below the ceiling of every resource held by any pending job, or none is held."
unfoldable pub may_start : Plan → State → ℕ → Bool
unfolding all held clears
may_start p st j = all (λ q. clears p (span p j) q (held p st q)) resources

-- ---- the choice

-- "The first pending job in the order."
unfoldable pub first_pending : Plan → State → Option ℕ
unfolding first comes_before pending
first_pending p st = first (comes_before p) (pending p st) (job_count p.table)

-- "The first started pending job in the order."
unfoldable pub first_started : Plan → State → Option ℕ
unfolding first comes_before pending started
first_started p st = first (comes_before p) (λ j. pending p st j && started st j) (job_count p.table)

-- 1. No pending job: an idle tick. 2. Otherwise take the first pending job. If it is started, it runs. 3. If it isn't, it
-- runs exactly if it may start. 4. Otherwise the first started pending job runs.
abbrev pub choose : Plan → State → Option ℕ → Option ℕ
choose p st None = None
choose p st (Some j) = cond (started st j || may_start p st j) (Some j) (first_started p st)

-- Who runs in the next tick; nobody where it is idle.
unfoldable pub chosen : Plan → State → Option ℕ
unfolding first_pending first_started started may_start
chosen p st = choose p st (first_pending p st)

-- ---- what a tick writes

-- The job's next tick is its last.
unfoldable pub ends : Plan → State → ℕ → Bool
ends p st j = eqb (executed st j + 1) (cost p.table j)

-- How a job can end badly: its report is silent.
unfoldable pub ends_badly : Plan → State → ℕ → Bool → Bool
ends_badly p st j silent = silent

-- "Marked stale if the report is silent or a direct predecessor is marked stale; else fresh."
unfoldable pub ends_stale : Plan → State → ℕ → Bool → Bool
unfolding any precedes ends_badly
ends_stale p st j silent =
    ends_badly p st j silent || any (λ i. precedes p.table i j && eqb (mark st i) 2) (job_count p.table)

-- Marks: 2 is stale, 1 is fresh.
abbrev pub mark_for : Bool → ℕ
mark_for stale = cond stale 2 1

-- A tick that job j is given. Mark and finish change only in the tick that ends it; finish is the tick number after the step.
unfoldable pub advance : Plan → State → Bool → ℕ → State
unfolding ends ends_stale
advance p st silent j =
    record {
      tick = st.tick + 1;
      executed = set st.executed j (executed st j + 1);
      marks = cond (ends p st j) (set st.marks j (mark_for (ends_stale p st j silent))) st.marks;
      finish = cond (ends p st j) (set st.finish j (st.tick + 1)) st.finish;
    }

-- What a choice does, whoever made it.
abbrev pub move : Plan → State → Bool → Option ℕ → State
move p st silent None = record { tick = st.tick + 1; executed = st.executed; marks = st.marks; finish = st.finish }
move p st silent (Some j) = advance p st silent j

-- One tick, with its report.
unfoldable pub tick : Plan → State → Bool → State
unfolding chosen advance
tick p st silent = move p st silent (chosen p st)
