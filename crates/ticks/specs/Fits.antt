-- A plan and a state that were judged, and what one tick makes of them.
use Rattle.std.specs.Prelude.{Bool, ◌≡◌, ℕ, ◌≤◌, ◌<◌, length, Option}
use Rattle.rules.specs.Table.{Table, Plan, State, job_count, arc_count, before, after}
use Rattle.rules.specs.Tick.{chosen, tick}
use Rattle.choice.specs.Fits.{Paired, Sized, SectionsFit}

-- every arc names jobs
pub record ArcsFit (t : Table) : Type 0 where
  pub inside : (a : ℕ) → a < arc_count t → (before t a < job_count t) × (after t a < job_count t)

-- there is a mark for each job
pub record Marked (t : Table) (st : State) : Type 0 where
  pub by_job : length st.marks ≡ job_count t

-- a state's lists are as long as the table's jobs
pub record Same (t : Table) (st : State) : Type 0 where
  pub by_job : length st.executed ≡ job_count t
  pub marked : Marked t st
  pub finished : length st.finish ≡ job_count t

-- a plan and a state that were judged
pub record Fit (p : Plan) (st : State) : Type 0 where
  pub lists : Same p.table st
  pub few_jobs : job_count p.table ≤ 64
  pub paired : Paired p
  pub arcs_fit : ArcsFit p.table
  pub sections_fit : SectionsFit p.table

-- they belong together
pub sized : {p : Plan} {st : State} → Fit p st → Sized p st
sized f = record { paired = f.paired; by_job = f.lists.by_job }

-- one tick: who ran, and the state after it
pub record Ticked (p : Plan) (st : State) (silent : Bool) (ran : Option ℕ) (st' : State) : Type 0 where
  pub who : ran ≡ chosen p st
  pub becomes : st' ≡ tick p st silent
