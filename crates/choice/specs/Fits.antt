-- What the choice is handed, and what it looks at.
use Rattle.std.specs.Prelude.{Bool, cond, ◌&&◌, ◌||◌, List, ◌≡◌, ℕ, ◌*◌, ◌≤◌, ◌<◌, length, get_or, ltb, eqb}
use Rattle.rules.specs.Rows.{sum}
use Rattle.rules.specs.Table.{Table, Plan, State, resources, job_count, section_count, owner, resource, span}
use Rattle.rules.specs.Tick.{pending, holds, held_on}

-- there is a pair of times for each job
pub record Paired (p : Plan) : Type 0 where
  pub pairs : length p.times ≡ 2 * job_count p.table

-- a plan and a state that belong together
pub record Sized (p : Plan) (st : State) : Type 0 where
  pub paired : Paired p
  pub by_job : length st.executed ≡ job_count p.table

-- sections are few, and each names a job and a resource
pub record SectionsFit (t : Table) : Type 0 where
  pub few : length t.sections ≤ 512
  pub inside : (s : ℕ) → s < section_count t → (owner t s < job_count t) × (resource t s < resources)

-- section s is held by a pending job
unfoldable pub held_now : Plan → State → ℕ → Bool
unfolding holds pending
held_now p st s = holds p st s && pending p st (owner p.table s)

-- the units of each resource that pending jobs hold in the first m sections
pub record HeldTo (p : Plan) (st : State) (m : ℕ) (units : List ℕ) : Type 0 where
  pub all_listed : length units ≡ resources
  pub are : (q : ℕ) → q < resources → get_or units q 0 ≡ sum (λ s. cond (held_on p st q s) 1 0) m

-- nothing of the section's resource is held, or the span is below the section's owner's
unfoldable pub clear_of : Plan → ℕ → List ℕ → ℕ → Bool
clear_of p d units s = eqb (get_or units (resource p.table s) 0) 0 || ltb d (span p (owner p.table s))
