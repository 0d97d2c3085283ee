-- Laws for the mark rule: looking through the arcs for a stale tail is looking through the direct predecessors.
use Rattle.std.specs.Prelude.{◌≡◌, ◌≢◌, ◌⊎◌, Bool, ◌&&◌, ℕ, ◌+◌, ◌<◌, set, eqb}
use Rattle.std.proofs.Math.Path.{refl}
use Rattle.std.proofs.Common.{◌∙◌, ap}
use Rattle.std.proofs.Math.Logic.{⊎_elim}
use Rattle.rules.specs.Rows.{any}
use borrow.Author.Tests.{eq-eqb, ne_eqb}
use Rattle.rules.specs.Table.{Table, Plan, State, job_count, arc_count, before, after, precedes, cost, executed, mark}
use Rattle.rules.specs.Tick.{ends_stale, mark_for}
use Rattle.laws.specs.Tests.{Says, so, not_so, eq_says, says_and}
use Rattle.laws.specs.Rows.{any_says}
use Rattle.laws.specs.Reach.{Arc, precedes_says}
use Rattle.laws.specs.Events.{advance_by}
use Rattle.rules.specs.Lists.{state}
use Rattle.ticks.specs.Fits.{ArcsFit}

-- arc a leads from a stale job to this one
unfoldable pub brings_stale : Table → State → ℕ → ℕ → Bool
brings_stale t st job a = eqb (after t a) job && eqb (mark st (before t a)) 2

-- a direct predecessor of the job is marked stale
unfoldable pub stale_before : Table → State → ℕ → Bool
unfolding any precedes
stale_before t st job = any (λ i. precedes t i job && eqb (mark st i) 2) (job_count t)

module _ (t : Table) (st : State) (job : ℕ) (fit : ArcsFit t) where
  pub stale_by_arcs : any (brings_stale t st job) (arc_count t) ≡ stale_before t st job
  unfolding stale_before brings_stale
  stale_by_arcs =
      go
      (any_says _ _ _ (λ a. says_and (eq_says (after t a) job) (eq_says (mark st (before t a)) 2)) (arc_count t))
      (any_says _ _ _ (λ i. says_and (precedes_says t i job) (eq_says (mark st i) 2)) (job_count t))
    where
      go : {x y : Bool}
          → Says
          ((a : ℕ) × (a < arc_count t) × ((after t a ≡ job) × (mark st (before t a) ≡ 2)))
          ((a : ℕ) → a < arc_count t → (after t a ≢ job) ⊎ (mark st (before t a) ≢ 2))
          x
          → Says
          ((i : ℕ) × (i < job_count t) × (Arc t i job × (mark st i ≡ 2)))
          ((i : ℕ) → i < job_count t → (Arc t i job → ⊥) ⊎ (mark st i ≢ 2))
          y
          → x ≡ y
      go (so w) (so v) = refl
      go (not_so w) (not_so v) = refl
      go (so (a, l, e)) (not_so v) =
          ⊎_elim
          (λ k. absurd (k (record { number = a; in_table = l; tail = refl; head = e.0 })))
          (λ k. absurd (k e.1))
          (v (before t a) (fit.inside a l).0)
      go (not_so w) (so (i, l, e)) =
          ⊎_elim
          (λ k. absurd (k e.0.head))
          (λ k. absurd (k (ap (λ j. mark st j) e.0.tail ∙ e.1)))
          (w e.0.number e.0.in_table)

-- ---- what given ticks write, each way out

module _ (p : Plan) (st : State) (silent : Bool) (job ticks : ℕ) where
  pub ticks_end : (m : ℕ) → executed st job + ticks ≡ cost p.table job → m ≡ mark_for (ends_stale p st job silent)
      → state (st.tick + ticks) (set st.executed job (executed st job + ticks)) (set st.marks job m) (set st.finish job (st.tick + ticks))
      ≡ advance_by p st silent job ticks
  unfolding advance_by
  ticks_end m e q = rw (q, eq-eqb _ _ e)

  pub ticks_go_on : (executed st job + ticks ≡ cost p.table job → ⊥)
      → state (st.tick + ticks) (set st.executed job (executed st job + ticks)) st.marks st.finish ≡ advance_by p st silent job ticks
  unfolding advance_by
  ticks_go_on e = rw (ne_eqb _ _ e)
