-- The choice and the tick, each way out; and who is chosen is in the table and pending.
use Rattle.std.specs.Prelude.{◌≡◌, ◌⊎◌, Bool, true, false, cond, ◌&&◌, ◌||◌, ℕ, ◌+◌, ◌≤◌, ◌<◌, Option, None, Some}
use Rattle.std.proofs.Math.Path.{refl}
use Rattle.std.proofs.Common.{◌∙◌, arith}
use Rattle.rules.specs.Table.{Plan, State, job_count, cost, modified_release, executed}
use Rattle.rules.specs.Order.{comes_before}
use Rattle.rules.specs.Tick.{pending, started, may_start, first_pending, first_started, choose, chosen, advance, tick}
use Rattle.laws.specs.Tests.{Says, so, not_so, le_says, lt_says, bool_says, says_and, yes_says}
use Rattle.laws.specs.First.{first_of, first-told}
use Rattle.laws.specs.Order.{before_order}

module _ (p : Plan) (st : State) where
  pub pending_says : (j : ℕ)
      → Says
      ((modified_release p j ≤ st.tick) × (executed st j < cost p.table j))
      ((st.tick < modified_release p j) ⊎ (cost p.table j ≤ executed st j))
      (pending p st j)
  unfolding pending
  pending_says j = says_and (le_says (modified_release p j) st.tick) (lt_says (executed st j) (cost p.table j))

  -- ---- the choice, each way out

  pub chosen_idle : first_pending p st ≡ None → chosen p st ≡ None
  unfolding chosen
  chosen_idle e = rw e

  module _ (j : ℕ) (e : first_pending p st ≡ Some j) where
    pub chosen_resumes : started st j ≡ true → chosen p st ≡ Some j
    unfolding chosen
    chosen_resumes s = rw (e, s)

    pub chosen-starts : started st j ≡ false → may_start p st j ≡ true → chosen p st ≡ Some j
    unfolding chosen
    chosen-starts s m = rw (e, s, m)

    pub chosen_detains : started st j ≡ false → may_start p st j ≡ false → chosen p st ≡ first_started p st
    unfolding chosen
    chosen_detains s m = rw (e, s, m)

  -- by which of them it was made
  pub data Choice : Option ℕ → Type 0 where
    idles : first_pending p st ≡ None → Choice None
    first_runs : {j : ℕ} → first_pending p st ≡ Some j → Choice (Some j)
    detains : {f : ℕ} {o : Option ℕ} → first_pending p st ≡ Some f → started st f ≡ false → may_start p st f ≡ false
        → first_started p st ≡ o → Choice o

  pub choice_made : Choice (chosen p st)
  unfolding chosen
  choice_made = go (first_pending p st) refl
    where
      by : (f : ℕ) {a b : Bool} → first_pending p st ≡ Some f
          → Says (started st f ≡ true) (started st f ≡ false) a
          → Says (may_start p st f ≡ true) (may_start p st f ≡ false) b
          → Choice (cond (a || b) (Some f) (first_started p st))
      by f e (so s) m = first_runs e
      by f e (not_so s) (so m) = first_runs e
      by f e (not_so s) (not_so m) = detains e s m refl

      go : (o : Option ℕ) → first_pending p st ≡ o → Choice (choose p st o)
      go None e = idles e
      go (Some f) e = by f e (bool_says (started st f)) (bool_says (may_start p st f))

  -- ---- who is found and chosen

  pub first-pending-told : (j : ℕ) → first_pending p st ≡ Some j → (j < job_count p.table) × (pending p st j ≡ true)
  unfolding first_pending
  first-pending-told = first-told (first_of (comes_before p) (pending p st) (before_order p) (job_count p.table))

  pub first-started-told : (j : ℕ) → first_started p st ≡ Some j
      → (j < job_count p.table) × (pending p st j ≡ true) × (started st j ≡ true)
  unfolding first_started
  first-started-told j e =
      let (l, w) = first-told (first_of (comes_before p) (λ k. pending p st k && started st k) (before_order p) (job_count p.table)) j e in
      let (h, s) = yes_says (says_and (bool_says (pending p st j)) (bool_says (started st j))) w in (l, h, s)

  pub chosen-pending : (j : ℕ) → chosen p st ≡ Some j → (j < job_count p.table) × (pending p st j ≡ true)
  chosen-pending j e = go choice_made e
    where
      go : {o : Option ℕ} → Choice o → o ≡ Some j → (j < job_count p.table) × (pending p st j ≡ true)
      go (idles f) q = let z : ◌≡◌ {A = ℕ} 0 1 = cc in absurd (omega arith)
      go (first_runs f) q = first-pending-told j (f ∙ q)
      go (detains f s m w) q = let (l, h, b) = first-started-told j (w ∙ q) in (l, h)

  pub chosen_left : (j : ℕ) → chosen p st ≡ Some j → executed st j < cost p.table j
  chosen_left j e = (yes_says (pending_says j) (chosen-pending j e).1).1

  -- ---- the tick, each way out

  module _ (silent : Bool) where
    pub tick_idle : chosen p st ≡ None
        → record { tick = st.tick + 1; executed = st.executed; marks = st.marks; finish = st.finish } ≡ tick p st silent
    unfolding tick
    tick_idle e = rw e

    pub tick_runs : (j : ℕ) → chosen p st ≡ Some j → advance p st silent j ≡ tick p st silent
    unfolding tick
    tick_runs j e = rw e
