-- Laws for the judgement before a step, each way out, and what is known where a step can be taken.
use Rattle.std.specs.Prelude.{◌≡◌, not, ◌&&◌, [], ◌∷◌, ◌++◌, ℕ, ◌*◌, ◌≤◌, ◌<◌, length, None, Some}
use Rattle.std.proofs.Math.Path.{refl}
use Rattle.std.proofs.Math.Logic.{⊎_elim}
use Rattle.std.proofs.Math.Bool.{Bool, true, false}
use Rattle.std.proofs.Common.{arith}
use Rattle.std.proofs.Math.Dec.{ltb}
use borrow.Author.Tests.{lt-ltb, le-ltb}
use Rattle.rules.specs.Rows.{all}
use Rattle.rules.specs.Table.{Plan, State, job_count, cost, deadline, last_tick, latest, modified_release, executed, mark, finish}
use Rattle.rules.specs.Refusals.{fault, first_of, demand, accepted, count_faults, row_faults, times_right, plan_in_bounds, job_state_right, state_in_bounds, all_finished, step_fault}
use Rattle.laws.specs.Tests.{Says, bool_says, eq_says, le_says, lt_says, says_map, says_and, yes_says, no_says, says_yes}
use Rattle.laws.specs.Rows.{all-at, all_says}
use Rattle.laws.specs.Refusals.{all_none, demand-none, bounds_rows}
use Rattle.rules.specs.Lists.{timed}
use Rattle.ticks.specs.Fits.{Same, Fit}
use Rattle.states.specs.Ends.{Bounded}

-- A plan and a state of it are within their bounds.
unfoldable pub in_bounds : Plan → State → Bool
in_bounds p st = plan_in_bounds p && state_in_bounds p st

-- ---- what a state within its bounds is known to be

-- what a state says of one job is within its bounds
pub record JobStateIn (p : Plan) (st : State) (j : ℕ) : Type 0 where
  pub executed_in : executed st j ≤ cost p.table j
  pub mark_in : mark st j ≤ 2
  pub finish_in : finish st j ≤ last_tick

-- the lists have a place for each job, and all is within its bounds
pub record StateIn (p : Plan) (st : State) : Type 0 where
  pub executed_long : length st.executed ≡ job_count p.table
  pub marks_long : length st.marks ≡ job_count p.table
  pub finish_long : length st.finish ≡ job_count p.table
  pub tick_in : st.tick ≤ last_tick
  pub job_in : (j : ℕ) → j < job_count p.table → JobStateIn p st j

module _ (p : Plan) (st : State) where
  job_state : (j : ℕ) → Says (JobStateIn p st j) (JobStateIn p st j → ⊥) (job_state_right p st j)
  unfolding job_state_right
  job_state j =
      says_map
      (λ w. record { executed_in = w.0; mark_in = w.1.0; finish_in = w.1.1 })
      (⊎_elim (λ l h. omega (arith, h.executed_in)) (⊎_elim (λ l h. omega (arith, h.mark_in)) (λ l h. omega (arith, h.finish_in))))
      (says_and (le_says (executed st j) (cost p.table j)) (says_and (le_says (mark st j) 2) (le_says (finish st j) last_tick)))

  state_says : Says (StateIn p st) (StateIn p st → ⊥) (state_in_bounds p st)
  unfolding state_in_bounds
  state_says =
      says_map
      (λ w. record { executed_long = w.0; marks_long = w.1.0; finish_long = w.1.1.0; tick_in = w.1.1.1.0; job_in = w.1.1.1.1 })
      (⊎_elim
      (λ n h. n h.executed_long)
      (⊎_elim
      (λ n h. n h.marks_long)
      (⊎_elim
      (λ n h. n h.finish_long)
      (⊎_elim (λ l h. omega (arith, h.tick_in)) (λ w h. w.2 (h.job_in w.0 w.1))))))
      (says_and
      (eq_says (length st.executed) (job_count p.table))
      (says_and
      (eq_says (length st.marks) (job_count p.table))
      (says_and
      (eq_says (length st.finish) (job_count p.table))
      (says_and
      (le_says st.tick last_tick)
      (all_says _ _ (job_state_right p st) job_state (job_count p.table))))))

  pub state_in : state_in_bounds p st ≡ true → StateIn p st
  state_in = yes_says state_says

  pub in_state : StateIn p st → state_in_bounds p st ≡ true
  in_state = says_yes state_says

-- ---- the judgement before a step, each way out

module _ (p : Plan) (st : State) where
  pub unfit : in_bounds p st ≡ false → Some (fault 12 0) ≡ step_fault p st
  unfolding step_fault in_bounds
  unfit e = ⊎_elim (λ a. rw a) (λ b. go (plan_in_bounds p) b) (no_says (says_and (bool_says (plan_in_bounds p)) (bool_says (state_in_bounds p st))) e)
    where
      go : (a : Bool) → state_in_bounds p st ≡ false
          → Some (fault 12 0)
          ≡ first_of (demand (a && (state_in_bounds p st && ltb st.tick last_tick)) 12 ∷ demand (not (all_finished p st)) 13 ∷ [])
      go true b = rw b
      go false b = refl

  pub bounds_plan : plan_in_bounds p ≡ false → false ≡ in_bounds p st
  unfolding in_bounds
  bounds_plan a = rw a refl

  -- neither arcs nor sections nor times have a part in the bounds of a state
  pub bounds_state : (r : Bool) → plan_in_bounds p ≡ true → r ≡ state_in_bounds (timed p.table.jobs []) st → r ≡ in_bounds p st
  unfolding in_bounds state_in_bounds job_state_right
  bounds_state r a b = rw a b

  pub both : in_bounds p st ≡ true → (plan_in_bounds p ≡ true) × (state_in_bounds p st ≡ true)
  unfolding in_bounds
  both e = yes_says (says_and (bool_says (plan_in_bounds p)) (bool_says (state_in_bounds p st))) e

  -- where a step can be taken
  pub step_good : step_fault p st ≡ None → (plan_in_bounds p ≡ true) × (state_in_bounds p st ≡ true) × (st.tick < last_tick)
  unfolding step_fault
  step_good q =
      let judged : Bool = plan_in_bounds p && (state_in_bounds p st && ltb st.tick last_tick) in
      let (a, b) =
      yes_says
      (says_and (bool_says (plan_in_bounds p)) (says_and (bool_says (state_in_bounds p st)) (lt_says st.tick last_tick)))
      (demand-none judged 12 (all_none (demand judged 12 ∷ demand (not (all_finished p st)) 13 ∷ []) q).0) in
      (a, b.0, b.1)

  module _ (h : in_bounds p st ≡ true) where
    pub too_late : last_tick ≤ st.tick → Some (fault 12 0) ≡ step_fault p st
    unfolding step_fault
    too_late l = let (a, b) = both h in rw (a, b, le-ltb st.tick last_tick l)

    module _ (l : st.tick < last_tick) where
      pub over : all_finished p st ≡ true → Some (fault 13 0) ≡ step_fault p st
      unfolding step_fault
      over d = let (a, b) = both h in rw (a, b, lt-ltb st.tick last_tick l, d)

      pub ready : all_finished p st ≡ false → None ≡ step_fault p st
      unfolding step_fault
      ready d = let (a, b) = both h in rw (a, b, lt-ltb st.tick last_tick l, d)

-- ---- what is known of a plan within its bounds, and of lists as long as its jobs

module _ (p : Plan) (a : plan_in_bounds p ≡ true) where
  pub plan_fit : (st : State) → Same p.table st → Fit p st
  plan_fit st same =
      let (r, pairs) = bounds_rows p a in
      record {
        lists = same;
        few_jobs = r.few_jobs;
        paired = record { pairs = pairs };
        arcs_fit = record { inside = λ k l. let h = r.arc_in k l in (h.before_in, h.after_in) };
        sections_fit =
            record {
              few = omega (arith, r.few_sections, r.sections_whole);
              inside = λ k l. let h = r.section_in k l in (h.owner_in, h.resource_in);
            };
      }

  -- releases and costs are within their bounds
  pub bounded : Bounded p
  unfolding plan_in_bounds times_right
  bounded =
      let (r, pairs) = bounds_rows p a in
      let h =
      yes_says
      (says_and
      (bool_says (accepted (first_of (count_faults p.table ++ row_faults p.table))))
      (says_and (eq_says (length p.times) (2 * job_count p.table)) (bool_says (all (times_right p) (job_count p.table)))))
      a in
      record {
        few = r.few_jobs;
        pairs = omega (arith, pairs);
        releases = λ j l. (yes_says (says_and (le_says (modified_release p j) latest) (bool_says _)) (all-at (times_right p) (job_count p.table) h.1.1 j l)).0;
        costs = λ j l. (r.job_in j l).cost_in;
      }

  -- the deadline of a job of such a plan
  pub deadline_in : (j : ℕ) → j < job_count p.table → deadline p.table j ≤ latest
  deadline_in j l = ((bounds_rows p a).0.job_in j l).deadline_in

module _ (p : Plan) (st : State) where
  pub state_same : state_in_bounds p st ≡ true → Same p.table st
  state_same b =
      let i = state_in p st b in record { by_job = i.executed_long; marked = record { by_job = i.marks_long }; finished = i.finish_long }

  pub fit : in_bounds p st ≡ true → Fit p st
  fit h = let (a, b) = both p st h in plan_fit p a st (state_same b)

  -- where a step can be taken
  pub step_fit : step_fault p st ≡ None → Fit p st × (st.tick < last_tick)
  unfolding in_bounds
  step_fit q = let (a, b, l) = step_good p st q in (fit (rw (a, b) refl), l)
