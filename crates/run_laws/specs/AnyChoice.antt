-- The clauses on ancestors, marks, idling and ends, over states, for any choice of the class.
use Rattle.std.specs.Prelude.{◌≡◌, ◌≢◌, ◌↔◌, ◌⊎◌, Bool, not, [], ◌∷◌, ℕ, zero, suc, ◌≤◌, ◌<◌, length, Option, None, Some}
use Rattle.std.proofs.Math.Path.{refl}
use Rattle.std.proofs.Common.{inl, inr}
use Rattle.std.proofs.Math.Bool.{true, false, cond}
use Rattle.std.proofs.Math.Decide.{dec_le}
use native.Mathlib.Omega.{arith}
use borrow.Author.Tests.{lt-ltb, le-leb, eq-eqb}
use Rattle.rules.specs.Table.{
  Plan,
  State,
  latest,
  most_cost,
  last_tick,
  job_count,
  cost,
  modified_release,
  modified_deadline,
  executed,
  mark,
  finish,
}
use Rattle.rules.specs.Refusals.{fault, first_of, demand, finished, all_finished, job_state_right, state_in_bounds, step_fault}
use Rattle.rules.specs.Run.{all_end_by}
use Rattle.laws.specs.Tests.{Says, eq_says, yes_says, no_says, yes_of}
use Rattle.laws.specs.Rows.{all_says, all_from, largest_most, sum_most}
use Rattle.laws.specs.Keys.{key_due}
use Rattle.laws.specs.Reach.{Ancestor}
use Rattle.run_laws.specs.Theory.{
  Jobs,
  Choice,
  Run,
  earlier_finished,
  idle_none,
  within,
  chosen-pending,
  pending_in,
  quasi_normal,
  unfinished_before,
}
use Rattle.run_laws.specs.Marks.{Kin, Marks, EndedBadly, Marked, unmarked, fresh, stale, marked, finish_by}
use Rattle.laws.specs.Refusals.{RowsRight}
use Rattle.run_laws.specs.Plans.{jobs_of}
use Rattle.run_laws.specs.Facts.{Sound, forward, kin_of}
use Rattle.run_laws.specs.States.{state_after, good}
use Rattle.run_laws.specs.Ticks.{run_of, marks_of, BadlyAt}

-- ---- idling and ends: any plan with right rows

module _ (p : Plan) (rows : RowsRight p.table) where
  abbrev JR : Jobs
  JR = jobs_of p rows

  finished_says : (st : State) (j : ℕ) → Says (executed st j ≡ cost p.table j) (executed st j ≢ cost p.table j) (finished p st j)
  finished_says st j = eq_says (executed st j) (cost p.table j)

  module _ (ch : State → Option ℕ) (class : (st : State) → Choice JR st.tick (executed st) (ch st)) (report : ℕ → Bool) where
    abbrev on : ℕ → State
    on k = state_after p ch report k

    abbrev RR : Run JR
    RR = run_of p rows ch class report

    is-finished : (k j : ℕ) → cost p.table j ≤ executed (on k) j → finished p (on k) j ≡ true
    is-finished k j l = yes_of (finished_says (on k) j) (λ n. n (let w = within JR RR k j in omega arith))

    -- A tick is idle exactly if no released job is unfinished.
    pub idle_at : (k : ℕ) → (ch (on k) ≡ None) ↔ ((j : ℕ) → modified_release p j ≤ (on k).tick → finished p (on k) j ≡ true)
    idle_at k = (go, back)
      where
        go : ch (on k) ≡ None → (j : ℕ) → modified_release p j ≤ (on k).tick → finished p (on k) j ≡ true
        go c j l =
            is-finished k j
            (elim (dec_le (cost p.table j) (executed (on k) j)) [
              | yes h ↦ h
              | no h ↦
                  absurd
                  (idle_none JR RR k c j
                  (record { released = omega (arith, (good p ch report k).tick_is); unfinished = omega arith }))
            ])

        back : ((j : ℕ) → modified_release p j ≤ (on k).tick → finished p (on k) j ≡ true) → ch (on k) ≡ None
        back h = out (ch (on k)) refl
          where
            out : (o : Option ℕ) → ch (on k) ≡ o → o ≡ None
            out None c = refl
            out (Some x) c =
                let w = chosen-pending JR RR {k = k} {x = x} c in
                absurd
                (omega (
                  arith,
                  w.unfinished,
                  yes_says (finished_says (on k) x)
                      (h x (omega (arith, w.released, (good p ch report k).tick_is))),
                ))

    unfinished_at : (k j : ℕ) → executed (on k) j < cost p.table j → k < all_end_by p
    unfolding all_end_by
    unfinished_at = unfinished_before JR RR

    -- All end by the last release plus the sum of costs; no finish is later.
    pub all_ended_at : (k : ℕ) → all_end_by p ≤ k → (j : ℕ) → finished p (on k) j ≡ true
    all_ended_at k l j =
        is-finished k j
        (elim (dec_le (cost p.table j) (executed (on k) j)) [
          | yes h ↦ h
          | no h ↦ absurd (omega (arith, unfinished_at k j (omega arith)))
        ])

    pub all-finished_by : (k : ℕ) → all_end_by p ≤ k → all_finished p (on k) ≡ true
    unfolding all_finished
    all-finished_by k l = all_from (finished p (on k)) (job_count p.table) (λ j h. all_ended_at k l j)

    pub some_left : (k : ℕ) → all_finished p (on k) ≡ false → k < all_end_by p
    unfolding all_finished
    some_left k e =
        let w = no_says (all_says _ _ (finished p (on k)) (finished_says (on k)) (job_count p.table)) e in
        unfinished_at k w.0 (let b = within JR RR k w.0 in omega (arith, w.2))

-- ---- ancestors, marks, steps: the plan of an accepted table

module _ (p : Plan) (S : Sound p) where
  abbrev J : Jobs
  J = jobs_of p S.rows

  abbrev K : Kin J
  K = kin_of p S

  module _ (ch : State → Option ℕ) (class : (st : State) → Choice J st.tick (executed st) (ch st)) (report : ℕ → Bool) where
    -- after k ticks of the run, who ended badly, and the marks
    abbrev at : ℕ → State
    at k = state_after p ch report k

    abbrev R : Run J
    R = run_of p S.rows ch class report

    abbrev BadAt : ℕ → ℕ → Type 0
    BadAt = BadlyAt p S ch class report

    abbrev M : Marks J K R BadAt
    M = marks_of p S ch class report

    -- What is chosen has no unfinished ancestor.
    pub ancestors-at : (k i j : ℕ) → ch (at k) ≡ Some j → Ancestor p.table i j → finished p (at k) i ≡ true
    ancestors-at k i j c a =
        let h = forward p S a in
        is-finished p S.rows ch class report k i (earlier_finished J R k i j c h.0 h.1)

    pub finish-at : (k j : ℕ) → finish (at k) j ≤ all_end_by p
    unfolding all_end_by
    finish-at = finish_by J K R BadAt M

    -- A finished job is fresh or stale, and stale exactly if it or an ancestor ended badly.
    pub marks_at : (k j : ℕ) → j < job_count p.table → finished p (at k) j ≡ true
        → ((mark (at k) j ≡ 1) ⊎ (mark (at k) j ≡ 2))
        × ((mark (at k) j ≡ 2) ↔ ((i : ℕ) × ((i ≡ j) ⊎ Ancestor p.table i j) × EndedBadly J K R BadAt k i))
    marks_at k j l f = go (marked J K R BadAt M k j (S.rows.job_in j l).costs)
      where
        go : Marked J K R BadAt M k j
            → ((mark (at k) j ≡ 1) ⊎ (mark (at k) j ≡ 2))
            × ((mark (at k) j ≡ 2) ↔ ((i : ℕ) × ((i ≡ j) ⊎ Ancestor p.table i j) × EndedBadly J K R BadAt k i))
        go (unmarked v u) = absurd (omega (arith, yes_says (finished_says p S.rows (at k) j) f))
        go (fresh v d sound) = (inl v, ((λ e. absurd (omega arith)), (λ w. absurd (sound w.0 w.1 w.2))))
        go (stale v d i a b) = (inr v, ((λ e. (i, a, b)), (λ w. v)))

    -- 003, definition 3.3
    pub quasi_at : (m n i j : ℕ) → m < n → ch (at m) ≡ Some j → ch (at n) ≡ Some i
        → modified_release p i ≤ modified_release p j → modified_deadline p j ≤ modified_deadline p i
    quasi_at m n i j l a b r =
        key_due p j i
        (pending_in J (chosen-pending J R {k = m} a)) (pending_in J (chosen-pending J R {k = n} b))
        (quasi_normal J R m n i j l a b r)

    -- ---- refusals 12 and 13

    -- all end long before the last tick
    pub end_early : all_end_by p < last_tick
    unfolding all_end_by
    end_early =
        omega (
          arith,
          largest_most (λ j. true) (modified_release p) 0 (job_count p.table) latest (omega arith) (λ j l e. S.releases_in j l),
          sum_most (cost p.table) most_cost (job_count p.table) (λ j l. (S.rows.job_in j l).cost_in),
          S.rows.few_jobs,
        )

    mark-at : (k j : ℕ) → j < job_count p.table → mark (at k) j ≤ 2
    mark-at k j l = go (marked J K R BadAt M k j (S.rows.job_in j l).costs)
      where
        go : Marked J K R BadAt M k j → mark (at k) j ≤ 2
        go (unmarked v u) = omega arith
        go (fresh v d sound) = omega arith
        go (stale v d i a b) = omega arith

    in_bounds_at : (k : ℕ) → k ≤ last_tick → state_in_bounds p (at k) ≡ true
    unfolding state_in_bounds job_state_right
    in_bounds_at k l =
        let g = good p ch report k in
        simp (
          eq-eqb (length (at k).executed) (job_count p.table) g.executed_long,
          eq-eqb (length (at k).marks) (job_count p.table) g.marks_long,
          eq-eqb (length (at k).finish) (job_count p.table) g.finish_long,
          le-leb (at k).tick last_tick (omega (arith, g.tick_is)),
          all_from (job_state_right p (at k)) (job_count p.table) (λ j h.
              simp (
                le-leb (executed (at k) j) (cost p.table j) (within J R k j),
                le-leb (mark (at k) j) 2 (mark-at k j h),
                le-leb (finish (at k) j) last_tick (omega (arith, finish-at k j, end_early)),
              )),
        )

    -- Before the last tick a step is refused exactly if all have finished, with 13.
    pub step-at : (k : ℕ) → k < last_tick → step_fault p (at k) ≡ cond (all_finished p (at k)) (Some (fault 13 0)) None
    unfolding step_fault
    step-at k l =
        simp (
          S.within_bounds,
          in_bounds_at k (omega arith),
          lt-ltb (at k).tick last_tick (omega (arith, (good p ch report k).tick_is)),
        ) (go (all_finished p (at k)))
      where
        go : (b : Bool) → first_of (demand (not b) 13 ∷ []) ≡ cond b (Some (fault 13 0)) None
        go true = refl
        go false = refl

    -- it is before the last tick, if some job was unfinished before each of the ticks so far
    pub unended_early : (n : ℕ) → ((i : ℕ) → i < n → all_finished p (at i) ≡ false) → n < last_tick
    unended_early zero h = omega arith
    unended_early (suc n) h = omega (arith, some_left p S.rows ch class report n (h n (omega arith)), end_early)
