-- What the promises say: they settle every result, and of the times that `plan` leaves they say what 01 and 003 say.
use Rattle.std.specs.Prelude.{◌≡◌, refl, Bool, true, false, List, ◌++◌, ℕ, ◌+◌, ◌*◌, ◌-◌, ◌≤◌, ◌<◌, length, get_or, drop, leb, Option, None, Some, Result, Ok}
use Rattle.std.proofs.Math.Path.{sym, ap}
use Rattle.std.proofs.Common.{◌∙◌, arith, take_at, leb-true}
use Rattle.std.proofs.Math.ListN.{take, get_or-append}
use Rattle.rules.specs.Table.{Table, Plan, latest, job_count, release, cost, deadline, modified_release, modified_deadline}
use Rattle.rules.specs.Times.{lift, new_release, lifted_deadline, times_to}
use Rattle.rules.specs.Refusals.{Fault, gives, and_then, unless, demand, room, check_fault, plan_of, check, plan_in_bounds}
use Rattle.laws.specs.Answers.{said_settles}
use Rattle.laws.specs.Rows.{largest_ext, smallest_ext}
use Rattle.laws.specs.Reach.{Ancestor, ancestor_inside}
use Rattle.laws.specs.Times.{
  release_from,
  deadline_from,
  release_equation,
  deadline_equation,
  release_only,
  deadline_only,
  times_length,
}
use Rattle.laws.specs.Refusals.{Accepted, accepted_facts}
use Rattle.laws.specs.Accepted.{arcs_inside, plan-release, plan-deadline, window, due, consistent, plan_in_bounds_lem}
use Rattle.rules.specs.declared.Refusal.{Refusal}
use Rattle.plan.specs.Promise.{planned, counted, written, Plans}

-- ---- every result is settled

-- Any two results that the promise of `plan` allows are equal: the answer, and the lent list with its rest.
pub plan_settled : {t : Table} {lent : List ℕ} {a b : Result ℕ Refusal} {l m : List ℕ} → Plans t lent a l → Plans t lent b m → (a ≡ b) × (l ≡ m)
plan_settled {a = a} {b = b} p q = (said_settles a b (p.answer-is ∙ sym q.answer-is), p.left_is ∙ sym q.left_is)

-- So it is for `plan_in_bounds`.
pub plan_in_bounds_settled : (p : Plan) {a b : Bool} → a ≡ plan_in_bounds p → b ≡ plan_in_bounds p → a ≡ b
plan_in_bounds_settled p e f = e ∙ sym f

-- ---- what stands behind an answer

-- where `plan` gives times, the table is accepted, and the front of the list holds the times of its plan
pub record Given (t : Table) (lent : List ℕ) (n : ℕ) (left : List ℕ) : Type 0 where
  pub accepted : check_fault t ≡ None
  pub count : n ≡ 2 * job_count t
  pub fits : n ≤ length lent
  pub front : left ≡ (plan_of t).times ++ drop n lent

pub given : (t : Table) (lent : List ℕ) (n : ℕ) (left : List ℕ) → Plans t lent (Ok n) left → Given t lent n left
unfolding planned check plan_of
given t lent n left P = go (check_fault t) refl P.answer-is P.left_is
  where
    times : List ℕ
    times = times_to t (job_count t)

    roomy : (b : Bool) → leb (length times) (length lent) ≡ b → check_fault t ≡ None
        → gives n ≡ counted (unless (demand b 11) times) → left ≡ written (unless (demand b 11) times) lent → Given t lent n left
    roomy true h e a l =
        let f : n ≡ length times = cc in
        record {
          accepted = e;
          count = f ∙ times_length t (job_count t);
          fits = rw f (leb-true (length times) (length lent) h);
          front = rw f l;
        }
    roomy false h e a l = cc

    go : (o : Option Fault) → check_fault t ≡ o
        → gives n ≡ counted (and_then (unless o (plan_of t)) (λ p. unless (room (length p.times) (length lent)) p.times))
        → left ≡ written (and_then (unless o (plan_of t)) (λ p. unless (room (length p.times) (length lent)) p.times)) lent
        → Given t lent n left
    go None e a l = roomy (leb (length times) (length lent)) refl e a l
    go (Some f) e a l = cc

-- ---- the times that are left

-- The table with the list that `plan` leaves, read as a plan: the front holds a pair for each job.
abbrev pub left_plan : Table → List ℕ → Plan
left_plan t left = record { table = t; times = left }

-- 01's two equations, for each job. Deadlines are lifted on both sides, so that a deadline less a cost is cut nowhere.
pub record Solves (t : Table) (r d : ℕ → ℕ) : Type 0 where
  pub release-is : (j : ℕ) → j < job_count t → r j ≡ release_from t r j
  pub deadline-is : (j : ℕ) → j < job_count t → lift + d j ≡ deadline_from t (λ i. lift + d i) j

module _ {t : Table} {lent : List ℕ} {n : ℕ} {left : List ℕ} (P : Plans t lent (Ok n) left) where
  facts : Accepted t
  facts = accepted_facts t (given t lent n left P).accepted

  left_at : (k : ℕ) → k < 2 * job_count t → get_or left k 0 ≡ get_or (plan_of t).times k 0
  unfolding plan_of
  left_at k h =
      let G = given t lent n left P in
      rw G.front (get_or-append (times_to t (job_count t)) (drop n lent) 0 k (omega (arith, times_length t (job_count t))))

  left_release : (j : ℕ) → j < job_count t → modified_release (left_plan t left) j ≡ new_release t j
  left_release j l = left_at (2 * j) (omega arith) ∙ plan-release t facts j l

  left_deadline : (j : ℕ) → j < job_count t → lift + modified_deadline (left_plan t left) j ≡ lifted_deadline t j
  left_deadline j l = ap (λ x. lift + x) (left_at (2 * j + 1) (omega arith)) ∙ plan-deadline t facts j l

  -- They solve 01's equations, and nothing else does.
  pub times_solve : Solves t (modified_release (left_plan t left)) (modified_deadline (left_plan t left))
  unfolding release_from deadline_from
  times_solve =
      let inside = arcs_inside t facts.rows in
      record {
        release-is = λ j l.
            left_release j l
            ∙ release_equation t inside facts.acyclic j
            ∙ largest_ext _ _ (new_release t) (modified_release (left_plan t left)) (release t j) (job_count t) (λ i q. refl)
            (λ i q e. sym (left_release i q));
        deadline-is = λ j l.
            left_deadline j l
            ∙ deadline_equation t inside facts.acyclic j
            ∙ smallest_ext _ _ (λ i. lifted_deadline t i - cost t i) (λ i. lift + modified_deadline (left_plan t left) i - cost t i)
            (lift + deadline t j) (job_count t) (λ i q. refl) (λ i q e. ap (λ x. x - cost t i) (sym (left_deadline i q)));
      }

  pub times_only : (r d : ℕ → ℕ) → Solves t r d
      → (j : ℕ) → j < job_count t → (r j ≡ modified_release (left_plan t left) j) × (d j ≡ modified_deadline (left_plan t left) j)
  times_only r d S j l =
      let inside = arcs_inside t facts.rows in (
        release_only t inside facts.acyclic r S.release-is j l ∙ sym (left_release j l),
        omega (arith, deadline_only t inside facts.acyclic (λ i. lift + d i) S.deadline-is j l, left_deadline j l),
      )

  -- 003, definition 3.1: along every chain of arcs releases do not fall and deadlines rise.
  pub times_consistent : {i j : ℕ} → Ancestor t i j
      → (modified_release (left_plan t left) i ≤ modified_release (left_plan t left) j)
      × (modified_deadline (left_plan t left) i < modified_deadline (left_plan t left) j)
  times_consistent {i} {j} a =
      let (p, q) = ancestor_inside t (arcs_inside t facts.rows) a in
      let (r, d) = consistent t facts a in (
        rw (left_at (2 * i) (omega arith), left_at (2 * j) (omega arith)) r,
        rw (left_at (2 * i + 1) (omega arith), left_at (2 * j + 1) (omega arith)) d,
      )

  -- They lie in 0 to 1,000,000, and each window is at least the cost.
  pub times_in : (j : ℕ) → j < job_count t
      → (modified_deadline (left_plan t left) j ≤ latest)
      × (modified_release (left_plan t left) j + cost t j ≤ modified_deadline (left_plan t left) j)
  times_in j l =
      let r = left_at (2 * j) (omega arith) in
      let d = left_at (2 * j + 1) (omega arith) in
      (omega (arith, d, due t facts j l, (facts.rows.job_in j l).deadline_in), omega (arith, r, d, window t facts j l))

  -- So the plan that is left, handed in, is found within its bounds.
  pub plan_then_in_bounds : (answer : Bool) → answer ≡ plan_in_bounds (left_plan t (take n left)) → answer ≡ true
  unfolding plan_of
  plan_then_in_bounds answer e =
      let G = given t lent n left P in
      let f : take n left ≡ times_to t (job_count t) =
      rw G.front (take_at (times_to t (job_count t)) (drop n lent) n (times_length t (job_count t) ∙ sym G.count)) in
      e ∙ ap (λ times. plan_in_bounds (left_plan t times)) f ∙ plan_in_bounds_lem t G.accepted
