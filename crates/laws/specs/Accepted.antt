-- The plan of an accepted table: its times lie within their bounds and agree with the arcs.
use Rattle.std.specs.Prelude.{◌≡◌, true, ◌++◌, ℕ, ◌+◌, ◌*◌, ◌≤◌, ◌<◌, length, None}
use Rattle.std.proofs.Common.{append_assoc, arith, eq-eqb}
use Rattle.rules.specs.Table.{Table, job_count, cost, deadline, precedes, modified_release, modified_deadline}
use Rattle.rules.specs.Times.{lift, new_release, lifted_deadline, times_to}
use Rattle.rules.specs.Refusals.{count_faults, row_faults, plan_faults, check_fault, plan_of, times_right, plan_in_bounds}
use Rattle.rules.specs.Order.{comes_before}
use Rattle.laws.specs.Tests.{yes_of, says_yes}
use Rattle.laws.specs.Rows.{all_from}
use Rattle.laws.specs.Order.{by_deadline, before_says}
use Rattle.laws.specs.Reach.{Ancestor, direct, further, ArcsInside, precedes_inside}
use Rattle.laws.specs.Times.{times_at, times_length, release_forward, deadline_forward, deadline_earlier}
use Rattle.laws.specs.Refusals.{RowsRight, Accepted, times_says, first_of_append, accepted_facts}

pub arcs_inside : (t : Table) → RowsRight t → ArcsInside t
arcs_inside t r a l = let h = r.arc_in a l in (h.before_in, h.after_in)

module _ (t : Table) (A : Accepted t) where
  -- ---- the times of the plan are the modified ones

  pub plan-release : (j : ℕ) → j < job_count t → modified_release (plan_of t) j ≡ new_release t j
  unfolding plan_of
  plan-release j l = (times_at t (job_count t) j l).0

  pub plan-deadline : (j : ℕ) → j < job_count t → lift + modified_deadline (plan_of t) j ≡ lifted_deadline t j
  unfolding plan_of
  plan-deadline j l = omega (arith, (times_at t (job_count t) j l).1, A.wide j l)

  -- ---- windows and bounds

  pub window : (j : ℕ) → j < job_count t → modified_release (plan_of t) j + cost t j ≤ modified_deadline (plan_of t) j
  window j l = omega (arith, plan-release j l, plan-deadline j l, A.wide j l)

  -- no modified deadline is later than the given one
  pub due : (j : ℕ) → j < job_count t → modified_deadline (plan_of t) j ≤ deadline t j
  due j l = omega (arith, plan-deadline j l, deadline_earlier t j)

  times_right_lem : (j : ℕ) → j < job_count t → times_right (plan_of t) j ≡ true
  unfolding plan_of
  times_right_lem j l =
      let w = window j l in
      let d = due j l in
      let b = (A.rows.job_in j l).deadline_in in
      says_yes (times_says (plan_of t) j) (record { release_in = omega arith; deadline_in = omega arith; window = w })

  -- ---- arcs go forward

  pub arc_consistent : (i j : ℕ) → precedes t i j ≡ true
      → (modified_release (plan_of t) i ≤ modified_release (plan_of t) j)
      × (modified_deadline (plan_of t) i + cost t j ≤ modified_deadline (plan_of t) j)
  arc_consistent i j e =
      let inside = arcs_inside t A.rows in
      let (li, lj) = precedes_inside t inside i j e in (
        omega (arith, plan-release i li, plan-release j lj, release_forward t inside A.acyclic i j e),
        omega (arith, plan-deadline i li, plan-deadline j lj, A.wide j lj, deadline_forward t inside A.acyclic i j e),
      )

  -- 003, definition 3.1: releases and deadlines are consistent with the partial order of the ancestors
  pub consistent : {i j : ℕ} → Ancestor t i j
      → (modified_release (plan_of t) i ≤ modified_release (plan_of t) j)
      × (modified_deadline (plan_of t) i < modified_deadline (plan_of t) j)
  consistent (direct {i} {j} e) =
      let c = (A.rows.job_in j (precedes_inside t (arcs_inside t A.rows) i j e).1).costs in
      let (r, d) = arc_consistent i j e in
      (r, omega arith)
  consistent (further {i} {m} {j} a e) =
      let (r, d) = consistent a in
      let (r', d') = arc_consistent m j e in
      (omega arith, omega arith)

  pub ancestors-before : {i j : ℕ} → Ancestor t i j → comes_before (plan_of t) i j ≡ true
  ancestors-before {i} {j} a = yes_of (before_says (plan_of t) i j) (λ n. n (by_deadline (consistent a).1))

-- a plan made by the check is never refused with 12
pub plan_in_bounds_lem : (t : Table) → check_fault t ≡ None → plan_in_bounds (plan_of t) ≡ true
unfolding plan_in_bounds plan_of check_fault
plan_in_bounds_lem t e =
    let A = accepted_facts t e in
    let front = first_of_append (count_faults t ++ row_faults t) (plan_faults t) (rw (append_assoc (count_faults t) (row_faults t) (plan_faults t)) e) in
    simp (
      front.0,
      eq-eqb (length (times_to t (job_count t))) (2 * job_count t) (times_length t (job_count t)),
      all_from (times_right (plan_of t)) (job_count t) (times_right_lem t A),
    )
