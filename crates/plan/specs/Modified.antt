-- What the rounds leave are 01's modified times: the arcs are gone through once a round, the definition goes through the jobs.
use Rattle.std.specs.Prelude.{◌≡◌, Bool, true, false, cond, List, eqb, None}
use Rattle.std.proofs.Math.Path.{refl, sym, ap}
use Rattle.std.proofs.Common.{◌∙◌, arith, eq-eqb, eqb-true}
use Prim.Native.Nat.{ℕ, zero, suc, ◌+◌, ◌-◌, ◌≤◌, ◌<◌, min, max}
use Rattle.std.proofs.Math.ListN.{get_or}
use Rattle.rules.specs.Rows.{largest, smallest, lowest}
use Rattle.rules.specs.Table.{Table, latest, job_count, arc_count, release, cost, deadline, before, after, precedes}
use Rattle.rules.specs.Times.{lift, release_to, lifted_to, new_release, lifted_deadline, times_to}
use Rattle.rules.specs.Refusals.{at_row, too_short}
use Rattle.laws.specs.Tests.{says_agree, lt_says, yes_says, no_says, says_yes}
use Rattle.laws.specs.Rows.{largest_base, largest-at, largest_most, largest_ext, lowest_ext}
use Rattle.laws.specs.Reach.{precedes_says}
use Rattle.laws.specs.Refusals.{RowsRight, rows_none}
use Rattle.modified.specs.declared.Way.TheVariants.{Forward, Back}
use Rattle.modified.specs.Rounds.{JobsIn, Holds, Fit, source_of, target_of, round_to, short, window_found, pairs_to}

-- the largest over the arcs to j is the largest over the jobs that lead to j
by_arcs : (source target : ℕ → ℕ) (leads : ℕ → Bool) (f : ℕ → ℕ) (base m n j : ℕ)
    → ((a : ℕ) → a < m → target a ≡ j → (source a < n) × (leads (source a) ≡ true))
    → ((i : ℕ) → leads i ≡ true → (a : ℕ) × (a < m) × (source a ≡ i) × (target a ≡ j))
    → largest (λ a. eqb (target a) j) (λ a. f (source a)) base m ≡ largest leads f base n
by_arcs source target leads f base m n j there back =
    omega (
      arith,
      largest_most (λ a. eqb (target a) j) (λ a. f (source a)) base m (largest leads f base n) (largest_base leads f base n)
          (λ a l e. let h = there a l (eqb-true (target a) j e) in largest-at leads f base n (source a) h.0 h.1),
      largest_most leads f base n (largest (λ a. eqb (target a) j) (λ a. f (source a)) base m)
          (largest_base (λ a. eqb (target a) j) (λ a. f (source a)) base m)
          (λ i l e.
          let (a, q, s, t) = back i e in
          rw (← s) (largest-at (λ a. eqb (target a) j) (λ a. f (source a)) base m a q (eq-eqb (target a) j t))),
    )

-- the smallest is the largest in the mirror
mirror : (most : ℕ) (passes : ℕ → Bool) (f g : ℕ → ℕ) (base : ℕ) (n : ℕ) → ((k : ℕ) → k < n → g k ≡ most - f k)
    → smallest passes g (most - base) n ≡ most - largest passes f base n
unfolding smallest largest
mirror most passes f g base zero same = refl
mirror most passes f g base (suc n) same =
    rw (mirror most passes f g base n (λ k l. same k (omega arith)), same n (omega arith)) (go (passes n))
  where
    go : (b : Bool)
        → cond b (min (most - largest passes f base n) (most - f n)) (most - largest passes f base n)
        ≡ most - cond b (max (largest passes f base n) (f n)) (largest passes f base n)
    go true = omega arith
    go false = refl

module _ (t : Table) (rows : RowsRight t) where
  -- an arc from i to j as a number, and back
  to_arc : (i j : ℕ) → precedes t i j ≡ true
      → (a : ℕ) × (a < arc_count t) × (before t a ≡ i) × (after t a ≡ j)
  to_arc i j e =
      let r = yes_says (precedes_says t i j) e in (r.number, r.in_table, r.tail, r.head)

  of_arc : (a i j : ℕ) → a < arc_count t → before t a ≡ i → after t a ≡ j
      → precedes t i j ≡ true
  of_arc a i j l p q =
      says_yes (precedes_says t i j) (record { number = a; in_table = l; tail = p; head = q })

  round_release : (k j : ℕ) → round_to t Forward k j ≡ release_to t k j
  unfolding round_to release_to
  round_release zero j = refl
  round_release (suc k) j =
      by_arcs (source_of t Forward) (target_of t Forward) (λ i. precedes t i j)
      (λ i. round_to t Forward k i + 0) (release t j) (arc_count t) (job_count t) j
      (λ a l e. ((rows.arc_in a l).before_in, of_arc a (before t a) j l refl e))
      (λ i e. to_arc i j e)
      ∙ largest_ext _ _ (λ i. round_to t Forward k i + 0) (release_to t k) (release t j)
      (job_count t) (λ i l. refl) (λ i l e. omega (arith, round_release k i))

  round_deadline : (k j : ℕ) → j < job_count t → lift + latest - round_to t Back k j ≡ lifted_to t k j
  unfolding round_to lifted_to
  round_deadline zero j l = omega (arith, (rows.job_in j l).deadline_in)
  round_deadline (suc k) j l =
      let own : lift + latest - (latest - deadline t j) ≡ lift + deadline t j = omega (arith, (rows.job_in j l).deadline_in) in
      ap (λ x. lift + latest - x)
      (by_arcs (source_of t Back) (target_of t Back) (λ i. precedes t j i)
      (λ i. round_to t Back k i + cost t i) (latest - deadline t j) (arc_count t) (job_count t) j
      (λ a q e. ((rows.arc_in a q).after_in, of_arc a j (after t a) q e refl))
      (λ i e. let (a, q, s, t) = to_arc j i e in (a, q, t, s)))
      ∙ sym
      (mirror (lift + latest) (λ i. precedes t j i) (λ i. round_to t Back k i + cost t i)
      (λ i. lifted_to t k i - cost t i) (latest - deadline t j) (job_count t)
      (λ i q. omega (arith, round_deadline k i q)))
      ∙ ap (λ x. smallest (λ i. precedes t j i) (λ i. lifted_to t k i - cost t i) x (job_count t)) own

  -- ---- the arrays that the rounds leave

  module _ (releases tails : List ℕ) (R : Holds t (round_to t Forward (job_count t)) releases)
      (T : Holds t (round_to t Back (job_count t)) tails) where
    release-is : (j : ℕ) → j < job_count t → get_or releases j 0 ≡ new_release t j
    unfolding new_release
    release-is j l = R.at j l ∙ round_release (job_count t) j

    deadline-is : (j : ℕ) → j < job_count t → lift + latest - get_or tails j 0 ≡ lifted_deadline t j
    unfolding lifted_deadline
    deadline-is j l = ap (λ x. lift + latest - x) (T.at j l) ∙ round_deadline (job_count t) j l

    -- release, cost and tail are more than the latest instant exactly where the window is below the cost
    short-is : (j : ℕ) → j < job_count t → short t releases tails j ≡ too_short t j
    unfolding too_short
    short-is j l =
        rw (← release-is j l, ← deadline-is j l)
        (says_agree
        (lt_says latest (get_or releases j 0 + cost t j + get_or tails j 0))
        (lt_says (lift + latest - get_or tails j 0) (lift + get_or releases j 0 + cost t j))
        (λ x y. omega arith)
        (λ x y. omega arith))

    pub window_is : window_found t releases tails ≡ at_row 10 (lowest (too_short t) (job_count t))
    unfolding window_found
    window_is = ap (at_row 10) (lowest_ext _ _ (job_count t) short-is)

    pairs_are : (n : ℕ) → n ≤ job_count t → pairs_to releases tails n ≡ times_to t n
    unfolding pairs_to times_to
    pairs_are zero h = refl
    pairs_are (suc n) h =
        let d : latest - get_or tails n 0 ≡ lifted_deadline t n - lift = omega (arith, deadline-is n (omega arith)) in
        rw (pairs_are n (omega arith), release-is n (omega arith), d)

    pub times_are : pairs_to releases tails (job_count t) ≡ times_to t (job_count t)
    times_are = pairs_are (job_count t) (omega arith)

    -- where no window is below its cost, no tail reaches below zero
    pub times_fit : None ≡ window_found t releases tails → Fit (job_count t) releases tails
    unfolding window_found
    times_fit e = record {
      release_size = R.size;
      tail_size = T.size;
      tail_in = λ j l.
          let w = no_says (lt_says latest (get_or releases j 0 + cost t j + get_or tails j 0))
          (rows_none 10 (short t releases tails) (job_count t) (sym e) j l) in
          omega arith;
    }

-- what 2 to 7 settle for the rounds
pub jobs_in : (t : Table) → RowsRight t → JobsIn t
jobs_in t R = record {
  few = R.few_jobs;
  release_in = λ j l. (R.job_in j l).release_in;
  cost_in = λ j l. (R.job_in j l).cost_in;
  deadline_in = λ j l. (R.job_in j l).deadline_in;
}
