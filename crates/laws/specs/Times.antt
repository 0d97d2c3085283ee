-- Modified times: on a table without a cycle they solve 01's equations, nothing else does, and they agree with the arcs.
use Rattle.std.specs.Prelude.{◌≡◌, Bool, true, List, [], ◌∷◌, length, get_or}
use Rattle.std.proofs.Math.Path.{refl, sym, ap}
use Rattle.std.proofs.Common.{◌∙◌, length-append, get_or-append-add}
use Prim.Native.Nat.{ℕ, zero, suc, ◌+◌, ◌*◌, ◌-◌, ◌≤◌, ◌<◌}
use Rattle.std.proofs.Math.Decide.{ℕ_discrete}
use native.Mathlib.Omega.{arith}
use Rattle.std.proofs.Math.ListN.{get_or-append}
use Rattle.std.proofs.lemmas.List.{get_or_at}
use Rattle.rules.specs.Rows.{largest, smallest}
use Rattle.rules.specs.Table.{Table, job_count, release, cost, deadline, precedes, most_jobs, most_cost}
use Rattle.rules.specs.Times.{release_to, lift, lifted_to, new_release, lifted_deadline, times_to}
use Rattle.laws.specs.Rows.{
  count_most,
  largest_base,
  largest-at,
  largest_most,
  largest_ext,
  smallest_base,
  smallest-at,
  smallest_least,
  smallest_ext,
}
use Rattle.laws.specs.Reach.{
  ArcsInside,
  Acyclic,
  precedes_inside,
  ancestors,
  descendants,
  ancestors_rise,
  descendants_fall,
  descendants_few,
}

-- ---- equations that look only at lower numbers

-- x j ≡ F x j is an equation for each j. It looks at x only at those i that j needs, and `height` falls from j to each of them.
module _ (F : (ℕ → ℕ) → ℕ → ℕ) (needs : ℕ → ℕ → Bool) (height : ℕ → ℕ)
    (falls : (j i : ℕ) → needs j i ≡ true → height i < height j)
    (looks : (x y : ℕ → ℕ) (j : ℕ) → ((i : ℕ) → needs j i ≡ true → x i ≡ y i) → F x j ≡ F y j) where
  -- two solutions on rows that need only one another are one
  pub one_solution : (In : ℕ → Type 0) → ((j i : ℕ) → In j → needs j i ≡ true → In i) → (x y : ℕ → ℕ)
      → ((j : ℕ) → In j → x j ≡ F x j) → ((j : ℕ) → In j → y j ≡ F y j) → (h j : ℕ) → height j ≤ h → In j → x j ≡ y j
  one_solution In stays x y p q zero j l k =
      p j k ∙ looks x y j (λ i e. let f = falls j i e in absurd (omega arith)) ∙ sym (q j k)
  one_solution In stays x y p q (suc h) j l k =
      p j k
      ∙ looks x y j (λ i e. let f = falls j i e in one_solution In stays x y p q h i (omega arith) (stays j i k e))
      ∙ sym (q j k)

  -- what is cut at a depth no longer changes from the height on
  pub settles : (cut : ℕ → ℕ → ℕ) → ((m j : ℕ) → cut (suc m) j ≡ F (cut m) j)
      → ((j : ℕ) → ((i : ℕ) → needs j i ≡ true → ⊥) → F (cut 0) j ≡ cut 0 j)
      → (m j : ℕ) → height j ≤ m → cut (suc m) j ≡ cut m j
  settles cut step plain zero j l =
      step zero j ∙ plain j (λ i e. let f = falls j i e in omega arith)
  settles cut step plain (suc m) j l =
      step (suc m) j
      ∙ looks (cut (suc m)) (cut m) j (λ i e. let f = falls j i e in settles cut step plain m i (omega arith))
      ∙ sym (step m j)

-- ---- 01's equations

-- "The largest of its own release and the modified releases of its direct predecessors."
unfoldable pub release_from : Table → (ℕ → ℕ) → ℕ → ℕ
release_from t r j = largest (λ i. precedes t i j) r (release t j) (job_count t)

-- "The smallest of its own deadline and, for each direct successor, that one's modified deadline less that one's cost", lifted.
unfoldable pub deadline_from : Table → (ℕ → ℕ) → ℕ → ℕ
deadline_from t d j = smallest (λ i. precedes t j i) (λ i. d i - cost t i) (lift + deadline t j) (job_count t)

module _ (t : Table) (inside : ArcsInside t) (acyclic : Acyclic t) where
  looks_back : (x y : ℕ → ℕ) (j : ℕ) → ((i : ℕ) → precedes t i j ≡ true → x i ≡ y i) → release_from t x j ≡ release_from t y j
  unfolding release_from
  looks_back x y j h = largest_ext _ _ x y (release t j) (job_count t) (λ k l. refl) (λ k l. h k)

  looks_on : (x y : ℕ → ℕ) (j : ℕ) → ((i : ℕ) → precedes t j i ≡ true → x i ≡ y i) → deadline_from t x j ≡ deadline_from t y j
  unfolding deadline_from
  looks_on x y j h =
      smallest_ext _ _ (λ i. x i - cost t i) (λ i. y i - cost t i) (lift + deadline t j) (job_count t) (λ k l. refl)
      (λ k l e. ap (λ v. v - cost t k) (h k e))

  release_alone : (j : ℕ) → ((i : ℕ) → precedes t i j ≡ true → ⊥) → release_from t (release_to t 0) j ≡ release_to t 0 j
  unfolding release_from release_to
  release_alone j none_is =
      omega (
        arith,
        largest_base (λ i. precedes t i j) (release_to t 0) (release t j) (job_count t),
        largest_most (λ i. precedes t i j) (release_to t 0) (release t j) (job_count t) (release t j) (omega arith)
            (λ k l e. absurd (none_is k e)),
      )

  deadline_alone : (j : ℕ) → ((i : ℕ) → precedes t j i ≡ true → ⊥) → deadline_from t (lifted_to t 0) j ≡ lifted_to t 0 j
  unfolding deadline_from lifted_to
  deadline_alone j none_is =
      omega (
        arith,
        smallest_base (λ i. precedes t j i) (λ i. lifted_to t 0 i - cost t i) (lift + deadline t j) (job_count t),
        smallest_least (λ i. precedes t j i) (λ i. lifted_to t 0 i - cost t i) (lift + deadline t j) (job_count t)
            (lift + deadline t j) (omega arith) (λ k l e. absurd (none_is k e)),
      )

  pub release_settles : (m j : ℕ) → ancestors t j ≤ m → release_to t (suc m) j ≡ release_to t m j
  unfolding release_to release_from
  release_settles =
      settles (release_from t) (λ j i. precedes t i j) (ancestors t) (λ j i. ancestors_rise t inside acyclic i j) looks_back
      (release_to t) (λ m j. refl) release_alone

  pub deadline_settles : (m j : ℕ) → descendants t j ≤ m → lifted_to t (suc m) j ≡ lifted_to t m j
  unfolding lifted_to deadline_from
  deadline_settles =
      settles (deadline_from t) (λ j i. precedes t j i) (descendants t) (descendants_fall t inside acyclic) looks_on
      (lifted_to t) (λ m j. refl) deadline_alone

  -- ---- the modified times solve the equations, and are the only ones that do

  pub release_equation : (j : ℕ) → new_release t j ≡ release_from t (new_release t) j
  unfolding new_release release_to release_from ancestors
  release_equation j = sym (release_settles (job_count t) j (count_most _ (job_count t)))

  pub deadline_equation : (j : ℕ) → lifted_deadline t j ≡ deadline_from t (lifted_deadline t) j
  unfolding lifted_deadline lifted_to deadline_from descendants
  deadline_equation j = sym (deadline_settles (job_count t) j (count_most _ (job_count t)))

  pub release_only : (r : ℕ → ℕ) → ((j : ℕ) → j < job_count t → r j ≡ release_from t r j) → (j : ℕ) → j < job_count t → r j ≡ new_release t j
  release_only r solves j =
      one_solution (release_from t) (λ j i. precedes t i j) (ancestors t) (λ j i. ancestors_rise t inside acyclic i j) looks_back
      (λ j. j < job_count t) (λ j i l e. (precedes_inside t inside i j e).0) r (new_release t) solves (λ j l. release_equation j)
      (ancestors t j) j (omega arith)

  pub deadline_only : (d : ℕ → ℕ) → ((j : ℕ) → j < job_count t → d j ≡ deadline_from t d j) → (j : ℕ) → j < job_count t → d j ≡ lifted_deadline t j
  deadline_only d solves j =
      one_solution (deadline_from t) (λ j i. precedes t j i) (descendants t) (descendants_fall t inside acyclic) looks_on
      (λ j. j < job_count t) (λ j i l e. (precedes_inside t inside j i e).1) d (lifted_deadline t) solves (λ j l. deadline_equation j)
      (descendants t j) j (omega arith)

  -- ---- they agree with the arcs

  pub release_forward : (i j : ℕ) → precedes t i j ≡ true → new_release t i ≤ new_release t j
  unfolding release_from
  release_forward i j e =
      omega (
        arith,
        release_equation j,
        largest-at (λ i. precedes t i j) (new_release t) (release t j) (job_count t) i (precedes_inside t inside i j e).0 e,
      )

  pub deadline_forward : (i j : ℕ) → precedes t i j ≡ true → lifted_deadline t i ≤ lifted_deadline t j - cost t j
  unfolding deadline_from
  deadline_forward i j e =
      omega (
        arith,
        deadline_equation i,
        smallest-at (λ j. precedes t i j) (λ j. lifted_deadline t j - cost t j) (lift + deadline t i) (job_count t) j
            (precedes_inside t inside i j e).1 e,
      )

earlier : (m : ℕ) (t : Table) (j : ℕ) → lifted_to t m j ≤ lift + deadline t j
unfolding lifted_to
earlier zero t j = omega arith
earlier (suc m) t j = smallest_base (λ i. precedes t j i) (λ i. lifted_to t m i - cost t i) (lift + deadline t j) (job_count t)

-- a modified deadline is no later than the given one
pub deadline_earlier : (t : Table) (j : ℕ) → lifted_deadline t j ≤ lift + deadline t j
unfolding lifted_deadline
deadline_earlier t j = earlier (job_count t) t j

-- ---- the lift is never used up

-- costs within 01's bound
abbrev pub CostsFit : Table → Type 0
CostsFit t = (j : ℕ) → j < job_count t → cost t j ≤ most_cost

module _ (t : Table) (fit : CostsFit t) where
  -- each round takes away one cost at most
  lifted_floor : (m j : ℕ) → m ≤ most_jobs → (most_jobs - m) * most_cost ≤ lifted_to t m j
  unfolding lifted_to
  lifted_floor zero j h = omega arith
  lifted_floor (suc m) j h =
      smallest_least (λ i. precedes t j i) (λ i. lifted_to t m i - cost t i) (lift + deadline t j) (job_count t)
      ((most_jobs - suc m) * most_cost) (omega arith)
      (λ k l e. omega (arith, lifted_floor m k (omega arith), fit k l))

  -- so a job's lifted deadline has its own cost in it, and nothing was cut off on the way
  pub lifted_room : ArcsInside t → Acyclic t → job_count t ≤ most_jobs → (j : ℕ) → j < job_count t → cost t j ≤ lifted_deadline t j
  unfolding lifted_deadline
  lifted_room inside acyclic few j l = go (job_count t) refl
    where
      go : (n : ℕ) → job_count t ≡ n → cost t j ≤ lifted_to t n j
      go zero e = absurd (omega arith)
      go (suc m) e =
          omega (
            arith,
            deadline_settles t inside acyclic m j (omega (arith, descendants_few t inside acyclic j l)),
            lifted_floor m j (omega arith),
            fit j l,
          )

-- ---- the times as a plan's list

pub times_length : (t : Table) (n : ℕ) → length (times_to t n) ≡ 2 * n
unfolding times_to
times_length t zero = refl
times_length t (suc n) = rw length-append (omega (arith, times_length t n))

pub times_at : (t : Table) (n j : ℕ) → j < n
    → (get_or (times_to t n) (2 * j) 0 ≡ new_release t j) × (get_or (times_to t n) (2 * j + 1) 0 ≡ lifted_deadline t j - lift)
unfolding times_to
times_at t zero j l = absurd (omega arith)
times_at t (suc n) j l =
    let xs : List ℕ = times_to t n in
    let e : length xs ≡ 2 * n = times_length t n in
    elim (ℕ_discrete j n) [
      | yes q ↦
          rw q (get_or_at xs (new_release t n) _ 0 (2 * n) e, rw (← e) (get_or-append-add xs (new_release t n ∷ (lifted_deadline t n - lift) ∷ []) 1 0))
      | no q ↦
          let (a, b) = times_at t n j (omega arith) in
          (get_or-append xs _ 0 (2 * j) (omega arith) ∙ a, get_or-append xs _ 0 (2 * j + 1) (omega arith) ∙ b)
    ]
