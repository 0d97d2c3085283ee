-- Rounds over the arcs: after k rounds each job has what 01's equations give it, cut at depth k.
use Rattle.std.specs.Prelude.{◌≡◌, Bool, List, [], ◌∷◌, ◌++◌, length, get_or, set, take, drop, eqb, ltb, Option}
use Rattle.std.proofs.Math.Path.{refl, ap}
use Rattle.std.proofs.Common.{sym, ◌∙◌, append_assoc, length-append, get_or-set_same, get_or-set_other, drop-cons, eq-eqb, ne_eqb}
use Rattle.std.proofs.Math.Bool.{cond}
use Prim.Native.Nat.{ℕ, zero, suc, ◌+◌, ◌*◌, ◌-◌, ◌≤◌, ◌<◌, max}
use Rattle.std.proofs.Math.Numerals.{add-one}
use Rattle.std.proofs.Math.Decide.{ℕ_discrete}
use native.Mathlib.Omega.{arith}
use Rattle.std.proofs.Math.ListN.{length-set}
use Rattle.std.proofs.lemmas.List.{set_at, get_or-take}
use Rattle.rules.specs.Rows.{largest, lowest}
use Rattle.rules.specs.Table.{Table, latest, most_cost, most_jobs, job_count, arc_count, release, cost, deadline, before, after}
use Rattle.rules.specs.Refusals.{Fault, at_row}
use Rattle.laws.specs.Refusals.{ArcIn}
use Rattle.laws.specs.Rows.{largest_most, largest_ext}
use Rattle.modified.specs.declared.Way.{Way}
use Rattle.modified.specs.declared.Way.TheVariants.{Forward, Back}

-- ---- definitions

-- an arc leads a way from its source to its target
abbrev pub source_of : Table → Way → ℕ → ℕ
source_of t Forward a = before t a
source_of t Back a = after t a

-- the job that takes it over
abbrev pub target_of : Table → Way → ℕ → ℕ
target_of t Forward a = after t a
target_of t Back a = before t a

-- what a job has by itself: its release, or the tail of its deadline, which is how long before the latest instant it lies
abbrev pub start_of : Table → Way → ℕ → ℕ
start_of t Forward j = release t j
start_of t Back j = latest - deadline t j

-- what an arc from job i adds to what i has
abbrev pub gain_of : Table → Way → ℕ → ℕ
gain_of t Forward i = 0
gain_of t Back i = cost t i

-- what arc a brings to its target, from the times of the round before
abbrev pub brought : Table → Way → List ℕ → ℕ → ℕ
brought t way old a = get_or old (source_of t way a) 0 + gain_of t way (source_of t way a)

-- job j has at least x
unfoldable pub raised : List ℕ → ℕ → ℕ → List ℕ
raised v j x = set v j (max (get_or v j 0) x)

-- what job j has after the first m arcs of a round
unfoldable pub brought_to : Table → Way → List ℕ → ℕ → ℕ → ℕ
unfolding largest
brought_to t way old m j = largest (λ a. eqb (target_of t way a) j) (brought t way old) (start_of t way j) m

-- what job j has after k rounds
unfoldable pub round_to : Table → Way → ℕ → ℕ → ℕ
unfolding largest
round_to t way zero j = start_of t way j
round_to t way (suc k) j =
    largest
    (λ a. eqb (target_of t way a) j)
    (λ a. round_to t way k (source_of t way a) + gain_of t way (source_of t way a))
    (start_of t way j)
    (arc_count t)

-- a window below the cost, said by tails, and the lowest job that has one
abbrev pub short : Table → List ℕ → List ℕ → ℕ → Bool
short t releases tails j = ltb latest (get_or releases j 0 + cost t j + get_or tails j 0)

-- 10, at the lowest job whose window is below its cost
unfoldable pub window_found : Table → List ℕ → List ℕ → Option Fault
unfolding lowest
window_found t releases tails = at_row 10 (lowest (short t releases tails) (job_count t))

-- the times of the first n jobs, said by tails
unfoldable pub pairs_to : List ℕ → List ℕ → ℕ → List ℕ
pairs_to releases tails zero = []
pairs_to releases tails (suc n) = pairs_to releases tails n ++ (get_or releases n 0 ∷ (latest - get_or tails n 0) ∷ [])

-- what the code is told of the table and of its arrays

-- jobs are few, and their values within 5's bounds
pub record JobsIn (t : Table) : Type 0 where
  pub few : job_count t ≤ 64
  pub release_in : (j : ℕ) → j < job_count t → release t j ≤ latest
  pub cost_in : (j : ℕ) → j < job_count t → cost t j ≤ most_cost
  pub deadline_in : (j : ℕ) → j < job_count t → deadline t j ≤ latest

-- every arc names jobs of the table
abbrev pub ArcsIn : Table → Type 0
ArcsIn t = (a : ℕ) → a < arc_count t → ArcIn t a

-- an array of times that a round may read: the largest of 64 rounds
pub record Low (t : Table) (v : List ℕ) : Type 0 where
  pub size : length v ≡ 64
  pub at : (j : ℕ) → j < job_count t → get_or v j 0 ≤ latest + most_jobs * most_cost

-- an array that has x j for each job j
pub record Holds (t : Table) (x : ℕ → ℕ) (v : List ℕ) : Type 0 where
  pub size : length v ≡ 64
  pub at : (j : ℕ) → j < job_count t → get_or v j 0 ≡ x j

-- arrays that can be written as times
pub record Fit (n : ℕ) (releases tails : List ℕ) : Type 0 where
  pub release_size : length releases ≡ 64
  pub tail_size : length tails ≡ 64
  pub tail_in : (j : ℕ) → j < n → get_or tails j 0 ≤ latest

-- ---- laws for the code

at-raised : (v : List ℕ) (i x j : ℕ) → i < length v → get_or (raised v i x) j 0 ≡ cond (eqb i j) (max (get_or v j 0) x) (get_or v j 0)
unfolding raised
at-raised v i x j h =
    elim (ℕ_discrete i j) [
      | yes e ↦ rw (← e, eq-eqb i i refl) (get_or-set_same v i _ 0 h)
      | no d ↦ rw (ne_eqb i j d) (get_or-set_other v i j _ 0 (λ e. d (sym e)))
    ]

module _ (t : Table) (way : Way) where
  pub gain_in : (i : ℕ) → JobsIn t → i < job_count t → gain_of t way i ≤ most_cost
  gain_in i J l = go way
    where
      go : (w : Way) → gain_of t w i ≤ most_cost
      go Forward = omega arith
      go Back = J.cost_in i l

  start_in : (j : ℕ) → JobsIn t → j < job_count t → start_of t way j ≤ latest
  start_in j J l = go way
    where
      go : (w : Way) → start_of t w j ≤ latest
      go Forward = J.release_in j l
      go Back = omega arith

  pub target_in : (a : ℕ) → ArcIn t a → target_of t way a < job_count t
  target_in a A = go way
    where
      go : (w : Way) → target_of t w a < job_count t
      go Forward = A.after_in
      go Back = A.before_in

  pub source_in : (a : ℕ) → ArcIn t a → source_of t way a < job_count t
  source_in a A = go way
    where
      go : (w : Way) → source_of t w a < job_count t
      go Forward = A.before_in
      go Back = A.after_in

  -- a round, arc by arc
  pub brought-none : (old v : List ℕ) → Holds t (start_of t way) v → Holds t (brought_to t way old 0) v
  unfolding brought_to
  brought-none old v H = H

  pub brought_more : (old v w : List ℕ) (a : ℕ) → JobsIn t → ArcIn t a → Holds t (brought_to t way old a) v
      → w ≡ raised v (target_of t way a) (brought t way old a) → Holds t (brought_to t way old (a + 1)) w
  unfolding brought_to
  brought_more old v w a J A H e = rw (add-one, e) (record {
    size = unfold raised in (rw length-set H.size);
    at = λ j l.
        at-raised v (target_of t way a) (brought t way old a) j (omega (arith, H.size, J.few, target_in a A))
        ∙ ap (λ x. cond (eqb (target_of t way a) j) (max x (brought t way old a)) x) (H.at j l);
  })

  -- round after round
  pub round_none : (v : List ℕ) → Holds t (start_of t way) v → Holds t (round_to t way 0) v
  unfolding round_to
  round_none v H = H

  pub round_more : (old v : List ℕ) (k : ℕ) → ArcsIn t → Holds t (round_to t way k) old
      → Holds t (brought_to t way old (arc_count t)) v → Holds t (round_to t way (k + 1)) v
  unfolding brought_to round_to
  round_more old v k A O H = record {
    size = H.size;
    at = λ j l.
        rw add-one
        (H.at j l
        ∙ largest_ext _ _ (brought t way old) (λ a. round_to t way k (source_of t way a) + gain_of t way (source_of t way a))
        (start_of t way j) (arc_count t) (λ a q. refl)
        (λ a q e. ap (λ x. x + gain_of t way (source_of t way a)) (O.at (source_of t way a) (source_in a (A a q)))));
  }

  -- a round that changes nothing is followed by none that does
  stays : (k : ℕ) → ArcsIn t → ((j : ℕ) → j < job_count t → round_to t way (suc k) j ≡ round_to t way k j)
      → (d j : ℕ) → j < job_count t → round_to t way (d + k) j ≡ round_to t way k j
  unfolding round_to
  stays k A h zero j l = let e : 0 + k ≡ k = omega arith in rw e refl
  stays k A h (suc d) j l =
      let e : suc d + k ≡ suc (d + k) = omega arith in
      rw e
      (largest_ext _ _ (λ a. round_to t way (d + k) (source_of t way a) + gain_of t way (source_of t way a))
      (λ a. round_to t way k (source_of t way a) + gain_of t way (source_of t way a))
      (start_of t way j) (arc_count t) (λ a q. refl)
      (λ a q e. ap (λ x. x + gain_of t way (source_of t way a)) (stays k A h d (source_of t way a) (source_in a (A a q))))
      ∙ h j l)

  pub round_stays : (old v : List ℕ) (k n : ℕ) → ArcsIn t → Holds t (round_to t way k) old → Holds t (round_to t way (k + 1)) v
      → job_count t ≤ n → take n v ≡ take n old → k ≤ n → Holds t (round_to t way n) old
  round_stays old v k n A O H few same h =
      let again : (j : ℕ) → j < job_count t → round_to t way (suc k) j ≡ round_to t way k j =
      λ j l.
      let q : j < n = omega arith in
      let r : get_or v j 0 ≡ get_or old j 0 = sym (get_or-take n v j 0 q) ∙ ap (λ xs. get_or xs j 0) same ∙ get_or-take n old j 0 q in
      rw (← add-one k) (sym (H.at j l) ∙ r ∙ O.at j l) in
      let q : n - k + k ≡ n = omega arith in
      record { size = O.size; at = λ j l. O.at j l ∙ sym (rw q at (stays k A again (n - k) j l)) }

  -- each round adds one cost at most
  round_low : (k j : ℕ) → JobsIn t → ArcsIn t → j < job_count t → round_to t way k j ≤ latest + k * most_cost
  unfolding round_to
  round_low zero j J A l = omega (arith, start_in j J l)
  round_low (suc k) j J A l =
      largest_most _ _ (start_of t way j) (arc_count t) (latest + suc k * most_cost) (omega (arith, start_in j J l))
      (λ a q e.
      let s = source_in a (A a q) in
      omega (arith, round_low k (source_of t way a) J A s, gain_in (source_of t way a) J s))

  pub holds_low : (v : List ℕ) (k : ℕ) → k ≤ 64 → JobsIn t → ArcsIn t → Holds t (round_to t way k) v → Low t v
  holds_low v k h J A H = record { size = H.size; at = λ j l. omega (arith, H.at j l, round_low k j J A l) }

-- ---- times, for the code

pub pairs_length : (releases tails : List ℕ) (n : ℕ) → length (pairs_to releases tails n) ≡ 2 * n
unfolding pairs_to
pairs_length releases tails zero = refl
pairs_length releases tails (suc n) = rw length-append (omega (arith, pairs_length releases tails n))

-- two places more
pair_set : (front rest : List ℕ) (y z a b n : ℕ) → length front ≡ n
    → set (set (front ++ y ∷ z ∷ rest) n a) (n + 1) b ≡ (front ++ a ∷ b ∷ []) ++ rest
pair_set front rest y z a b n e =
    rw (set_at front y (z ∷ rest) a n e, ← append_assoc front (a ∷ []) (z ∷ rest))
    (set_at (front ++ a ∷ []) z rest b (n + 1) (rw length-append (omega arith))
    ∙ append_assoc front (a ∷ []) (b ∷ rest)
    ∙ sym (append_assoc front (a ∷ b ∷ []) rest))

pub pairs_none : (releases tails lent : List ℕ) → lent ≡ pairs_to releases tails 0 ++ drop (2 * 0) lent
unfolding pairs_to
pairs_none releases tails lent = refl

pub pairs_more : (releases tails lent times : List ℕ) (j : ℕ) → 2 * j + 1 < length lent → times ≡ pairs_to releases tails j ++ drop (2 * j) lent
    → set (set times (2 * j) (get_or releases j 0)) (2 * j + 1) (latest - get_or tails j 0) ≡ pairs_to releases tails (j + 1) ++ drop (2 * (j + 1)) lent
unfolding pairs_to
pairs_more releases tails lent times j h e =
    rw (e, two)
    (pair_set (pairs_to releases tails j) (drop (2 * (j + 1)) lent) _ _ _ _ (2 * j) (pairs_length releases tails j)
    ∙ ap (λ front. front ++ drop (2 * (j + 1)) lent) more)
  where
    more : pairs_to releases tails j ++ (get_or releases j 0 ∷ (latest - get_or tails j 0) ∷ []) ≡ pairs_to releases tails (j + 1)
    more = rw add-one

    two : drop (2 * j) lent ≡ get_or lent (2 * j) 0 ∷ get_or lent (2 * j + 1) 0 ∷ drop (2 * (j + 1)) lent
    two =
        let s : suc (2 * j) ≡ 2 * j + 1 = omega arith in
        let u : suc (2 * j + 1) ≡ 2 * (j + 1) = omega arith in
        drop-cons lent (2 * j) 0 (omega arith)
        ∙ ap (λ r. get_or lent (2 * j) 0 ∷ r) (ap (λ k. drop k lent) s ∙ drop-cons lent (2 * j + 1) 0 h ∙ ap (λ k. get_or lent (2 * j + 1) 0 ∷ drop k lent) u)
