-- Chains of arcs in words: word i holds the jobs that chains from job i lead to.
use Rattle.std.specs.Prelude.{◌≡◌, refl, Bool, ◌&&◌, ◌||◌, List, [], ◌∷◌, ◌++◌, ℕ, zero, suc, ◌+◌, ◌≤◌, ◌<◌, length, get_or, set, take, drop, replicate, eqb, Option, None}
use Rattle.std.proofs.Common.{sym, ◌∙◌, ap, add-one, arith, length-set, length-append, length-drop, get_or-set_same, get_or-set_other, eq-eqb, ne_eqb}
use Rattle.std.proofs.Math.Decide.{ℕ_discrete}
use Rattle.std.proofs.lemmas.List.{get_or-replicate, get_or-take, length-take-le}
use Rattle.std.proofs.Math.ListN.{get_or-append}
use Rattle.rules.specs.Rows.{any, lowest}
use Rattle.rules.specs.Table.{Table, job_count, arc_count, before, after, precedes, section_count}
use Rattle.rules.specs.Refusals.{Fault, first_of, at_row, clashes, reaches_by, reaches, on_cycle}
use Rattle.laws.specs.Rows.{lowest_ext}
use Rattle.rows.specs.Judged.{clashes_fault}
use Rattle.rows.specs.Stages.{front_rows, front_later}
use Rattle.rules.specs.Lists.{table}
use Rattle.cycles.specs.Promise.{cycle_found, cycles_fault}
use Rattle.cycles.specs.Words.{has, insert, joined, has-none, has-insert, or_false, has-joined}

-- every arc names numbers below n
abbrev pub ArcsBelow : Table → ℕ → Type 0
ArcsBelow t n = (a : ℕ) → a < arc_count t → (before t a < n) × (after t a < n)

-- the words hold the first m arcs
pub record Upto (t : Table) (m : ℕ) (words : List ℕ) : Type 0 where
  pub size : length words ≡ 64
  pub holds : (i j : ℕ) → i < 64 → has (get_or words i 0) j ≡ any (λ a. eqb (before t a) i && eqb (after t a) j) m

-- each word holds the direct successors of its job
abbrev pub Direct : Table → List ℕ → Type 0
Direct t words = Upto t (arc_count t) words

-- each job's word holds what chains reach whose inner jobs are below k
pub record Reached (t : Table) (k : ℕ) (words : List ℕ) : Type 0 where
  pub size : length words ≡ 64
  pub holds : (i j : ℕ) → i < job_count t → has (get_or words i 0) j ≡ reaches_by t k i j

-- the first i words have taken in `next` where they hold k, and the others are as they were
pub record Passed (k next : ℕ) (old words : List ℕ) (i : ℕ) : Type 0 where
  pub size : length words ≡ length old
  pub done : (x : ℕ) → x < i → get_or words x 0 ≡ joined (get_or old x 0) k next
  pub left : (x : ℕ) → i ≤ x → get_or words x 0 ≡ get_or old x 0

-- each word that holds k has taken in the word of k
pub record Joins (k : ℕ) (old words : List ℕ) : Type 0 where
  pub size : length words ≡ length old
  pub at : (x : ℕ) → x < length old → get_or words x 0 ≡ joined (get_or old x 0) k (get_or old k 0)

-- ---- laws for the code

-- no arc yet
pub upto_none : (t : Table) → Upto t 0 (replicate 64 0)
unfolding any
upto_none t = record { size = refl; holds = λ i j l. ap (λ w. has w j) (get_or-replicate 64 i 0 0 l) ∙ has-none j }

-- one arc more
pub upto_more : (t : Table) (words : List ℕ) (m b a : ℕ) → b < 64 → b ≡ before t m → a ≡ after t m
    → Upto t m words → Upto t (m + 1) (set words b (insert (get_or words b 0) a))
unfolding any
upto_more t words m b a h p q U = record {
  size = rw length-set U.size;
  holds = λ i j l. rw (add-one, ← U.holds i j l, ← p, ← q) (go i j);
}
  where
    go : (i j : ℕ) → has (get_or (set words b (insert (get_or words b 0) a)) i 0) j ≡ (has (get_or words i 0) j || (eqb b i && eqb a j))
    go i j =
        elim (ℕ_discrete b i) [
          | yes e ↦ rw (← e, get_or-set_same words b _ 0 (omega (arith, U.size)), eq-eqb b b refl) (has-insert (get_or words b 0) a j)
          | no d ↦ rw (get_or-set_other words b i _ 0 (λ e. d (sym e)), ne_eqb b i d) (or_false (has (get_or words i 0) j))
        ]

-- chains of one arc
pub reached_none : (t : Table) (words : List ℕ) → job_count t ≤ 64 → Direct t words → Reached t 0 words
unfolding reaches_by precedes
reached_none t words h D = record { size = D.size; holds = λ i j l. D.holds i j (omega arith) }

-- chains through job k too: the word of k was read before any of the first n words changed
pub reached_more : (t : Table) (old new : List ℕ) (n k : ℕ) → n ≡ job_count t → n ≤ 64 → k < n → Reached t k old
    → Joins k (take n old) new → Reached t (k + 1) (new ++ drop n old)
unfolding reaches_by
reached_more t old new n k same few h R J = record {
  size = rw (length-append, length-drop) (omega (arith, J.size, size, R.size));
  holds = λ i j l.
      rw add-one
      (ap (λ w. has w j) (front i (omega arith))
      ∙ has-joined (get_or old i 0) k (get_or old k 0) j
      ∙ (λ x. R.holds i j l x || (R.holds i k l x && R.holds k j (omega arith) x)));
}
  where
    size : length (take n old) ≡ n
    size = length-take-le n old (omega (arith, R.size))

    front : (i : ℕ) → i < n → get_or (new ++ drop n old) i 0 ≡ joined (get_or old i 0) k (get_or old k 0)
    front i l =
        get_or-append new (drop n old) 0 i (omega (arith, J.size, size))
        ∙ J.at i (omega (arith, size))
        ∙ (λ x. joined (get_or-take n old i 0 l x) k (get_or-take n old k 0 h x))

-- a job is on a cycle where its word holds it
pub cycle_is : (t : Table) (words : List ℕ) (j : ℕ) (b : Bool) → Reached t (job_count t) words → j < job_count t
    → b ≡ has (get_or words j 0) j → on_cycle t j ≡ b
unfolding on_cycle reaches
cycle_is t words j b R l e = sym (e ∙ R.holds j j l)

-- so the lowest whose word does is the lowest on a cycle
pub lowest_cycle_is : (t : Table) (words : List ℕ) → Reached t (job_count t) words
    → lowest (λ j. has (get_or words j 0) j) (job_count t) ≡ lowest (on_cycle t) (job_count t)
lowest_cycle_is t words R = lowest_ext _ _ (job_count t) (λ j l. sym (cycle_is t words j _ R l refl))

-- chains are a matter of the arcs alone
pub reaches_same : (jobs sections jobs₂ sections₂ arcs : List ℕ) (k i j : ℕ)
    → reaches_by (table jobs arcs sections) k i j ≡ reaches_by (table jobs₂ arcs sections₂) k i j
unfolding reaches_by precedes
reaches_same jobs sections jobs₂ sections₂ arcs zero i j = refl
reaches_same jobs sections jobs₂ sections₂ arcs (suc k) i j =
    let same = reaches_same jobs sections jobs₂ sections₂ arcs k in
    λ x. same i j x || (same i k x && same k j x)

-- the sections have no part in what 9 finds
pub cycle_found_lem : (jobs arcs sections : List ℕ) → cycle_found (table jobs arcs sections) ≡ cycle_found (table jobs arcs [])
unfolding cycle_found on_cycle reaches
cycle_found_lem jobs arcs sections =
    ap (at_row 9)
    (lowest_ext _ _ (job_count (table jobs [] [])) (λ k l. reaches_same jobs sections jobs [] arcs (job_count (table jobs [] [])) k k))

-- the finds make up what 2 to 9 find
pub cycles_are : (t : Table) {v : Option Fault} {j : Option ℕ} → v ≡ clashes_fault t → j ≡ lowest (on_cycle t) (job_count t)
    → first_of (v ∷ at_row 9 j ∷ []) ≡ cycles_fault t
unfolding clashes_fault cycles_fault
cycles_are t p q =
    rw (p, q) (front_later t (at_row 8 (lowest (clashes t) (section_count t)) ∷ []) (at_row 9 (lowest (on_cycle t) (job_count t)) ∷ []))

-- what 2 to 8 settle for the words
pub cycles_ready : (t : Table) → None ≡ clashes_fault t → (job_count t ≤ 64) × ArcsBelow t 64
unfolding clashes_fault
cycles_ready t e =
    let R = front_rows t (at_row 8 (lowest (clashes t) (section_count t)) ∷ []) (sym e) in
    (R.few_jobs, λ a l. let A = R.arc_in a l in (omega (arith, R.few_jobs, A.before_in), omega (arith, R.few_jobs, A.after_in)))
