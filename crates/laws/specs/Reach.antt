-- Chains of arcs: `reaches` is the closure of the arcs, and on a table without a cycle the number of a job's ancestors
-- rises along every arc.
use Rattle.std.specs.Prelude.{◌≡◌, ◌⊎◌, true, false}
use Rattle.std.proofs.Math.Path.{refl}
use Rattle.std.proofs.Common.{inl, inr}
use Rattle.std.proofs.Math.Logic.{⊎_elim}
use Prim.Native.Nat.{ℕ, zero, suc, ◌<◌}
use Rattle.std.proofs.Math.Decide.{ℕ_discrete}
use native.Mathlib.Omega.{arith}
use Rattle.rules.specs.Rows.{count}
use Rattle.rules.specs.Table.{Table, job_count, arc_count, before, after, precedes}
use Rattle.rules.specs.Refusals.{reaches_by, reaches, on_cycle}
use Rattle.laws.specs.Tests.{Says, tested, clash, bool_says, says_map, says_and, says_or, eq_says, yes_says, yes_of}
use Rattle.laws.specs.Rows.{any_says, count_most, count_lt}

-- ---- arcs

-- some arc leads from i to j
pub record Arc (t : Table) (i j : ℕ) : Type 0 where
  pub number : ℕ
  pub in_table : number < arc_count t
  pub tail : before t number ≡ i
  pub head : after t number ≡ j

pub precedes_says : (t : Table) (i j : ℕ) → Says (Arc t i j) (Arc t i j → ⊥) (precedes t i j)
unfolding precedes
precedes_says t i j =
    says_map
    (λ w. record { number = w.0; in_table = w.1; tail = w.2.0; head = w.2.1 })
    (λ none_is a. ⊎_elim (λ n. n a.tail) (λ n. n a.head) (none_is a.number a.in_table))
    (any_says _ _ _ (λ a. says_and (eq_says (before t a) i) (eq_says (after t a) j)) (arc_count t))

-- ---- chains

-- Job i is an ancestor of job j: a chain of one arc or more leads from i to j.
pub data Ancestor (t : Table) : ℕ → ℕ → Type 0 where
  direct : {i j : ℕ} → precedes t i j ≡ true → Ancestor t i j
  further : {i m j : ℕ} → Ancestor t i m → precedes t m j ≡ true → Ancestor t i j

pub ancestor_trans : {t : Table} {i m j : ℕ} → Ancestor t i m → Ancestor t m j → Ancestor t i j
ancestor_trans a (direct e) = further a e
ancestor_trans a (further b e) = further (ancestor_trans a b) e

module _ (t : Table) where
  reach_says : (k i j : ℕ) → Says
      ((reaches_by t k i j ≡ true) ⊎ ((reaches_by t k i k ≡ true) × (reaches_by t k k j ≡ true)))
      ((reaches_by t k i j ≡ false) × ((reaches_by t k i k ≡ false) ⊎ (reaches_by t k k j ≡ false)))
      (reaches_by t (suc k) i j)
  unfolding reaches_by
  reach_says k i j =
      says_or (bool_says (reaches_by t k i j)) (says_and (bool_says (reaches_by t k i k)) (bool_says (reaches_by t k k j)))

  -- what is reached stays reached when more jobs may stand between
  reach_stays : (k i j : ℕ) → reaches_by t k i j ≡ true → reaches_by t (suc k) i j ≡ true
  reach_stays k i j e = yes_of (reach_says k i j) (λ w. clash e w.0)

  reach_over : (k i j : ℕ) → reaches_by t k i k ≡ true → reaches_by t k k j ≡ true → reaches_by t (suc k) i j ≡ true
  reach_over k i j p q = yes_of (reach_says k i j) (λ w. ⊎_elim (clash p) (clash q) w.1)

  -- a way through k itself needs no more than the jobs below k
  reach_to : (k i : ℕ) → reaches_by t (suc k) i k ≡ true → reaches_by t k i k ≡ true
  reach_to k i e = ⊎_elim (λ p. p) (λ p. p.0) (yes_says (reach_says k i k) e)

  reach_from : (k j : ℕ) → reaches_by t (suc k) k j ≡ true → reaches_by t k k j ≡ true
  reach_from k j e = ⊎_elim (λ p. p) (λ p. p.1) (yes_says (reach_says k k j) e)

  -- two ways that meet in a job below k join
  reach_join : (k i m j : ℕ) → m < k → reaches_by t k i m ≡ true → reaches_by t k m j ≡ true → reaches_by t k i j ≡ true
  reach_join zero i m j l p q = absurd (omega arith)
  reach_join (suc k) i m j l p q =
      elim (ℕ_discrete m k) [
        | yes e ↦ reach_over k i j (reach_to k i (rw e at p)) (reach_from k j (rw e at q))
        | no n ↦ go (omega arith) (yes_says (reach_says k i m) p) (yes_says (reach_says k m j) q) (λ a b. reach_join k a m b)
      ]
    where
      go : m < k
          → (reaches_by t k i m ≡ true) ⊎ ((reaches_by t k i k ≡ true) × (reaches_by t k k m ≡ true))
          → (reaches_by t k m j ≡ true) ⊎ ((reaches_by t k m k ≡ true) × (reaches_by t k k j ≡ true))
          → ((a b : ℕ) → m < k → reaches_by t k a m ≡ true → reaches_by t k m b ≡ true → reaches_by t k a b ≡ true)
          → reaches_by t (suc k) i j ≡ true
      go h (inl x) (inl y) join = reach_stays k i j (join i j h x y)
      go h (inl x) (inr y) join = reach_over k i j (join i k h x y.0) y.1
      go h (inr x) (inl y) join = reach_over k i j x.0 (join k j h x.1 y)
      go h (inr x) (inr y) join = reach_over k i j x.0 y.1

  reach_arc : (k i j : ℕ) → precedes t i j ≡ true → reaches_by t k i j ≡ true
  unfolding reaches_by
  reach_arc zero i j e = e
  reach_arc (suc k) i j e = reach_stays k i j (reach_arc k i j e)

  reach_chain : (k i j : ℕ) → reaches_by t k i j ≡ true → Ancestor t i j
  unfolding reaches_by
  reach_chain zero i j e = direct e
  reach_chain (suc k) i j e =
      ⊎_elim
      (reach_chain k i j)
      (λ w. ancestor_trans (reach_chain k i k w.0) (reach_chain k k j w.1))
      (yes_says (reach_says k i j) e)

  pub reaches_ancestor : (i j : ℕ) → reaches t i j ≡ true → Ancestor t i j
  unfolding reaches
  reaches_ancestor i j = reach_chain (job_count t) i j

-- every arc names jobs of the table
abbrev pub ArcsInside : Table → Type 0
ArcsInside t = (a : ℕ) → a < arc_count t → (before t a < job_count t) × (after t a < job_count t)

-- no job is on a cycle
abbrev pub Acyclic : Table → Type 0
Acyclic t = (j : ℕ) → j < job_count t → on_cycle t j ≡ false

module _ (t : Table) (inside : ArcsInside t) where
  pub precedes_inside : (i j : ℕ) → precedes t i j ≡ true → (i < job_count t) × (j < job_count t)
  precedes_inside i j e =
      let a = yes_says (precedes_says t i j) e in
      let h = inside a.number a.in_table in
      (omega (arith, h.0, a.tail), omega (arith, h.1, a.head))

  pub ancestor_inside : {i j : ℕ} → Ancestor t i j → (i < job_count t) × (j < job_count t)
  ancestor_inside (direct {i} {j} e) = precedes_inside i j e
  ancestor_inside (further {i} {m} {j} a e) = ((ancestor_inside a).0, (precedes_inside m j e).1)

  pub ancestor_reaches : {i j : ℕ} → Ancestor t i j → reaches t i j ≡ true
  unfolding reaches
  ancestor_reaches (direct {i} {j} e) = reach_arc t (job_count t) i j e
  ancestor_reaches (further {i} {m} {j} a e) =
      reach_join t (job_count t) i m j (precedes_inside m j e).0 (ancestor_reaches a) (reach_arc t (job_count t) m j e)

-- ---- heights

-- how many ancestors a job has
unfoldable pub ancestors : Table → ℕ → ℕ
ancestors t j = count (λ i. reaches t i j) (job_count t)

-- how many descendants it has
unfoldable pub descendants : Table → ℕ → ℕ
descendants t j = count (λ i. reaches t j i) (job_count t)

module _ (t : Table) (inside : ArcsInside t) (acyclic : Acyclic t) where
  -- no chain leads back
  pub no_return : {j : ℕ} → Ancestor t j j → ⊥
  unfolding on_cycle
  no_return {j} a = clash (ancestor_reaches t inside a) (acyclic j (ancestor_inside t inside a).0)

  not_itself : (j : ℕ) → reaches t j j ≡ false
  not_itself j = ⊎_elim (λ e. absurd (no_return (reaches_ancestor t j j e))) (λ e. e) (tested (reaches t j j))

  pub ancestors_rise : (i j : ℕ) → precedes t i j ≡ true → ancestors t i < ancestors t j
  unfolding ancestors
  ancestors_rise i j e =
      count_lt
      (λ k. reaches t k i)
      (λ k. reaches t k j)
      (job_count t)
      i
      (precedes_inside t inside i j e).0
      (not_itself i)
      (ancestor_reaches t inside (direct e))
      (λ k h. ancestor_reaches t inside (further (reaches_ancestor t k i h) e))

  pub descendants_fall : (i j : ℕ) → precedes t i j ≡ true → descendants t j < descendants t i
  unfolding descendants
  descendants_fall i j e =
      count_lt
      (λ k. reaches t j k)
      (λ k. reaches t i k)
      (job_count t)
      j
      (precedes_inside t inside i j e).1
      (not_itself j)
      (ancestor_reaches t inside (direct e))
      (λ k h. ancestor_reaches t inside (ancestor_trans (direct e) (reaches_ancestor t j k h)))

  -- a job is not among its own
  pub descendants_few : (j : ℕ) → j < job_count t → descendants t j < job_count t
  unfolding descendants
  descendants_few j l =
      omega (
        arith,
        count_lt (λ i. reaches t j i) (λ i. true) (job_count t) j l (not_itself j) refl (λ i h. refl),
        count_most (λ i. true) (job_count t),
      )
