-- Marks and finishes in a run of any choice of the class: a finished job is stale exactly if it or an ancestor ended badly,
-- and its finish is the tick after the one that ended it.
use Rattle.std.specs.Prelude.{◌≡◌, refl, ◌≢◌, ◌⊎◌, ℕ, zero, suc, ◌+◌, ◌≤◌, ◌<◌, Option, Some}
use Rattle.std.proofs.Common.{sym, ◌∙◌, ap, inl, inr, ⊎_elim, arith}
use Rattle.std.proofs.Math.Decide.{ℕ_discrete, dec_lt}
use Rattle.rules.specs.Rows.{sum}
use Rattle.run_laws.specs.Theory.{
  Jobs,
  Run,
  last_release,
  chosen-pending,
  chosen_up,
  others_same,
  grows,
  grows_to,
  quasi,
  earlier_finished,
  unfinished_before,
}

-- Arcs, and who is a job itself or an ancestor of it; an ancestor is released no later and comes before in the order.
pub record Kin (J : Jobs) : Type 1 where
  pub Arc : ℕ → ℕ → Type 0
  pub Anc : ℕ → ℕ → Type 0
  pub self : (j : ℕ) → Anc j j
  pub via : {i m j : ℕ} → Anc i m → Arc m j → Anc i j
  pub last : {i j : ℕ} → Anc i j → (i ≡ j) ⊎ ((m : ℕ) × Anc i m × Arc m j)
  pub ahead : {i j : ℕ} → Anc i j → i ≢ j → (J.key i < J.key j) × (J.release i ≤ J.release j)
  -- an arc leaves a job of the table, and no job has an arc to itself
  pub tail : {i j : ℕ} → Arc i j → 0 < J.cost i
  pub acyclic : {i j : ℕ} → Arc i j → i ≢ j

module _ (J : Jobs) (K : Kin J) where
  -- The mark that an ending job x is given, by the marks m before: 1 is fresh, 2 is stale.
  pub data MarkRule (Bad : Type 0) (m : ℕ → ℕ) (x given : ℕ) : Type 0 where
    clean : given ≡ 1 → (Bad → ⊥) → ((i : ℕ) → K.Arc i x → m i ≢ 2) → MarkRule Bad m x given
    itself : given ≡ 2 → Bad → MarkRule Bad m x given
    inherits : given ≡ 2 → (i : ℕ) → K.Arc i x → m i ≡ 2 → MarkRule Bad m x given

  -- What the tick t writes into marks and finishes: nothing, if it ends no job; else the mark and the finish of that job.
  pub data Writes (Bad : ℕ → Type 0) (t : ℕ) (e m m' f f' : ℕ → ℕ) : Option ℕ → Type 0 where
    nothing : {o : Option ℕ}
        → ((x : ℕ) → o ≡ Some x → suc (e x) ≢ J.cost x)
        → ((j : ℕ) → m' j ≡ m j) → ((j : ℕ) → f' j ≡ f j) → Writes Bad t e m m' f f' o
    ending : {x : ℕ}
        → suc (e x) ≡ J.cost x
        → MarkRule (Bad x) m x (m' x) → ((j : ℕ) → j ≢ x → m' j ≡ m j)
        → f' x ≡ suc t → ((j : ℕ) → j ≢ x → f' j ≡ f j) → Writes Bad t e m m' f f' (Some x)

  -- Marks and finishes beside a run; Bad k x says that job x, if tick k ends it, ends badly.
  pub record Marks (R : Run J) (Bad : ℕ → ℕ → Type 0) : Type 0 where
    pub mark : ℕ → ℕ → ℕ
    pub finish : ℕ → ℕ → ℕ
    pub unmarked_at_0 : (j : ℕ) → mark 0 j ≡ 0
    pub unended_at_0 : (j : ℕ) → finish 0 j ≡ 0
    pub writes : (k : ℕ) → Writes (Bad k) k (R.e k) (mark k) (mark (suc k)) (finish k) (finish (suc k)) (R.pick k)

  module _ (R : Run J) (Bad : ℕ → ℕ → Type 0) where
    -- Tick s ended job i.
    pub record Ended (s i : ℕ) : Type 0 where
      pub chosen : R.pick s ≡ Some i
      pub full : suc (R.e s i) ≡ J.cost i

    -- Job i ended badly before tick k.
    pub record EndedBadly (k i : ℕ) : Type 0 where
      pub at : ℕ
      pub before : at < k
      pub ended : Ended at i
      pub badly : Bad at i

    later : {k i : ℕ} → EndedBadly k i → EndedBadly (suc k) i
    later b = record { at = b.at; before = omega (arith, b.before); ended = b.ended; badly = b.badly }

    recent : {k i : ℕ} → EndedBadly (suc k) i → EndedBadly k i ⊎ (Ended k i × Bad k i)
    recent {k} {i} b =
        elim (ℕ_discrete b.at k) [
          | yes q ↦ inr (rw q at b.ended, rw q at b.badly)
          | no q ↦ inl (record { at = b.at; before = omega (arith, b.before); ended = b.ended; badly = b.badly })
        ]

    -- before a tick that is its, a job has not ended
    not_ended : {k i : ℕ} → R.e k i < J.cost i → EndedBadly k i → ⊥
    not_ended {k} {i} l b =
        omega (arith, b.ended.full, chosen_up J R b.ended.chosen, grows_to J R (suc b.at) k i b.before)

    -- a job that a tick does not end is unfinished after it, if it was before
    unfinished_still : {k j : ℕ} → (Ended k j → ⊥) → R.e k j < J.cost j → R.e (suc k) j < J.cost j
    unfinished_still {k} {j} n l = elim (dec_lt (R.e (suc k) j) (J.cost j)) [ yes h ↦ h | no h ↦ absurd (go h) ]
      where
        go : (R.e (suc k) j < J.cost j → ⊥) → ⊥
        go h =
            omega (
              arith,
              others_same J R {k = k} {j = j} (λ p. n (record { chosen = p; full = omega (arith, chosen_up J R p) })),
            )

    module _ (M : Marks R Bad) where
      -- What a job's mark says at tick k.
      pub data Marked (k j : ℕ) : Type 0 where
        unmarked : M.mark k j ≡ 0 → R.e k j < J.cost j → Marked k j
        fresh : M.mark k j ≡ 1 → J.cost j ≤ R.e k j → ((i : ℕ) → K.Anc i j → EndedBadly k i → ⊥) → Marked k j
        stale : M.mark k j ≡ 2 → J.cost j ≤ R.e k j → (i : ℕ) → K.Anc i j → EndedBadly k i → Marked k j

      -- a job that the tick does not end keeps what its mark says
      keeps : (k j : ℕ) → 0 < J.cost j → (Ended k j → ⊥) → M.mark (suc k) j ≡ M.mark k j → Marked k j → Marked (suc k) j
      keeps k j c n same (unmarked v l) = unmarked (same ∙ v) (unfinished_still n l)
      keeps k j c n same (fresh v d sound) =
          fresh (same ∙ v) (omega (arith, grows J (R.frame k) j)) (λ i a b. ⊎_elim (sound i a) (λ w. go i a w.0) (recent b))
        where
          go : (i : ℕ) → K.Anc i j → Ended k i → ⊥
          go i a w =
              elim (ℕ_discrete i j) [
                | yes q ↦ n (rw q at w)
                | no q ↦
                    (let h = K.ahead a q in
                    omega (arith, quasi J R k i j h.0 h.1 (omega arith), (chosen-pending J R w.chosen).unfinished))
              ]
      keeps k j c n same (stale v d i a b) = stale (same ∙ v) (omega (arith, grows J (R.frame k) j)) i a (later b)

      -- the job that the tick ends gets its mark from its report and from direct predecessors, which have finished
      module _ (k x : ℕ) (ended : Ended k x) where
        done : J.cost x ≤ R.e (suc k) x
        done = omega (arith, chosen_up J R ended.chosen, ended.full)

        predecessor : {m : ℕ} → K.Arc m x → (J.key m < J.key x) × (J.cost m ≤ R.e k m)
        predecessor {m} a =
            let h = K.ahead (K.via (K.self m) a) (K.acyclic a) in
            (h.0, earlier_finished J R k m x ended.chosen h.0 h.1)

        -- a direct predecessor that is not stale has no ancestor that ended badly, now or before
        sound_before : {m : ℕ} → K.Arc m x → M.mark k m ≢ 2 → Marked k m → (i : ℕ) → K.Anc i m → EndedBadly (suc k) i → ⊥
        sound_before {m} a n (unmarked v l) i b w = omega (arith, (predecessor a).1)
        sound_before {m} a n (stale v d j c u) i b w = n v
        sound_before {m} a n (fresh v d sound) i b w = ⊎_elim (sound i b) (λ u. go u.0) (recent w)
          where
            go : Ended k i → ⊥
            go u =
                let q : x ≡ i = cc (ended.chosen, u.chosen) in
                let l : J.key m < J.key i = rw q at (predecessor a).0 in
                elim (ℕ_discrete i m) [
                  | yes e ↦ omega (arith, ap J.key e)
                  | no e ↦ omega (arith, (K.ahead b e).0)
                ]

        ends_marked : ((j : ℕ) → 0 < J.cost j → Marked k j) → MarkRule (Bad k x) (M.mark k) x (M.mark (suc k) x) → Marked (suc k) x
        ends_marked ih (clean v well sound) = fresh v done (λ i a b. ⊎_elim (self_case i b) (far_case i b) (K.last a))
          where
            self_case : (i : ℕ) → EndedBadly (suc k) i → i ≡ x → ⊥
            self_case i b q =
                ⊎_elim
                (λ w. not_ended (omega (arith, ended.full)) (rw q at w))
                (λ w. well (rw q at w.1))
                (recent b)

            far_case : (i : ℕ) → EndedBadly (suc k) i → ((m : ℕ) × K.Anc i m × K.Arc m x) → ⊥
            far_case i b w = sound_before w.2 (sound w.0 w.2) (ih w.0 (K.tail w.2)) i w.1 b
        ends_marked ih (itself v bad) =
            stale v done x (K.self x) (record { at = k; before = omega arith; ended = ended; badly = bad })
        ends_marked ih (inherits v m a two) = go (ih m (K.tail a))
          where
            go : Marked k m → Marked (suc k) x
            go (unmarked w l) = absurd (omega arith)
            go (fresh w d sound) = absurd (omega arith)
            go (stale w d i b bad) = stale v done i (K.via b a) (later bad)

      -- A job's mark: none while it is unfinished; then stale exactly if it or an ancestor ended badly, else fresh.
      pub marked : (k j : ℕ) → 0 < J.cost j → Marked k j
      marked zero j c = unmarked (M.unmarked_at_0 j) (omega (arith, R.starts j))
      marked (suc k) j c = go (R.pick k) refl (M.writes k) (marked k)
        where
          go : (o : Option ℕ) → R.pick k ≡ o
              → Writes (Bad k) k (R.e k) (M.mark k) (M.mark (suc k)) (M.finish k) (M.finish (suc k)) o
              → ((i : ℕ) → 0 < J.cost i → Marked k i) → Marked (suc k) j
          go o p (nothing n same _) ih = keeps k j c (λ w. n j (sym p ∙ w.chosen) w.full) (same j) (ih j c)
          go (Some x) p (ending l rule same _ _) ih =
              elim (ℕ_discrete j x) [
                | yes q ↦ rw q (ends_marked k x (record { chosen = p; full = l }) ih rule)
                | no q ↦
                    keeps k j c (λ w. q (let y : x ≡ j = cc (p, w.chosen) in sym y)) (same j q) (ih j c)
              ]

      -- ---- finishes

      -- What a job's finish says at tick k.
      pub data Finish (k j : ℕ) : Type 0 where
        unended : M.finish k j ≡ 0 → (0 < J.cost j → R.e k j < J.cost j) → Finish k j
        ended_at : (s : ℕ) → s < k → M.finish k j ≡ suc s → Ended s j → Finish k j

      keeps_finish : (k j : ℕ) → (Ended k j → ⊥) → M.finish (suc k) j ≡ M.finish k j → Finish k j → Finish (suc k) j
      keeps_finish k j n same (ended_at s l v w) = ended_at s (omega arith) (same ∙ v) w
      keeps_finish k j n same (unended v l) = unended (same ∙ v) (λ c. unfinished_still n (l c))

      pub finish_says : (k j : ℕ) → Finish k j
      finish_says zero j = unended (M.unended_at_0 j) (λ c. omega (arith, R.starts j))
      finish_says (suc k) j = go (R.pick k) refl (M.writes k) (finish_says k j)
        where
          go : (o : Option ℕ) → R.pick k ≡ o
              → Writes (Bad k) k (R.e k) (M.mark k) (M.mark (suc k)) (M.finish k) (M.finish (suc k)) o
              → Finish k j → Finish (suc k) j
          go o p (nothing n _ same) ih = keeps_finish k j (λ w. n j (sym p ∙ w.chosen) w.full) (same j) ih
          go (Some x) p (ending l _ _ f same) ih =
              elim (ℕ_discrete j x) [
                | yes q ↦ rw q (ended_at k (omega arith) f (record { chosen = p; full = l }))
                | no q ↦ keeps_finish k j (λ w. q (let y : x ≡ j = cc (p, w.chosen) in sym y)) (same j q) ih
              ]

      -- Every finish is at most the last release plus the sum of costs.
      pub finish_by : (k j : ℕ) → M.finish k j ≤ last_release J + sum J.cost J.count
      finish_by k j = go (finish_says k j)
        where
          go : Finish k j → M.finish k j ≤ last_release J + sum J.cost J.count
          go (unended v l) = omega arith
          go (ended_at s l v w) = omega (arith, unfinished_before J R s j (chosen-pending J R w.chosen).unfinished)
