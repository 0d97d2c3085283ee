-- What holds between two events: the same choice is made, so many ticks are taken at once.
use Rattle.std.specs.Prelude.{◌≡◌, refl, ◌≢◌, ◌⊎◌, Bool, true, false, ◌&&◌, List, [], ◌∷◌, ◌++◌, length, replicate}
use Rattle.std.proofs.Math.Path.{sym}
use Rattle.std.proofs.Common.{◌∙◌, ap, ⊎_elim, get_or-set_same, get_or-set_other, ne_eqb, Option, None, Some}
use Prim.Native.Nat.{ℕ, zero, suc, ◌+◌, ◌-◌, ◌≤◌, ◌<◌}
use Rattle.std.proofs.Math.Decide.{ℕ_discrete}
use native.Mathlib.Omega.{arith}
use Rattle.std.proofs.lemmas.List.{length-replicate, replicate-append-replicate, set-get_or}
use Rattle.std.proofs.Math.Seq.{set-set}
use Rattle.rules.specs.Table.{Plan, State, job_count, cost, section_count, owner, resource, from, to, executed}
use Rattle.rules.specs.Order.{comes_before}
use Rattle.rules.specs.Refusals.{finished, all_finished}
use Rattle.rules.specs.Tick.{pending, started, holds, held_on, held, first_pending, first_started, chosen, ends, ends_stale, advance, tick}
use Rattle.rules.specs.Run.{onward, answered}
use Rattle.laws.specs.Tests.{Says, clash, lt_says, eq_says, bool_says, says_and, says_agree, yes_says, yes_of}
use Rattle.laws.specs.Rows.{all-not, sum_le, bit_le}
use Rattle.laws.specs.First.{first_ext}
use Rattle.laws.specs.Clears.{stuck_more}
use Rattle.laws.specs.Chosen.{
  pending_says,
  chosen_idle,
  chosen_resumes,
  chosen_detains,
  Choice,
  idles,
  first_runs,
  detains,
  choice_made,
  first-started-told,
  chosen-pending,
  tick_idle,
  tick_runs,
}
use Rattle.laws.specs.Events.{NoEvent, Unreleased, Quiet, given, idled, advance_by}

-- ---- two states with no event between them

held_says : (p : Plan) (st : State) (q s : ℕ)
    → Says
    ((resource p.table s ≡ q)
    × (((from p.table s < executed st (owner p.table s)) × (executed st (owner p.table s) < to p.table s))
    × (pending p st (owner p.table s) ≡ true)))
    ((resource p.table s ≢ q)
    ⊎ (((executed st (owner p.table s) ≤ from p.table s) ⊎ (to p.table s ≤ executed st (owner p.table s)))
    ⊎ (pending p st (owner p.table s) ≡ false)))
    (held_on p st q s)
unfolding held_on holds
held_says p st q s =
    let e = executed st (owner p.table s) in
    says_and
    (eq_says (resource p.table s) q)
    (says_and
    (says_and (lt_says (from p.table s) e) (lt_says e (to p.table s)))
    (bool_says (pending p st (owner p.table s))))

started_same : (st st' : State) (i : ℕ) → executed st' i ≡ executed st i → started st i ≡ started st' i
unfolding started
started_same st st' i e = rw e

module _ (p : Plan) (st st' : State) (N : NoEvent p st st') where
  pending_stays : (i : ℕ) → pending p st i ≡ true → pending p st' i ≡ true
  pending_stays i e =
      let (r, u) = yes_says (pending_says p st i) e in
      yes_of (pending_says p st' i) (⊎_elim (λ l. omega (arith, N.later)) (λ l. omega (arith, N.no_finish i u)))

  pending-before : (i : ℕ) → i < job_count p.table → pending p st' i ≡ true → pending p st i ≡ true
  pending-before i l e =
      let (r, u) = yes_says (pending_says p st' i) e in
      yes_of (pending_says p st i) (⊎_elim (λ h. omega (arith, N.no_release i l h)) (λ h. omega (arith, N.grows i)))

  -- the same jobs are pending
  pending_same : (i : ℕ) → i < job_count p.table → pending p st i ≡ pending p st' i
  pending_same i l =
      says_agree
      (bool_says (pending p st i))
      (bool_says (pending p st' i))
      (λ e n. clash (pending_stays i e) n)
      (λ n e. clash (pending-before i l e) n)

  -- what is held stays held
  held_stays : (q s : ℕ) → s < section_count p.table → held_on p st q s ≡ true → held_on p st' q s ≡ true
  held_stays q s l e =
      let (on, ((begun, inside), waits)) = yes_says (held_says p st q s) e in
      yes_of (held_says p st' q s)
      (⊎_elim
      (λ n. n on)
      (⊎_elim
      (⊎_elim (λ h. omega (arith, N.grows (owner p.table s))) (λ h. omega (arith, N.no_end s l inside)))
      (λ n. clash (pending_stays (owner p.table s) waits) n)))

  more_held : (q : ℕ) → held p st q ≤ held p st' q
  unfolding held
  more_held q = sum_le _ _ (section_count p.table) (λ s l. bit_le (held_on p st q s) (held_on p st' q s) (held_stays q s l))

  same_first : first_pending p st ≡ first_pending p st'
  unfolding first_pending
  same_first = first_ext (comes_before p) (pending p st) (pending p st') (job_count p.table) pending_same

  -- Who was chosen is chosen again, if it has run since then, and nobody else has.
  module _ (o : Option ℕ) (ran : (j : ℕ) → o ≡ Some j → started st' j ≡ true) (others : (i : ℕ) → o ≢ Some i → executed st' i ≡ executed st i) where
    -- where the chosen job was started already, the same jobs are started
    started_again : first_started p st ≡ o → (i : ℕ) → started st i ≡ started st' i
    started_again w i = go o refl
      where
        go : (a : Option ℕ) → o ≡ a → started st i ≡ started st' i
        go None e = started_same st st' i (others i (λ q. let z : ◌≡◌ {A = ℕ} 0 1 = cc in omega arith))
        go (Some j) e =
            elim (ℕ_discrete i j) [
              | yes q ↦
                  (let (l, h, b) = first-started-told p st j (w ∙ e) in
                  rw q (b ∙ sym (ran j e)))
              | no q ↦ started_same st st' i (others i (λ f. q (let g : Some i ≡ Some j = sym f ∙ e in cc)))
            ]

    same_first_started : first_started p st ≡ o → first_started p st' ≡ o
    unfolding first_started
    same_first_started w =
        sym
        (first_ext
        (comes_before p)
        (λ i. pending p st i && started st i)
        (λ i. pending p st' i && started st' i)
        (job_count p.table)
        (λ i l. rw (pending_same i l, started_again w i)))
        ∙ w

    pub choice_again : chosen p st ≡ o → chosen p st' ≡ o
    choice_again c = go (choice_made p st) c
      where
        go : {a : Option ℕ} → Choice p st a → a ≡ o → chosen p st' ≡ o
        go (idles e) q = chosen_idle p st' (sym same_first ∙ e) ∙ q
        go (first_runs {j} e) q = chosen_resumes p st' j (sym same_first ∙ e) (ran j (sym q)) ∙ q
        go (detains {f} e n m w) q =
            chosen_detains p st' f (sym same_first ∙ e) (sym (started_again (w ∙ q) f) ∙ n) (stuck_more p st st' f more_held m)
            ∙ same_first_started (w ∙ q)

-- ---- a job that runs to the next event

module _ (p : Plan) (st : State) (j : ℕ) (l : j < length st.executed) where
  given-own : (k : ℕ) → executed (given st j k) j ≡ executed st j + k
  given-own k = get_or-set_same st.executed j (executed st j + k) 0 l

  given_other : (k i : ℕ) → i ≢ j → executed (given st j k) i ≡ executed st i
  given_other k i n = get_or-set_other st.executed j i (executed st j + k) 0 n

  given-none : given st j 0 ≡ st
  given-none =
      let e : executed st j + 0 ≡ executed st j = omega arith in
      let t : st.tick + 0 ≡ st.tick = omega arith in
      rw (e, t, set-get_or st.executed j 0)

  quiet_no_event : (n k : ℕ) → Quiet p st j n → k < n → NoEvent p st (given st j k)
  quiet_no_event n k Q h =
      record {
        later = omega arith;
        no_release = λ i a b. omega (arith, Q.no_release i a b);
        grows = λ i. elim (ℕ_discrete i j) [ yes q ↦ rw q (omega (arith, given-own k)) | no q ↦ omega (arith, given_other k i q) ];
        no_finish = λ i u.
            elim (ℕ_discrete i j) [
              | yes q ↦ rw q (omega (arith, given-own k, Q.room))
              | no q ↦ omega (arith, given_other k i q)
            ];
        no_end = λ s a u.
            elim (ℕ_discrete (owner p.table s) j) [
              | yes q ↦ rw q (omega (arith, given-own k, Q.no_end s a q (rw q at u)))
              | no q ↦ omega (arith, given_other k (owner p.table s) q)
            ];
      }

  -- The same job is chosen in each of the n ticks.
  pub choice_stays : (n : ℕ) → chosen p st ≡ Some j → Quiet p st j n → (k : ℕ) → k < n → chosen p (given st j k) ≡ Some j
  unfolding started
  choice_stays n c Q zero h = rw given-none c
  choice_stays n c Q (suc k) h =
      choice_again p st (given st j (suc k)) (quiet_no_event n (suc k) Q h) (Some j)
      (λ x e. let q : j ≡ x = cc in rw (← q) (yes_of (lt_says 0 (executed (given st j (suc k)) j)) (λ a. omega (arith, given-own (suc k)))))
      (λ i d. given_other (suc k) i (λ q. d (ap Some (sym q))))
      c

-- ---- idle time to the next release

-- The n ticks are idle, if the first is.
pub idle_stays : (p : Plan) (st : State) (n : ℕ) → chosen p st ≡ None → Unreleased p st n → (k : ℕ) → k < n → chosen p (idled st k) ≡ None
idle_stays p st n c free k h =
    choice_again p st (idled st k)
    (record {
      later = omega arith;
      no_release = λ i a b. omega (arith, free i a b);
      grows = λ i. omega arith;
      no_finish = λ i u. u;
      no_end = λ s a u. u;
    })
    None
    (λ j e. let z : ◌≡◌ {A = ℕ} 0 1 = cc in absurd (omega arith))
    (λ i d. refl)
    c

-- ---- what the ticks write

pub advance-one : (p : Plan) (st : State) (silent : Bool) (j : ℕ) → advance_by p st silent j 1 ≡ advance p st silent j
unfolding advance_by advance ends
advance-one p st silent j = refl

-- a report more
pub onward_snoc : (p : Plan) (st : State) (xs : List Bool) (r : Bool) → onward p st (xs ++ r ∷ []) ≡ tick p (onward p st xs) r
unfolding onward
onward_snoc p st [] r = refl
onward_snoc p st (x ∷ xs) r = onward_snoc p (tick p st x) xs r

-- states that follow each other by ticks
ticks_along : (p : Plan) (f : ℕ → State) (rs : List Bool) → ((k : ℕ) (r : Bool) → k < length rs → tick p (f k) r ≡ f (suc k))
    → onward p (f 0) rs ≡ f (length rs)
unfolding onward
ticks_along p f [] h = refl
ticks_along p f (x ∷ xs) h = rw (h 0 x (omega arith)) (ticks_along p (λ k. f (suc k)) xs (λ k r l. h (suc k) r (omega arith)))

module _ (p : Plan) (st : State) (j : ℕ) (l : j < length st.executed) where
  advance-given : (silent : Bool) (k : ℕ) → advance p (given st j k) silent j ≡ advance_by p st silent j (suc k)
  unfolding advance advance_by ends ends_stale
  advance-given silent k =
      let t : st.tick + k + 1 ≡ st.tick + suc k = omega arith in
      let e : executed st j + k + 1 ≡ executed st j + suc k = omega arith in
      rw (given-own p st j l k, set-set st.executed j (executed st j + k) (executed st j + k + 1), t, e)

  advance_unended : (silent : Bool) (k : ℕ) → executed st j + k ≢ cost p.table j → advance_by p st silent j k ≡ given st j k
  unfolding advance_by
  advance_unended silent k n = rw (ne_eqb (executed st j + k) (cost p.table j) n)

  module _ (n : ℕ) (c : chosen p st ≡ Some j) (Q : Quiet p st j n) where
    tick-given : (silent : Bool) (k : ℕ) → k < n → tick p (given st j k) silent ≡ advance_by p st silent j (suc k)
    tick-given silent k h = sym (tick_runs p (given st j k) silent j (choice_stays p st j l n c Q k h)) ∙ advance-given silent k

    -- Up to the last tick no report counts ..
    pub ticks_given : (rs : List Bool) → length rs < n → onward p st rs ≡ given st j (length rs)
    ticks_given rs h =
        rw (given-none p st j l) at
        (ticks_along p (given st j) rs (λ k r g. tick-given r k (omega arith) ∙ advance_unended r (suc k) (λ q. omega (arith, Q.room))))

    -- .. and with it only its own.
    pub ticks_at_once : (rs : List Bool) (silent : Bool) → length rs < n
        → onward p st (rs ++ silent ∷ []) ≡ advance_by p st silent j (suc (length rs))
    ticks_at_once rs silent h = onward_snoc p st rs silent ∙ rw (ticks_given rs h) (tick-given silent (length rs) h)

    -- before each of them a job is unfinished
    pub given_unended : (rs : List Bool) → length rs < n → all_finished p (onward p st rs) ≡ false
    unfolding all_finished
    given_unended rs h =
        rw (ticks_given rs h)
        (all-not (finished p (given st j (length rs))) (job_count p.table) j (chosen-pending p st j c).0
        (ne_eqb (executed (given st j (length rs)) j) (cost p.table j)
        (λ q. omega (arith, given-own p st j l (length rs), Q.room))))

    -- Every report answered.
    pub answered-at_once : 0 < n → onward p st (replicate n false) ≡ advance_by p st false j n
    answered-at_once h =
        let a : n - 1 + 1 ≡ n = omega arith in
        let b : suc (n - 1) ≡ n = omega arith in
        let r : length (replicate (n - 1) false) ≡ n - 1 = length-replicate (n - 1) false in
        rw (replicate-append-replicate (n - 1) 1 false, r, a, b) at (ticks_at_once (replicate (n - 1) false) false (omega arith))

-- idle ticks write nothing
module _ (p : Plan) (st : State) (n : ℕ) (c : chosen p st ≡ None) (free : Unreleased p st n) where
  pub ticks_idle : (rs : List Bool) → length rs ≤ n → onward p st rs ≡ idled st (length rs)
  ticks_idle rs h =
      let t : st.tick + 0 ≡ st.tick = omega arith in
      rw t at
      (ticks_along p (idled st) rs (λ k r g.
      let e : st.tick + k + 1 ≡ st.tick + suc k = omega arith in
      sym (tick_idle p (idled st k) r (idle_stays p st n c free k (omega arith))) ∙ rw e))

  pub idle_unended : all_finished p st ≡ false → (rs : List Bool) → length rs ≤ n → all_finished p (onward p st rs) ≡ false
  unfolding all_finished
  idle_unended e rs h = rw (ticks_idle rs h) e

-- ---- runs with every report answered

-- A run goes on from what its first n ticks come to, if before each of them a job was unfinished.
pub answered-on : (p : Plan) (m n : ℕ) (st : State) → ((k : ℕ) → k < n → all_finished p (onward p st (replicate k false)) ≡ false)
    → answered p (n + m) st ≡ answered p m (onward p st (replicate n false))
unfolding answered onward
answered-on p m zero st h = let e : 0 + m ≡ m = omega arith in rw e
answered-on p m (suc n) st h =
    let e : suc n + m ≡ suc (n + m) = omega arith in
    rw (e, h 0 (omega arith)) (answered-on p m n (tick p st false) (λ k l. h (suc k) (omega arith)))
