-- Demand 3 proved: each statement of Statement, from the theory of runs.
use Rattle.std.specs.Prelude.{◌≡◌, ◌⊎◌, Bool, ◌&&◌, List, [], ◌∷◌, length, drop}
use Rattle.std.proofs.Math.Path.{refl, ap}
use Rattle.std.proofs.Common.{sym, ◌∙◌, subst, inl, inr, drop-cons, Option, None, Some}
use Rattle.std.proofs.Math.Bool.{true, false, cond}
use Prim.Native.Nat.{ℕ, zero, suc, ◌+◌, ◌-◌, ◌≤◌, ◌<◌}
use native.Mathlib.Omega.{arith}
use Rattle.std.proofs.Math.Dec.{ltb, leb}
use Rattle.std.proofs.Math.Seq.{drop-length}
use Rattle.rules.specs.Rows.{any}
use Rattle.rules.specs.Table.{
  Plan,
  State,
  last_tick,
  job_count,
  cost,
  section_count,
  owner,
  resource,
  from,
  to,
  ticks_of,
  modified_release,
  executed,
}
use Rattle.rules.specs.Refusals.{Outcome, refused, gives, and_then, unless, fault, all_finished}
use Rattle.rules.specs.Order.{comes_before}
use Rattle.rules.specs.Tick.{pending, holds, covers, chosen, ends, ends_badly, tick}
use Rattle.rules.specs.Run.{start, after_reports, answered, all_end_by, end_state, goes_later, waits, waited, longest_later}
use Rattle.laws.specs.Tests.{Says, so, not_so, clash, tested, lt_says, le_says, eq_says, says_and, yes_says, yes_of}
use Rattle.laws.specs.Rows.{below_suc, count_ext, largest-at, any_none, any-from, any_ext}
use Rattle.laws.specs.Keys.{key-before, before-is}
use Rattle.run_laws.specs.Theory.{Jobs, Pending, Choice, Run, chosen-pending, pending_in}
use Rattle.run_laws.specs.Marks.{Kin, EndedBadly}
use Rattle.laws.specs.Refusals.{RowsRight, bounds_rows}
use Rattle.run_laws.specs.Sections.{Sections, Ceilings, ByRules, in_class, listed, pend, pend_says}
use Rattle.run_laws.specs.Sections as Sections
use Rattle.run_laws.specs.Waiting.{goes_after, waits_at, waited_to, Waited, never, by, waited_says}
use Rattle.run_laws.specs.Plans.{jobs_of, sections_of, ceilings_of, chosen_by_rules}
use Rattle.run_laws.specs.Facts.{Sound, check_sound, check-table, kin_of, sections_nest}
use Rattle.run_laws.specs.States.{state_after, good, report_in, front_is, whole_is, waited-is, answered-is}
use Rattle.run_laws.specs.Ticks.{run_of, BadlyAt}
use Rattle.run_laws.specs.AnyChoice.{
  ancestors-at,
  idle_at,
  all_ended_at,
  all-finished_by,
  some_left,
  finish-at,
  marks_at,
  quasi_at,
  step-at,
  unended_early,
}
use Rattle.run_laws.specs.Statement.{
  state_at,
  Inside,
  while_held,
  in_its_tick,
  EndedSilent,
  WaitsOnlyFor,
  WaitedFor,
  nothing,
  a_section,
  AncestorsFirst,
  OneInside,
  MarksRight,
  NeverIdle,
  AllEnd,
  QuasiNormal,
  EndReached,
  steps,
  WaitsBounded,
  WaitsForSection,
  StepsAreTicks,
}

-- rules 1 to 4 are a choice of the class
by_rules : (p : Plan) (rows : RowsRight p.table) (st : State) → Choice (jobs_of p rows) st.tick (executed st) (chosen p st)
by_rules p rows st = in_class (jobs_of p rows) (sections_of p rows) (ceilings_of p rows) (chosen_by_rules p rows st)

-- ---- the run of a sound plan, by the rules

module _ (p : Plan) (S : Sound p) where
  abbrev J : Jobs
  J = jobs_of p S.rows

  abbrev Z : Sections
  Z = sections_of p S.rows

  abbrev C : Ceilings J Z
  C = ceilings_of p S.rows

  abbrev K : Kin J
  K = kin_of p S

  class : (st : State) → Choice J st.tick (executed st) (chosen p st)
  class st = by_rules p S.rows st

  module _ (reports : List Bool) where
    -- after k ticks of the run
    abbrev at : ℕ → State
    at k = state_after p (chosen p) (report_in reports) k

    abbrev R : Run J
    R = run_of p S.rows (chosen p) class (report_in reports)

    abbrev BadAt : ℕ → ℕ → Type 0
    BadAt = BadlyAt p S (chosen p) class (report_in reports)

    rules : (k : ℕ) → ByRules J Z C k (executed (at k)) (chosen p (at k))
    rules k =
        subst
        (λ t. ByRules J Z C t (executed (at k)) (chosen p (at k)))
        (good p (chosen p) (report_in reports) k).tick_is
        (chosen_by_rules p S.rows (at k))

    -- (b)
    inside_at : (k s : ℕ) → Inside p (at k) s → Sections.Inside J Z C R rules k s
    unfolding holds covers
    inside_at k s (while_held h) =
        let w : (from p.table s < executed (at k) (owner p.table s)) × (executed (at k) (owner p.table s) < to p.table s)
        = yes_says (says_and (lt_says _ _) (lt_says _ _)) h in
        Sections.holding (record { entered = w.0; leaves = w.1 })
    inside_at k s (in_its_tick c h) =
        let w : (from p.table s ≤ executed (at k) (owner p.table s)) × (executed (at k) (owner p.table s) < to p.table s)
        = yes_says (says_and (le_says _ _) (lt_says _ _)) h in
        Sections.covered c w.0 w.1

    one_at : (k s τ : ℕ) → resource p.table s ≡ resource p.table τ → Inside p (at k) s → Inside p (at k) τ
        → owner p.table s ≡ owner p.table τ
    one_at k s τ r a b = Sections.one_inside J Z C R rules k s τ r (omega arith) (inside_at k s a) (inside_at k τ b)

    -- (c)
    silent_of : (i : ℕ) → EndedBadly J K R BadAt (length reports) i → EndedSilent p reports i
    unfolding ends ends_badly
    silent_of i b =
        let q = front_is p reports b.at (omega (arith, b.before)) in
        record {
          place = b.at;
          reported = b.before;
          its_tick = rw q b.ended.chosen;
          its_last = rw q (yes_of (eq_says (executed (at b.at) i + 1) (cost p.table i)) (λ n. n (omega (arith, b.ended.full))));
          silent = b.badly;
        }

    badly_of : (i : ℕ) → EndedSilent p reports i → EndedBadly J K R BadAt (length reports) i
    unfolding ends ends_badly
    badly_of i s =
        let q = front_is p reports s.place (omega (arith, s.reported)) in
        let last : executed (at s.place) i + 1 ≡ cost p.table i = yes_says (eq_says _ _) (rw q at s.its_last) in
        record {
          at = s.place;
          before = s.reported;
          ended = record { chosen = rw q at s.its_tick; full = omega arith };
          badly = s.silent;
        }

    -- (d)
    goes-is : (k j : ℕ) → j < job_count p.table → (o : Option ℕ) → chosen p (at k) ≡ o → goes_later p j o ≡ goes_after J Z C R rules j o
    goes-is k j l None c = refl
    goes-is k j l (Some x) c = before-is p j x l (pending_in J (chosen-pending J R {k = k} c))

    pending-is : (j k : ℕ) → pending p (at k) j ≡ pend J k (executed (at k)) j
    unfolding pending
    pending-is j k =
        ap
        (λ t. leb (modified_release p j) t && ltb (executed (at k) j) (cost p.table j))
        (good p (chosen p) (report_in reports) k).tick_is

    waits-is : (j k : ℕ) → waits p (at k) j ≡ waits_at J Z C R rules j k
    unfolding waits
    waits-is j k = ap (λ b. b && goes_later p j (chosen p (at k))) (pending-is j k) ∙ go (pend_says J k (executed (at k)) j)
      where
        go : {b : Bool} → Says (Pending J k (executed (at k)) j) (Pending J k (executed (at k)) j → ⊥) b
            → (b && goes_later p j (chosen p (at k))) ≡ (b && goes_after J Z C R rules j (chosen p (at k)))
        go (so h) = goes-is k j (pending_in J h) (chosen p (at k)) refl
        go (not_so n) = refl

    waited-at : (j : ℕ) → waited p (start p) reports j ≡ waited_to J Z C R rules j (length reports)
    waited-at j =
        waited-is p reports j ∙ count_ext (λ k. waits p (at k) j) (waits_at J Z C R rules j) (length reports) (λ k l. waits-is j k)

    only_for : (j who : ℕ)
        → ((k : ℕ) → k < length reports → waits_at J Z C R rules j k ≡ true → chosen p (at k) ≡ Some who)
        → WaitsOnlyFor p reports j who
    only_for j who h k l w =
        let q = front_is p reports k (omega arith) in
        rw q (h k l (sym (waits-is j k) ∙ (rw q at w)))

    waited_for : (j : ℕ) → WaitedFor p reports j
    waited_for j = go (waited_says J Z C R rules (sections_nest p S) j (length reports))
      where
        go : Waited J Z C R rules (sections_nest p S) j (length reports) → WaitedFor p reports j
        go (never z q) = nothing (waited-at j ∙ z)
        go (by s l b n t) =
            let h = listed Z n in
            a_section s h
            (key-before p j (owner p.table s) l (S.rows.section_in s h).owner_in b)
            (only_for j (owner p.table s) t)
            (omega (arith, waited-at j))

    -- the owner's section is one of a later job's
    bounded : (j : ℕ) → WaitedFor p reports j → waited p (start p) reports j ≤ longest_later p j - 1
    unfolding longest_later
    bounded j (nothing z) = omega arith
    bounded j (a_section s l b t n) =
        omega (
          arith,
          largest-at (λ k. comes_before p j (owner p.table k)) (ticks_of p.table) 0 (section_count p.table) s l b,
        )

    one_who : (j : ℕ) → (who : ℕ) × WaitsOnlyFor p reports j who
    one_who j = go (waited_says J Z C R rules (sections_nest p S) j (length reports))
      where
        go : Waited J Z C R rules (sections_nest p S) j (length reports) → (who : ℕ) × WaitsOnlyFor p reports j who
        go (never z q) = (0, only_for j 0 (λ k l w. clash w (q k l)))
        go (by s l b n t) = (owner p.table s, only_for j (owner p.table s) t)

    -- ---- steps

    -- a step at tick n is refused with 13 or is that tick
    next_is : (n : ℕ) → n < last_tick → (rest : List Bool)
        → steps p (at n) (report_in reports n ∷ rest)
        ≡ cond (all_finished p (at n)) (refused (fault 13 0)) (steps p (at (suc n)) rest)
    unfolding tick state_after
    next_is n l rest =
        ap
        (λ f. and_then (unless f (tick p (at n) (report_in reports n))) (λ next. steps p next rest))
        (step-at p S (chosen p) class (report_in reports) n l)
        ∙ go (all_finished p (at n))
      where
        go : (b : Bool)
            → and_then (unless (cond b (Some (fault 13 0)) None) (tick p (at n) (report_in reports n))) (λ next. steps p next rest)
            ≡ cond b (refused (fault 13 0)) (steps p (tick p (at n) (report_in reports n)) rest)
        go true = refl
        go false = refl

    -- steps on from the state after n ticks, with m reports left
    steps-from : (m n : ℕ) → n + m ≡ length reports → ((i : ℕ) → i < n → all_finished p (at i) ≡ false)
        → steps p (at n) (drop n reports)
        ≡ cond (any (λ i. all_finished p (at i)) (length reports)) (refused (fault 13 0)) (gives (at (length reports)))
    steps-from zero n e h =
        let q : n ≡ length reports = omega arith in
        rw (← q)
        (rw (any_none (λ i. all_finished p (at i)) n h) (rw (let d : drop n reports ≡ [] = rw q (drop-length reports) in d) refl))
    steps-from (suc m) n e h =
        rw (drop-cons reports n false (omega arith))
        (next_is n (unended_early p S (chosen p) class (report_in reports) n h) (drop (suc n) reports)
        ∙ go (tested (all_finished p (at n))) (steps-from m (suc n) (omega arith)))
      where
        whole : Outcome State
        whole = cond (any (λ i. all_finished p (at i)) (length reports)) (refused (fault 13 0)) (gives (at (length reports)))

        go : (all_finished p (at n) ≡ true) ⊎ (all_finished p (at n) ≡ false)
            → (((i : ℕ) → i < suc n → all_finished p (at i) ≡ false) → steps p (at (suc n)) (drop (suc n) reports) ≡ whole)
            → cond (all_finished p (at n)) (refused (fault 13 0)) (steps p (at (suc n)) (drop (suc n) reports)) ≡ whole
        go (inl f) ih = rw (f, any-from (λ i. all_finished p (at i)) (length reports) n (omega arith) f)
        go (inr f) ih = rw f (ih (below_suc (λ i. all_finished p (at i) ≡ false) n h f))

    steps_are : steps p (start p) reports
        ≡ cond (any (λ n. all_finished p (state_at p reports n)) (length reports)) (refused (fault 13 0)) (gives (after_reports p reports))
    unfolding state_after
    steps_are =
        rw (
          whole_is p reports,
          any_ext
              (λ n. all_finished p (state_at p reports n)) (λ n. all_finished p (at n)) (length reports)
              (λ n l. ap (all_finished p) (front_is p reports n (omega arith))),
        )
        (steps-from (length reports) 0 (omega arith) (λ i l. absurd (omega arith)))

-- ---- the end, every report answered: any plan with right rows

module _ (p : Plan) (rows : RowsRight p.table) where
  abbrev quiet : ℕ → State
  quiet k = state_after p (chosen p) (λ i. false) k

  -- where m more ticks end at the last one, after k ticks with a job unfinished before each
  end_from : (m k : ℕ) → k + m ≡ all_end_by p → ((i : ℕ) → i < k → all_finished p (quiet i) ≡ false)
      → (n : ℕ) × (n ≤ all_end_by p) × (answered p m (quiet k) ≡ quiet n)
      × (all_finished p (quiet n) ≡ true) × ((i : ℕ) → i < n → all_finished p (quiet i) ≡ false)
  unfolding answered tick state_after
  end_from zero k e h = (k, omega arith, refl, all-finished_by p rows (chosen p) (by_rules p rows) (λ i. false) k (omega arith), h)
  end_from (suc m) k e h = go (tested (all_finished p (quiet k))) (end_from m (suc k) (omega arith))
    where
      End : State → Type 0
      End st =
          (n : ℕ) × (n ≤ all_end_by p) × (st ≡ quiet n)
          × (all_finished p (quiet n) ≡ true) × ((i : ℕ) → i < n → all_finished p (quiet i) ≡ false)

      go : (all_finished p (quiet k) ≡ true) ⊎ (all_finished p (quiet k) ≡ false)
          → (((i : ℕ) → i < suc k → all_finished p (quiet i) ≡ false) → End (answered p m (quiet (suc k))))
          → End (cond (all_finished p (quiet k)) (quiet k) (answered p m (quiet (suc k))))
      go (inl f) ih = (k, omega arith, (rw f), f, h)
      go (inr f) ih = rw f (ih (below_suc (λ i. all_finished p (quiet i) ≡ false) k h f))

-- ---- the theorems

-- (a)
pub ancestors-first : AncestorsFirst
ancestors-first t p c reports i j h a =
    let S = check_sound t p c in
    rw (whole_is p reports)
    (ancestors-at p S (chosen p) (class p S) (report_in reports) (length reports) i j
    (rw (whole_is p reports) at h) (rw (← check-table t p c) at a))

-- (b)
pub one_inside : OneInside
one_inside t p c reports s k r a b =
    let S = check_sound t p c in
    let q = whole_is p reports in
    rw (← check-table t p c) (one_at p S reports (length reports) s k (rw (← check-table t p c) at r) (rw q at a) (rw q at b))

-- (c)
pub marks_right : MarksRight
marks_right t p c reports j l f =
    let S = check_sound t p c in
    let q = whole_is p reports in
    let (given, exactly) =
    marks_at p S (chosen p) (class p S) (report_in reports) (length reports) j (rw (← check-table t p c) at l) (rw q at f) in
    rw (← check-table t p c, q) (
      given,
      (
        (λ e. let (i, a, b) = exactly.0 e in (i, a, silent_of p S reports i b)),
        (λ w. exactly.1 (w.0, w.1, badly_of p S reports w.0 w.2)),
      ),
    )

-- (d), the sharper form first
pub waits_for_section : WaitsForSection
waits_for_section t p c reports j = waited_for p (check_sound t p c) reports j

pub waits_bounded : WaitsBounded
waits_bounded t p c reports j =
    let S = check_sound t p c in
    (one_who p S reports j, bounded p S reports j (waits_for_section t p c reports j))

-- (e)
pub never_idle : NeverIdle
never_idle t p c reports =
    let S = check_sound t p c in
    rw (whole_is p reports) (idle_at p S.rows (chosen p) (class p S) (report_in reports) (length reports))

-- (f)
pub all_end : AllEnd
all_end t p c reports =
    let S = check_sound t p c in
    let n = length reports in
    let g = good p (chosen p) (report_in reports) n in
    rw (whole_is p reports) (
      all_ended_at p S.rows (chosen p) (class p S) (report_in reports) n,
      finish-at p S (chosen p) (class p S) (report_in reports) n,
      λ e. omega (arith, some_left p S.rows (chosen p) (class p S) (report_in reports) n e, g.tick_is),
    )

-- the entry's steps
pub steps_are_ticks : StepsAreTicks
steps_are_ticks t p c reports =
    let S = check_sound t p c in
    (λ l. rw (whole_is p reports) (step-at p S (chosen p) (class p S) (report_in reports) (length reports) l), steps_are p S reports)

-- 003, definition 3.3
pub quasi_normal : QuasiNormal
quasi_normal t p c reports m n i j l e a b r =
    quasi_at p (check_sound t p c) (chosen p) (class p (check_sound t p c)) (report_in reports) m n i j l
    (rw (front_is p reports m (omega arith)) at a) (rw (front_is p reports n e) at b) r

-- the end state
pub end_reached : EndReached
unfolding end_state state_after
end_reached p b =
    let (n, l, e, f, h) = end_from p (bounds_rows p b).0 (all_end_by p) 0 (omega arith) (λ i g. absurd (omega arith)) in (
      n,
      l,
      e ∙ sym (answered-is p n),
      rw (answered-is p n) f,
      λ m g. rw (answered-is p m) (h m g),
    )
