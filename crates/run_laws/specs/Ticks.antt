-- What any choice of the class does to states, tick by tick, is a run of the theory with its marks.
use Rattle.std.specs.Prelude.{◌≡◌, refl, ◌≢◌, ◌⊎◌, Bool, true, false, cond, ℕ, suc, ◌+◌, ◌<◌, set, replicate, Option, Some}
use Rattle.std.proofs.Math.Path.{ap}
use Rattle.std.proofs.Common.{subst, inl, inr}
use Rattle.std.proofs.Math.Logic.{⊎_elim}
use Rattle.std.proofs.Math.Decide.{dec_lt}
use native.Mathlib.Omega.{arith}
use Rattle.std.proofs.Math.ListN.{get_or, get_or-eq_default}
use Rattle.std.proofs.lemmas.List.{length-replicate, get_or-replicate}
use Rattle.std.proofs.Math.Seq.{get_or-set_same, get_or-set_other}
use Rattle.rules.specs.Table.{Plan, State, job_count, cost, precedes, executed, mark, finish}
use Rattle.rules.specs.Tick.{ends, ends_badly, ends_stale, mark_for, advance, move}
use Rattle.rules.specs.Run.{start}
use Rattle.laws.specs.Tests.{Says, so, not_so, clash, eq_says, bool_says, says_and, says_or}
use Rattle.laws.specs.Rows.{any_says}
use Rattle.laws.specs.Reach.{precedes_inside}
use Rattle.laws.specs.Refusals.{RowsRight}
use Rattle.laws.specs.Accepted.{arcs_inside}
use Rattle.run_laws.specs.Theory.{Jobs, Choice, idles, runs, Frame, stays, moves, Run, idle_not, pending_in}
use Rattle.run_laws.specs.Marks.{Kin, MarkRule, clean, itself, inherits, Writes, nothing, ending, Marks}
use Rattle.run_laws.specs.Plans.{jobs_of}
use Rattle.run_laws.specs.Facts.{Sound, kin_of}
use Rattle.run_laws.specs.States.{Good, state_after, good}

zeros : (n j : ℕ) → ◌≡◌ {A = ℕ} (get_or (replicate n 0) j 0) 0
zeros n j =
    elim (dec_lt j n) [
      | yes l ↦ get_or-replicate n j 0 0 l
      | no l ↦ get_or-eq_default (replicate n 0) 0 (omega (arith, length-replicate {A = ℕ} n 0))
    ]

module _ (p : Plan) (rows : RowsRight p.table) where
  abbrev J : Jobs
  J = jobs_of p rows

  -- executed ticks of one tick
  move_frame : {k : ℕ} {st : State} (silent : Bool) {o : Option ℕ} → Good p k st → Choice J st.tick (executed st) o
      → Frame J (executed st) (executed (move p st silent o)) o
  unfolding advance
  move_frame silent g (idles n) = stays (λ j. refl)
  move_frame {st = st} silent g (runs {x = x} h f) =
      moves {x = x}
      (omega (
        arith,
        get_or-set_same st.executed x (executed st x + 1) 0 (omega (arith, pending_in J h, g.executed_long)),
      ))
      (λ j n. get_or-set_other st.executed x j (executed st x + 1) 0 n)

  -- of many

  module _ (ch : State → Option ℕ) (class : (st : State) → Choice J st.tick (executed st) (ch st)) (report : ℕ → Bool) where
    abbrev at : ℕ → State
    at k = state_after p ch report k

    pub none-executed : (j : ℕ) → executed (at 0) j ≡ 0
    unfolding state_after start
    none-executed j = zeros (job_count p.table) j

    pub step_frame : (k : ℕ) → Frame J (executed (at k)) (executed (at (suc k))) (ch (at k))
    unfolding state_after
    step_frame k = move_frame (report k) (good p ch report k) (class (at k))

    -- its ticks are a run
    abbrev pub run_of : Run J
    run_of =
        record {
          e = λ k. executed (at k);
          pick = λ k. ch (at k);
          starts = none-executed;
          frame = step_frame;
          choice = λ k.
              subst (λ t. Choice J t (executed (at k)) (ch (at k))) (good p ch report k).tick_is (class (at k));
        }

module _ (p : Plan) (S : Sound p) where
  abbrev JS : Jobs
  JS = jobs_of p S.rows

  abbrev K : Kin JS
  K = kin_of p S

  -- ---- one tick

  -- marks and finishes
  ends_says : (st : State) (x : ℕ) → Says (executed st x + 1 ≡ cost p.table x) (executed st x + 1 ≢ cost p.table x) (ends p st x)
  unfolding ends
  ends_says st x = eq_says (executed st x + 1) (cost p.table x)

  -- job x, if it ends now, ends badly
  abbrev pub Badly : State → Bool → ℕ → Type 0
  Badly st silent x = ends_badly p st x silent ≡ true

  mark_rule : (st : State) (silent : Bool) (x given : ℕ) → given ≡ mark_for (ends_stale p st x silent)
      → MarkRule JS K (Badly st silent x) (mark st) x given
  unfolding ends_stale
  mark_rule st silent x given e =
      go
      (says_or
      (bool_says (ends_badly p st x silent))
      (any_says _ _ _ (λ i. says_and (bool_says (precedes p.table i x)) (eq_says (mark st i) 2)) (job_count p.table)))
      e
    where
      go : {b : Bool}
          → Says
          (Badly st silent x ⊎ ((i : ℕ) × (i < job_count p.table) × ((precedes p.table i x ≡ true) × (mark st i ≡ 2))))
          ((ends_badly p st x silent ≡ false)
          × ((i : ℕ) → i < job_count p.table → (precedes p.table i x ≡ false) ⊎ (mark st i ≢ 2)))
          b
          → given ≡ mark_for b → MarkRule JS K (Badly st silent x) (mark st) x given
      go (so (inl b)) v = itself v b
      go (so (inr w)) v = inherits v w.0 w.2.0 w.2.1
      go (not_so w) v =
          clean v (λ b. clash b w.0) (λ i a.
          ⊎_elim (λ n. clash a n) (λ n. n) (w.1 i (precedes_inside p.table (arcs_inside p.table S.rows) i x a).0))

  move_writes : {k : ℕ} {st : State} (silent : Bool) {o : Option ℕ} → Good p k st → Choice JS st.tick (executed st) o
      → Writes JS K (Badly st silent) k (executed st) (mark st) (mark (move p st silent o)) (finish st) (finish (move p st silent o)) o
  unfolding advance
  move_writes silent g (idles n) = nothing (λ x q. idle_not q) (λ j. refl) (λ j. refl)
  move_writes {k} {st} silent g (runs {x = x} h f) = go (ends_says st x)
    where
      go : {b : Bool} → Says (executed st x + 1 ≡ cost p.table x) (executed st x + 1 ≢ cost p.table x) b
          → Writes JS K (Badly st silent) k (executed st)
          (mark st) (λ j. get_or (cond b (set st.marks x (mark_for (ends_stale p st x silent))) st.marks) j 0)
          (finish st) (λ j. get_or (cond b (set st.finish x (st.tick + 1)) st.finish) j 0)
          (Some x)
      go (so e) =
          let l = pending_in JS h in
          ending {x = x}
          (omega arith)
          (mark_rule st silent x _ (get_or-set_same st.marks x (mark_for (ends_stale p st x silent)) 0 (omega (arith, g.marks_long))))
          (λ j n. get_or-set_other st.marks x j (mark_for (ends_stale p st x silent)) 0 n)
          (omega (arith, get_or-set_same st.finish x (st.tick + 1) 0 (omega (arith, g.finish_long)), g.tick_is))
          (λ j n. get_or-set_other st.finish x j (st.tick + 1) 0 n)
      go (not_so n) =
          nothing
          (λ y (q : Some x ≡ Some y) e. n (let w : x ≡ y = cc in omega (arith, ap (executed st) w, ap (cost p.table) w)))
          (λ j. refl)
          (λ j. refl)

  -- ---- many ticks

  module _ (ch : State → Option ℕ) (class : (st : State) → Choice JS st.tick (executed st) (ch st)) (report : ℕ → Bool) where
    abbrev on : ℕ → State
    on k = state_after p ch report k

    -- a job that tick k ends, ends badly
    abbrev pub BadlyAt : ℕ → ℕ → Type 0
    BadlyAt k x = Badly (on k) (report k) x

    pub none_marked : (j : ℕ) → mark (on 0) j ≡ 0
    unfolding state_after start
    none_marked j = zeros (job_count p.table) j

    pub none_ended : (j : ℕ) → finish (on 0) j ≡ 0
    unfolding state_after start
    none_ended j = zeros (job_count p.table) j

    pub step_writes : (k : ℕ)
        → Writes JS K (BadlyAt k) k (executed (on k))
        (mark (on k)) (mark (on (suc k)))
        (finish (on k)) (finish (on (suc k)))
        (ch (on k))
    unfolding state_after
    step_writes k = move_writes (report k) (good p ch report k) (class (on k))

    -- with its marks
    abbrev pub marks_of : Marks JS K (run_of p S.rows ch class report) BadlyAt
    marks_of =
        record {
          mark = λ k. mark (on k);
          finish = λ k. finish (on k);
          unmarked_at_0 = none_marked;
          unended_at_0 = none_ended;
          writes = step_writes;
        }
