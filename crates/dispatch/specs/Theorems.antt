-- What follows from the promises: each settles its results, a run is single steps, and a step is one tick.
use Rattle.std.specs.Prelude.{◌≡◌, refl, Bool, true, false, cond, List, ℕ, ◌+◌, ◌≤◌, ◌<◌, length, get_or, set, replicate, ℤ, Option, None, Some, Result}
use Rattle.std.proofs.Common.{sym, ◌∙◌, ap, arith, length-set, get_or-set_same, get_or-set_other}
use Rattle.std.proofs.Math.Decide.{ℕ_discrete}
use Rattle.rules.specs.Table.{Plan, State, job_count, cost, last_tick, executed}
use Rattle.rules.specs.Refusals.{plan_in_bounds, all_finished, step_fault}
use Rattle.rules.specs.Tick.{chosen, ends, ends_stale, mark_for, advance, move, tick}
use Rattle.rules.specs.Run.{after_reports, all_end_by, end_state}
use Rattle.rules.specs.declared.Refusal.{Refusal}
use Rattle.laws.specs.Answers.{said_settles}
use Rattle.run_laws.specs.States.{Good, good, answered-is}
use Rattle.run_laws.proofs.Theorems.{end_reached}
use Rattle.laws.specs.Chosen.{chosen_left}
use Rattle.rules.specs.Lists.{state}
use Rattle.dispatch.specs.Judged.{in_bounds, JobStateIn, StateIn, state_in, in_state, step_good}
use Rattle.dispatch.specs.Going.{may_set_long}
use Rattle.dispatch.specs.Promise.{Did, Steps, Lists, Reach, told, Starts, Runs, Lateness}
use Rattle.dispatch.specs.declared.Stepped.{Stepped}

-- ---- settled: two results that a promise allows are one

-- the tick and what the step did are all that `step` answers
step-one : (r r' : Stepped) → r.tick ≡ r'.tick → r.ran ≡ r'.ran → r ≡ r'
step-one r r' t q =
    let left : ◌≡◌ {A = Stepped} (record { tick = r.tick; ran = r.ran }) (record { tick = r'.tick; ran = r.ran }) = rw t in
    let right : ◌≡◌ {A = Stepped} (record { tick = r'.tick; ran = r.ran }) (record { tick = r'.tick; ran = r'.ran }) = rw q in
    left ∙ right

pub step_settled : (p : Plan) (st : State) (silent : Bool) (r r' : Stepped) (e m f e' m' f' : List ℕ)
    → Steps p st silent r (state r.tick e m f) → Steps p st silent r' (state r'.tick e' m' f')
    → (r ≡ r') × (e ≡ e') × (m ≡ m') × (f ≡ f')
step_settled p st silent r r' e m f e' m' f' x y =
    let q = x.is ∙ sym y.is in
    let after : state r.tick e m f ≡ state r'.tick e' m' f' = ap (λ (d : Did). d.after) q in (
      step-one r r' (ap (λ (s : State). s.tick) after) (said_settles r.ran r'.ran (ap (λ (d : Did). d.ran) q)),
      ap (λ (s : State). s.executed) after,
      ap (λ (s : State). s.marks) after,
      ap (λ (s : State). s.finish) after,
    )

told-one : (a b : Result ℕ Refusal) (l m : Lists) → told a l ≡ told b m → (a ≡ b) × (l ≡ m)
told-one a b l m e = (said_settles a b (ap (λ (r : Reach). r.tick) e), ap (λ (r : Reach). r.lent) e)

pub start_settled : (p : Plan) (l : Lists) (r r' : Result ℕ Refusal) (a a' : Lists) → Starts p l r a → Starts p l r' a' → (r ≡ r') × (a ≡ a')
start_settled p l r r' a a' x y = told-one r r' a a' (x.is ∙ sym y.is)

pub run_settled : (p : Plan) (l : Lists) (r r' : Result ℕ Refusal) (a a' : Lists) → Runs p l r a → Runs p l r' a' → (r ≡ r') × (a ≡ a')
run_settled p l r r' a a' x y = told-one r r' a a' (x.is ∙ sym y.is)

pub lateness_settled : (p : Plan) (st : State) (j : ℕ) (r r' : Result (Option ℤ) Refusal) → Lateness p st j r → Lateness p st j r' → r ≡ r'
lateness_settled p st j r r' x y = said_settles r r' (x.is ∙ sym y.is)

-- ---- a run is single ticks, to the end

-- the end state is one that a run reaches, and so its lists have a place for each job
pub end_good : (p : Plan) → plan_in_bounds p ≡ true → (k : ℕ) × Good p k (end_state p)
end_good p b =
    let w = end_reached p b in
    (w.0, rw (w.2, answered-is p w.0) (good p (chosen p) (λ k. false) w.0))

-- The end state of a plan within its bounds is that of as many ticks, every report answered, as its own tick says. Every job has
-- finished in it, and not every job a tick before.
pub run_is_ticks : (p : Plan) → plan_in_bounds p ≡ true
    → ((end_state p).tick ≤ all_end_by p)
    × (end_state p ≡ after_reports p (replicate (end_state p).tick false))
    × (all_finished p (end_state p) ≡ true)
    × ((m : ℕ) → m < (end_state p).tick → all_finished p (after_reports p (replicate m false)) ≡ false)
run_is_ticks p b =
    let w = end_reached p b in
    let t : (end_state p).tick ≡ w.0 = rw (w.2, answered-is p w.0) (good p (chosen p) (λ k. false) w.0).tick_is in (
      omega (arith, w.1),
      w.2 ∙ ap (λ k. after_reports p (replicate k false)) (sym t),
      rw w.2 w.3,
      λ m h. w.4 m (omega arith),
    )

-- ---- a tick

-- The tick rises by exactly one.
pub tick_rises : (p : Plan) (st : State) (silent : Bool) → (tick p st silent).tick ≡ st.tick + 1
unfolding tick advance
tick_rises p st silent = go (chosen p st)
  where
    go : (o : Option ℕ) → (move p st silent o).tick ≡ st.tick + 1
    go None = refl
    go (Some j) = refl

-- Executed ticks rise by one in the job that ran, if one did, and in no other.
pub one_job_runs : (p : Plan) (st : State) (silent : Bool) (k : ℕ)
    → (chosen p st ≡ Some k → k < length st.executed → executed (tick p st silent) k ≡ executed st k + 1)
    × ((chosen p st ≡ Some k → ⊥) → executed (tick p st silent) k ≡ executed st k)
unfolding tick advance
one_job_runs p st silent k = go (chosen p st)
  where
    go : (o : Option ℕ)
        → (o ≡ Some k → k < length st.executed → executed (move p st silent o) k ≡ executed st k + 1)
        × ((o ≡ Some k → ⊥) → executed (move p st silent o) k ≡ executed st k)
    go None = ((λ e l. cc), (λ n. refl))
    go (Some j) = (
      (λ e l. let q : j ≡ k = cc in rw q (get_or-set_same st.executed k (executed st k + 1) 0 l)),
      (λ n. get_or-set_other st.executed j k (executed st j + 1) 0 (λ q. n (ap Some (sym q)))),
    )

set_most : (l : List ℕ) (j v k m : ℕ) → k < length l → v ≤ m → get_or l k 0 ≤ m → get_or (set l j v) k 0 ≤ m
set_most l j v k m h x y =
    elim (ℕ_discrete k j)
    [ yes q ↦ rw q (omega (arith, get_or-set_same l j v 0 (omega arith))) | no q ↦ omega (arith, get_or-set_other l j k v 0 q) ]

may_set_most : (b : Bool) (l : List ℕ) (j v k m : ℕ) → k < length l → v ≤ m → get_or l k 0 ≤ m → get_or (cond b (set l j v) l) k 0 ≤ m
may_set_most true l j v k m h x y = set_most l j v k m h x y
may_set_most false l j v k m h x y = y

-- A good step keeps within 12's bounds.
pub good_step : (p : Plan) (st : State) (silent : Bool) → step_fault p st ≡ None → in_bounds p (tick p st silent) ≡ true
unfolding in_bounds tick advance
good_step p st silent e =
    let (a, b, l) = step_good p st e in
    rw a (in_state p (move p st silent (chosen p st)) (go (chosen p st) refl (state_in p st b) l))
  where
    mark-small : (b : Bool) → mark_for b ≤ 2
    mark-small true = omega arith
    mark-small false = omega arith

    -- who ran had executed less than its cost
    ran_most : (j : ℕ) → chosen p st ≡ Some j → (k : ℕ) → k < length st.executed → executed st k ≤ cost p.table k
        → get_or (set st.executed j (executed st j + 1)) k 0 ≤ cost p.table k
    ran_most j c k h x =
        elim (ℕ_discrete k j) [
          | yes q ↦
              (let w : executed st j < cost p.table j = chosen_left p st j c in
              rw q (omega (arith, get_or-set_same st.executed j (executed st j + 1) 0 (omega arith))))
          | no q ↦ omega (arith, get_or-set_other st.executed j k (executed st j + 1) 0 q)
        ]

    -- what the tick of job j leaves of each job
    after : (j : ℕ) → chosen p st ≡ Some j → (i : StateIn p st) → st.tick < last_tick → (k : ℕ) → k < job_count p.table
        → JobStateIn p (advance p st silent j) k
    after j c i l k h =
        let w = i.job_in k h in
        record {
          executed_in = ran_most j c k (omega (arith, i.executed_long)) w.executed_in;
          mark_in = may_set_most (ends p st j) st.marks j (mark_for (ends_stale p st j silent)) k 2 (omega (arith, i.marks_long)) (mark-small (ends_stale p st j silent)) w.mark_in;
          finish_in = may_set_most (ends p st j) st.finish j (st.tick + 1) k last_tick (omega (arith, i.finish_long)) (omega arith) w.finish_in;
        }

    go : (o : Option ℕ) → chosen p st ≡ o → StateIn p st → st.tick < last_tick → StateIn p (move p st silent o)
    go None c i l =
        record {
          executed_long = i.executed_long;
          marks_long = i.marks_long;
          finish_long = i.finish_long;
          tick_in = omega arith;
          job_in = λ k h. let w = i.job_in k h in record { executed_in = w.executed_in; mark_in = w.mark_in; finish_in = w.finish_in };
        }
    go (Some j) c i l =
        record {
          executed_long = length-set st.executed j (executed st j + 1) ∙ i.executed_long;
          marks_long = may_set_long (ends p st j) st.marks j (mark_for (ends_stale p st j silent)) ∙ i.marks_long;
          finish_long = may_set_long (ends p st j) st.finish j (st.tick + 1) ∙ i.finish_long;
          tick_in = omega arith;
          job_in = after j c i l;
        }
