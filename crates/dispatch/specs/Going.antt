-- A run and what is left of it.
use Rattle.std.specs.Prelude.{◌≡◌, ◌≢◌, refl, Bool, true, false, cond, List, [], ◌∷◌, length, set, replicate, Option, None, Some}
use Rattle.std.proofs.Common.{sym, ◌∙◌, ap, length-set}
use Prim.Native.Nat.{ℕ, suc, ◌+◌, ◌-◌, ◌≤◌, ◌<◌}
use native.Mathlib.Omega.{arith}
use Rattle.rules.specs.Table.{Plan, State, executed}
use Rattle.rules.specs.Tick.{chosen, ends, ends_stale, mark_for, advance, move, tick}
use Rattle.rules.specs.Refusals.{all_finished}
use Rattle.rules.specs.Run.{onward, answered}
use Rattle.laws.proofs.Events.{answered-on}
use Rattle.ticks.specs.Fits.{Fit}
use Rattle.events.specs.Events.{Next, over, later}

-- ---- ticks keep the lists' lengths

-- lists of the same lengths
pub record SameLengths (st st' : State) : Type 0 where
  pub executed : length st'.executed ≡ length st.executed
  pub marks : length st'.marks ≡ length st.marks
  pub finish : length st'.finish ≡ length st.finish

pub may_set_long : (b : Bool) (l : List ℕ) (j v : ℕ) → length (cond b (set l j v) l) ≡ length l
may_set_long true l j v = length-set l j v
may_set_long false l j v = refl

tick_same : (p : Plan) (st : State) (silent : Bool) → SameLengths st (tick p st silent)
unfolding tick advance
tick_same p st silent = go (chosen p st)
  where
    go : (o : Option ℕ) → SameLengths st (move p st silent o)
    go None = record { executed = refl; marks = refl; finish = refl }
    go (Some j) =
        record {
          executed = length-set st.executed j (executed st j + 1);
          marks = may_set_long (ends p st j) st.marks j (mark_for (ends_stale p st j silent));
          finish = may_set_long (ends p st j) st.finish j (st.tick + 1);
        }

onward_same : (p : Plan) (st : State) (rs : List Bool) → SameLengths st (onward p st rs)
unfolding onward
onward_same p st [] = record { executed = refl; marks = refl; finish = refl }
onward_same p st (r ∷ rs) =
    let a = tick_same p st r in
    let b = onward_same p (tick p st r) rs in
    record { executed = b.executed ∙ a.executed; marks = b.marks ∙ a.marks; finish = b.finish ∙ a.finish }

next_same : {p : Plan} {st : State} {end : ℕ} {st' : State} → Next p st end st' → SameLengths st st'
next_same (over f e) = rw e (record { executed = refl; marks = refl; finish = refl })
next_same {p} {st} (later s) = rw s.becomes (onward_same p st (replicate s.ticks false))

-- lists of the same lengths fit as well
pub fit_same : {p : Plan} {st st' : State} → Fit p st → SameLengths st st' → Fit p st'
fit_same f s =
    record {
      lists =
          record {
            by_job = s.executed ∙ f.lists.by_job;
            marked = record { by_job = s.marks ∙ f.lists.marked.by_job };
            finished = s.finish ∙ f.lists.finished;
          };
      few_jobs = f.few_jobs;
      paired = f.paired;
      arcs_fit = f.arcs_fit;
      sections_fit = f.sections_fit;
    }

-- what comes next fits too
pub next_fits : {p : Plan} {st : State} {end : ℕ} {st' : State} → Fit p st → Next p st end st' → Fit p st'
next_fits f n = fit_same f (next_same n)

-- ---- what is left

-- what is left of a run to the tick `end` comes to what the whole run comes to, r
pub record Going (p : Plan) (st : State) (end : ℕ) (r : State) : Type 0 where
  pub soon : st.tick ≤ end
  pub left : answered p (end - st.tick) st ≡ r

pub run_begins : (p : Plan) (st : State) (end : ℕ) → st.tick ≡ 0 → Going p st end (answered p end st)
run_begins p st end e = let z : end - st.tick ≡ end = omega arith in record { soon = omega arith; left = rw z refl }

module _ {p : Plan} {st : State} {end : ℕ} {r : State} (g : Going p st end r) where
  pub run_over : end ≤ st.tick → st ≡ r
  unfolding answered
  run_over l = let z : end - st.tick ≡ 0 = omega arith in rw z at g.left

  run_stops : st.tick < end → all_finished p st ≡ true → st ≡ r
  unfolding answered
  run_stops l e =
      let z : end - st.tick ≡ suc (end - suc st.tick) = omega arith in
      rw (z, e) at g.left

  -- no tick was taken, so the run is over
  pub next_ends : st.tick < end → (st' : State) → Next p st end st' → st'.tick ≡ st.tick → st' ≡ r
  next_ends l st' (over f e) t = e ∙ run_stops l f
  next_ends l st' (later s) t = absurd (omega (arith, s.rises, s.time))

  -- ticks were taken, and the run goes on after them
  pub next_goes : (st' : State) → Next p st end st' → st'.tick ≢ st.tick → (st.tick < st'.tick) × Going p st' end r
  next_goes st' (over f e) t = absurd (t (ap (λ (x : State). x.tick) e))
  next_goes st' (later s) t =
      let z : end - st.tick ≡ s.ticks + (end - st'.tick) = omega (arith, s.soon, s.time) in (
        omega (arith, s.rises, s.time),
        record {
          soon = omega (arith, s.soon, s.time);
          left =
              ap (answered p (end - st'.tick)) s.becomes
              ∙ sym (answered-on p (end - st'.tick) s.ticks st s.unended)
              ∙ (rw z at g.left);
        },
      )
