-- States tick by tick under any choice, and after a list of reports under the rules' own.
use Rattle.std.specs.Prelude.{◌≡◌, Bool, true, length, get_or, set, take, replicate, Option, None, Some}
use Rattle.std.proofs.Math.Path.{refl, ap}
use Rattle.std.proofs.Common.{◌∙◌, take-suc}
use Rattle.std.proofs.Math.Bool.{false, cond}
use mathlib.Core.List.{List, [], ◌∷◌, ◌++◌}
use Prim.Native.Nat.{ℕ, zero, suc, ◌+◌, ◌≤◌, ◌<◌}
use native.Mathlib.Omega.{arith}
use Rattle.std.proofs.Math.ListN.{length-set, length-replicate}
use Rattle.std.proofs.lemmas.List.{get_or-replicate}
use Rattle.std.proofs.Math.Seq.{take-length}
use Rattle.rules.specs.Rows.{count}
use Rattle.rules.specs.Table.{Plan, State, job_count, executed}
use Rattle.rules.specs.Tick.{chosen, ends, ends_stale, mark_for, advance, move, tick}
use Rattle.rules.specs.Run.{start, onward, after_reports, waits, waited}
use Rattle.laws.proofs.Events.{onward_snoc}

-- the report at each place of a list; answered past its end
abbrev pub report_in : List Bool → ℕ → Bool
report_in rs k = get_or rs k false

module _ (p : Plan) where
  -- a state of a run after k ticks
  pub record Good (k : ℕ) (st : State) : Type 0 where
    pub tick_is : st.tick ≡ k
    pub executed_long : length st.executed ≡ job_count p.table
    pub marks_long : length st.marks ≡ job_count p.table
    pub finish_long : length st.finish ≡ job_count p.table

  branch_length : (b : Bool) (l : List ℕ) (x v : ℕ) → length {A = ℕ} (cond b (set l x v) l) ≡ length l
  branch_length true l x v = length-set l x v
  branch_length false l x v = refl

  move_good : {k : ℕ} {st : State} (silent : Bool) (o : Option ℕ) → Good k st → Good (suc k) (move p st silent o)
  unfolding advance
  move_good silent None g =
      record {
        tick_is = omega (arith, g.tick_is);
        executed_long = g.executed_long;
        marks_long = g.marks_long;
        finish_long = g.finish_long;
      }
  move_good {k} {st} silent (Some x) g =
      record {
        tick_is = omega (arith, g.tick_is);
        executed_long = length-set st.executed x (executed st x + 1) ∙ g.executed_long;
        marks_long = branch_length (ends p st x) st.marks x (mark_for (ends_stale p st x silent)) ∙ g.marks_long;
        finish_long = branch_length (ends p st x) st.finish x (st.tick + 1) ∙ g.finish_long;
      }

  -- ---- many ticks

  module _ (ch : State → Option ℕ) where
    -- the state after k ticks, with a report for each
    unfoldable pub state_after : (ℕ → Bool) → ℕ → State
    state_after report zero = start p
    state_after report (suc k) = move p (state_after report k) (report k) (ch (state_after report k))

    start_good : Good 0 (start p)
    unfolding start
    start_good =
        let e = length-replicate {A = ℕ} (job_count p.table) 0 in
        record { tick_is = refl; executed_long = e; marks_long = e; finish_long = e }

    pub good : (report : ℕ → Bool) (k : ℕ) → Good k (state_after report k)
    unfolding state_after
    good report zero = start_good
    good report (suc k) = move_good (report k) (ch (state_after report k)) (good report k)

    -- only the reports of those ticks count
    pub same_reports : (f g : ℕ → Bool) (k : ℕ) → ((i : ℕ) → i < k → f i ≡ g i) → state_after f k ≡ state_after g k
    unfolding state_after
    same_reports f g zero h = refl
    same_reports f g (suc k) h =
        rw (same_reports f g k (λ i l. h i (omega arith)), h k (omega arith))

  -- ---- lists of reports

  -- The state after the first k reports of a list is the one after k ticks.
  pub front_is : (rs : List Bool) (k : ℕ) → k ≤ length rs → after_reports p (take k rs) ≡ state_after (chosen p) (report_in rs) k
  unfolding after_reports state_after tick onward
  front_is rs zero l = refl
  front_is rs (suc k) l =
      rw (take-suc rs k false l)
      (onward_snoc p (start p) (take k rs) (get_or rs k false) ∙ ap (λ st. tick p st (get_or rs k false)) (front_is rs k (omega arith)))

  pub whole_is : (rs : List Bool) → after_reports p rs ≡ state_after (chosen p) (report_in rs) (length rs)
  whole_is rs = rw (take-length rs) at (front_is rs (length rs) (omega arith))

  -- what a job waited in those ticks, as a count of places
  waited_snoc : (st : State) (xs : List Bool) (r : Bool) (j : ℕ)
      → waited p st (xs ++ r ∷ []) j ≡ waited p st xs j + cond (waits p (onward p st xs) j) 1 0
  unfolding waited onward
  waited_snoc st [] r j = omega arith
  waited_snoc st (x ∷ xs) r j = omega (arith, waited_snoc (tick p st x) xs r j)

  waited_front : (rs : List Bool) (j k : ℕ) → k ≤ length rs
      → waited p (start p) (take k rs) j ≡ count (λ n. waits p (state_after (chosen p) (report_in rs) n) j) k
  unfolding waited count after_reports
  waited_front rs j zero l = refl
  waited_front rs j (suc k) l =
      let e : cond {A = ℕ} (waits p (onward p (start p) (take k rs)) j) 1 0 ≡ cond (waits p (state_after (chosen p) (report_in rs) k) j) 1 0
      = ap (λ st. cond (waits p st j) 1 0) (front_is rs k (omega arith)) in
      rw (take-suc rs k false l)
      (waited_snoc (start p) (take k rs) (get_or rs k false) j ∙ omega (arith, waited_front rs j k (omega arith)))

  pub waited-is : (rs : List Bool) (j : ℕ)
      → waited p (start p) rs j ≡ count (λ n. waits p (state_after (chosen p) (report_in rs) n) j) (length rs)
  waited-is rs j = rw (take-length rs) at (waited_front rs j (length rs) (omega arith))

  -- The state after n answered reports.
  pub answered-is : (n : ℕ) → after_reports p (replicate n false) ≡ state_after (chosen p) (λ k. false) n
  answered-is n =
      let e : length (replicate n false) ≡ n = length-replicate n false in
      whole_is (replicate n false)
      ∙ (rw e (same_reports (chosen p) (report_in (replicate n false)) (λ k. false) n (λ i l. get_or-replicate n i false false l)))
