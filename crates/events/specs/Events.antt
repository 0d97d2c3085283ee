-- Laws for a run from event to event: the next release and the next stop keep the ticks up to them free of events, and what
-- those ticks come to.
use Rattle.std.specs.Prelude.{◌≡◌, ◌≢◌, ◌⊎◌, Bool, true, false, ◌&&◌, ℕ, suc, ◌+◌, ◌-◌, ◌≤◌, ◌<◌, min, length, replicate, eqb, None, Some}
use Rattle.std.proofs.Math.Path.{sym, ap}
use Rattle.std.proofs.Common.{◌∙◌, ⊎_elim, lt-ltb}
use native.Mathlib.Omega.{arith}
use Rattle.std.proofs.Math.ListN.{length-replicate}
use Rattle.std.proofs.Math.Dec.{ltb}
use Rattle.rules.specs.Rows.{smallest}
use Rattle.rules.specs.Table.{Table, Plan, State, job_count, cost, section_count, owner, to, modified_release, executed}
use Rattle.rules.specs.Refusals.{all_finished}
use Rattle.rules.specs.Tick.{chosen}
use Rattle.rules.specs.Run.{onward}
use Rattle.laws.specs.Tests.{Says, lt_says, eq_says, says_and, yes_says, yes_of}
use Rattle.laws.specs.Rows.{smallest_base, smallest-at, smallest_least}
use Rattle.laws.specs.Chosen.{chosen_left}
use Rattle.laws.specs.Events.{Unreleased, Quiet, advance_by}
use Rattle.laws.proofs.Events.{answered-at_once, given_unended, ticks_idle, idle_unended}
use Rattle.rules.specs.Lists.{state}

-- the smallest modified release after the tick, of the first n jobs, and at most `end`
unfoldable pub next_release : Plan → ℕ → ℕ → ℕ → ℕ
unfolding smallest
next_release p tick end n = smallest (λ j. ltb tick (modified_release p j)) (modified_release p) end n

-- the smallest end after `done` of the job's own among the first n sections, and at most its cost
unfoldable pub next_stop : Table → ℕ → ℕ → ℕ → ℕ
unfolding smallest
next_stop t job done n = smallest (λ s. eqb (owner t s) job && ltb done (to t s)) (to t) (cost t job) n

-- A job's ticks up to its stop.
abbrev pub stop_of : Plan → State → ℕ → ℕ
stop_of p st j = next_stop p.table j (executed st j) (section_count p.table)

-- its ticks up to its stop or to `end`, whichever is nearer
abbrev pub most_free : Plan → State → ℕ → ℕ → ℕ
most_free p st end j = min (stop_of p st j - executed st j) (end - st.tick)

-- Its ticks up to the next event: as many, or up to a release before.
unfoldable pub ticks_free : Plan → State → ℕ → ℕ → ℕ
unfolding next_release next_stop
ticks_free p st end j = next_release p st.tick (st.tick + most_free p st end j) (job_count p.table) - st.tick

-- So many ticks later, every report answered, and before each of them a job was unfinished.
pub record Skipped (p : Plan) (st : State) (end : ℕ) (st' : State) : Type 0 where
  pub ticks : ℕ
  pub rises : 0 < ticks
  pub soon : st.tick + ticks ≤ end
  pub time : st'.tick ≡ st.tick + ticks
  pub becomes : st' ≡ onward p st (replicate ticks false)
  pub unended : (k : ℕ) → k < ticks → all_finished p (onward p st (replicate k false)) ≡ false

-- What comes next: nothing, since every job has finished, or those ticks.
pub data Next (p : Plan) (st : State) (end : ℕ) (st' : State) : Type 0 where
  over : all_finished p st ≡ true → st' ≡ st → Next p st end st'
  later : Skipped p st end st' → Next p st end st'

-- ---- the next release and the next stop

module _ (p : Plan) (tick end n : ℕ) where
  pub release_by : next_release p tick end n ≤ end
  unfolding next_release
  release_by = smallest_base (λ j. ltb tick (modified_release p j)) (modified_release p) end n

  pub release-after : tick < end → tick < next_release p tick end n
  unfolding next_release
  release-after l =
      smallest_least (λ j. ltb tick (modified_release p j)) (modified_release p) end n (suc tick) l
      (λ k h e. yes_says (lt_says tick (modified_release p k)) e)

  pub release_least : (i : ℕ) → i < n → tick < modified_release p i → next_release p tick end n ≤ modified_release p i
  unfolding next_release
  release_least i l h = smallest-at (λ j. ltb tick (modified_release p j)) (modified_release p) end n i l (lt-ltb _ _ h)

module _ (t : Table) (job done n : ℕ) where
  abbrev own : ℕ → Bool
  own s = eqb (owner t s) job && ltb done (to t s)

  own_says : (s : ℕ) → Says ((owner t s ≡ job) × (done < to t s)) ((owner t s ≢ job) ⊎ (to t s ≤ done)) (own s)
  own_says s = says_and (eq_says (owner t s) job) (lt_says done (to t s))

  pub stop_by : next_stop t job done n ≤ cost t job
  unfolding next_stop
  stop_by = smallest_base own (to t) (cost t job) n

  pub stop_after : done < cost t job → done < next_stop t job done n
  unfolding next_stop
  stop_after l = smallest_least own (to t) (cost t job) n (suc done) l (λ s h e. (yes_says (own_says s) e).1)

  pub stop_least : (s : ℕ) → s < n → owner t s ≡ job → done < to t s → next_stop t job done n ≤ to t s
  unfolding next_stop
  stop_least s l e h =
      smallest-at own (to t) (cost t job) n s l (yes_of (own_says s) (⊎_elim (λ d. d e) (λ g. omega arith)))

-- ---- a job's ticks up to the next event

module _ (p : Plan) (st : State) (end j : ℕ) where
  pub release_ahead : executed st j < cost p.table j → st.tick < end
      → st.tick < next_release p st.tick (st.tick + most_free p st end j) (job_count p.table)
  release_ahead h l =
      let s = stop_after p.table j (executed st j) (section_count p.table) h in
      release-after p st.tick (st.tick + most_free p st end j) (job_count p.table) (omega arith)

  -- no release comes before the next tick
  pub free_one : (m : ℕ) → m ≡ most_free p st end j → m ≡ 1 → 1 ≡ ticks_free p st end j
  unfolding ticks_free
  free_one m e o =
      omega (
        arith,
        release-after p st.tick (st.tick + most_free p st end j) (job_count p.table) (omega arith),
        release_by p st.tick (st.tick + most_free p st end j) (job_count p.table),
      )

  pub free_to : (m r : ℕ) → m ≡ most_free p st end j → r ≡ next_release p st.tick (st.tick + m) (job_count p.table)
      → r - st.tick ≡ ticks_free p st end j
  unfolding ticks_free
  free_to m r e q = rw (q, e)

-- ---- to the next event

module _ (p : Plan) (st : State) (end : ℕ) (early : st.tick < end) where
  -- the next release, and at most `by`
  abbrev release : ℕ → ℕ
  release by = next_release p st.tick by (job_count p.table)

  -- nobody is released up to it
  free : (by n : ℕ) → st.tick + n ≤ release by → Unreleased p st n
  free by n l i h g = omega (arith, release_least p st.tick by (job_count p.table) i h g)

  -- idle to the next release
  pub skips_idle : chosen p st ≡ None → all_finished p st ≡ false → (r : ℕ) → r ≡ release end → Skipped p st end (state r st.executed st.marks st.finish)
  skips_idle c f r e =
      let a = release-after p st.tick end (job_count p.table) early in
      let n : ℕ = r - st.tick in
      let t : st.tick + n ≡ r = omega arith in
      let w : length (replicate n false) ≡ n = length-replicate n false in
      let q = free end n (omega arith) in
      record {
        ticks = n;
        rises = omega arith;
        soon = omega (arith, release_by p st.tick end (job_count p.table));
        time = sym t;
        becomes = sym (rw (w, t) at (ticks_idle p st n c q (replicate n false) (omega arith)));
        unended = λ k h. idle_unended p st n c q f (replicate k false) (omega (arith, length-replicate k false));
      }

  -- the chosen job up to the next event
  module _ (j : ℕ) (c : chosen p st ≡ Some j) (n : ℕ) (is : n ≡ ticks_free p st end j) where
    stop_later : executed st j < stop_of p st j
    stop_later = stop_after p.table j (executed st j) (section_count p.table) (chosen_left p st j c)

    -- to the release, and no further than to the stop
    within : (st.tick + n ≡ release (st.tick + most_free p st end j)) × (n ≤ most_free p st end j)
    unfolding ticks_free
    within =
        let a = release_ahead p st end j (chosen_left p st j c) early in
        let b = release_by p st.tick (st.tick + most_free p st end j) (job_count p.table) in
        let e : n ≡ release (st.tick + most_free p st end j) - st.tick = is in (omega arith, omega arith)

    pub run_quiet : Quiet p st j n
    run_quiet =
        let (b, d) = within in
        record {
          room = omega (arith, stop_later, stop_by p.table j (executed st j) (section_count p.table));
          no_release = free (st.tick + most_free p st end j) n (omega arith);
          no_end = λ s l o h. omega (arith, stop_later, stop_least p.table j (executed st j) (section_count p.table) s l o h);
        }

    pub run_soon : (0 < n) × (st.tick + n ≤ end)
    run_soon = let (b, d) = within in (omega (arith, release_ahead p st end j (chosen_left p st j c) early), omega arith)

    pub skips_run : j < length st.executed → (st' : State) → st' ≡ advance_by p st false j n → Skipped p st end st'
    unfolding advance_by
    skips_run l st' e =
        record {
          ticks = n;
          rises = run_soon.0;
          soon = run_soon.1;
          time = ap (λ (x : State). x.tick) e;
          becomes = e ∙ sym (answered-at_once p st j l n c run_quiet run_soon.0);
          unended = λ k h. given_unended p st j l n c run_quiet (replicate k false) (omega (arith, length-replicate k false));
        }
