-- A plan with right rows is what the theory speaks of, and the rules' choice is one by rules 1 to 4.
use Rattle.std.specs.Prelude.{◌≡◌, ◌≢◌, ◌⊎◌, Bool, true, false, cond, ◌&&◌, ◌||◌, ℕ, ◌≤◌, ◌<◌, Option, Some}
use Rattle.std.proofs.Math.Path.{refl}
use Rattle.std.proofs.Common.{sym, ◌∙◌, ⊎_elim, arith}
use Rattle.std.proofs.Math.Decide.{dec_lt}
use Rattle.std.proofs.Math.ListN.{get_or-eq_default}
use Rattle.rules.specs.Table.{
  Table,
  Plan,
  State,
  resources,
  job_count,
  cost,
  section_count,
  owner,
  resource,
  from,
  to,
  modified_release,
  span,
  executed,
}
use Rattle.rules.specs.Order.{comes_before}
use Rattle.rules.specs.Tick.{pending, started, holds, units, held_on, clears, first_pending, first_started, choose, chosen}
use Rattle.rules.specs.Tick as Tick
use Rattle.laws.specs.Tests.{Says, so, not_so, clash, lt_says, says_and, says_yes, yes_says, yes_of}
use Rattle.laws.specs.First.{FirstOf, found, first_of}
use Rattle.laws.specs.First as First
use Rattle.laws.specs.Order.{before_order, before_total}
use Rattle.laws.specs.Keys.{key_of, key_apart, key-span, before-key, rank_apart}
use Rattle.laws.specs.Clears.{clears_lower, clears_cover, clears_free, may_says}
use Rattle.laws.specs.Refusals.{RowsRight}
use Rattle.run_laws.specs.Theory.{Jobs, Pending, First, pending_in}
use Rattle.run_laws.specs.Sections.{
  Sections,
  Ceilings,
  listed,
  holds_on,
  held,
  holders,
  none-held,
  pend,
  pend_says,
  ByRules,
  nobody,
  resumes,
  opens,
  detains,
}

-- ---- rows outside the table

module _ (t : Table) (rows : RowsRight t) where
  pub cost_outside : (j : ℕ) → job_count t ≤ j → cost t j ≡ 0
  cost_outside j l = get_or-eq_default t.jobs 0 (omega (arith, rows.jobs_whole))

  pub to_outside : (s : ℕ) → section_count t ≤ s → to t s ≡ 0
  to_outside s l = get_or-eq_default t.sections 0 (omega (arith, rows.sections_whole))

  pub section_fits : (s : ℕ) → to t s ≤ cost t (owner t s)
  section_fits s =
      elim (dec_lt s (section_count t)) [
        | yes l ↦ (rows.section_in s l).fits
        | no l ↦ omega (arith, to_outside s (omega arith))
      ]

-- ---- a plan, as the theory sees it

module _ (p : Plan) (rows : RowsRight p.table) where
  -- its jobs, with the order as one number
  abbrev pub jobs_of : Jobs
  jobs_of =
      record {
        count = job_count p.table;
        cost = cost p.table;
        release = modified_release p;
        key = key_of p;
        outside = cost_outside p.table rows;
        apart = key_apart p;
      }

  -- its sections
  abbrev pub sections_of : Sections
  sections_of =
      record {
        many = section_count p.table;
        owner = owner p.table;
        resource = resource p.table;
        from = from p.table;
        to = to p.table;
        units = units p;
        off = to_outside p.table rows;
      }

  -- each resource has one unit
  abbrev pub ceilings_of : Ceilings jobs_of sections_of
  ceilings_of =
      record {
        span = span p;
        total = λ q. 1;
        clears = λ d q busy. clears p d q busy ≡ true;
        lower = λ {c} {d} {q} {h} l. clears_lower p c d q h l;
        cover = clears_cover p;
        fits = section_fits p.table rows;
        levels = λ i k li lk. key-span p i k li lk;
      }

  -- ---- the choice

  module _ (st : State) where
    pub pending_says : (j : ℕ)
        → Says (Pending jobs_of st.tick (executed st) j) (Pending jobs_of st.tick (executed st) j → ⊥) (pending p st j)
    unfolding pending
    pending_says = pend_says jobs_of st.tick (executed st)

    pub started_says : (j : ℕ) → Says (0 < executed st j) (executed st j ≤ 0) (started st j)
    unfolding started
    started_says j = lt_says 0 (executed st j)

    held-is : (q : ℕ) → Tick.held p st q ≡ held sections_of (pend jobs_of st.tick (executed st)) (executed st) q
    unfolding Tick.held held_on holds pending held holds_on
    held-is q = refl

    -- the first by the order of jobs comes before the others by their keys
    leads_by : (passes : ℕ → Bool) (x : ℕ) → x < job_count p.table
        → ((k : ℕ) → k < job_count p.table → passes k ≡ true → comes_before p k x ≡ false)
        → (g : ℕ) → g < job_count p.table → passes g ≡ true → g ≢ x → key_of p x < key_of p g
    leads_by passes x l least g lg e n =
        ⊎_elim (before-key p x g l lg) (λ b. clash b (least g lg e)) (before_total p x g (λ q. n (sym (rank_apart p x g q))))

    first-pending : {x : ℕ} → x < job_count p.table → pending p st x ≡ true
        → ((k : ℕ) → k < job_count p.table → pending p st k ≡ true → comes_before p k x ≡ false)
        → First jobs_of st.tick (executed st) x
    first-pending {x} l e least =
        record {
          ready = yes_says (pending_says x) e;
          leads = λ g h n. leads_by (pending p st) x l least g (pending_in jobs_of h) (says_yes (pending_says g) h) n;
        }

    -- "Pending and started", as rule 4 asks
    both_say : (j : ℕ)
        → Says
        (Pending jobs_of st.tick (executed st) j × (0 < executed st j))
        ((Pending jobs_of st.tick (executed st) j → ⊥) ⊎ (executed st j ≤ 0))
        (pending p st j && started st j)
    both_say j = says_and (pending_says j) (started_says j)

    both_yes : {j : ℕ} → Pending jobs_of st.tick (executed st) j → 0 < executed st j → (pending p st j && started st j) ≡ true
    both_yes {j} h l = yes_of (both_say j) (⊎_elim (λ n. n h) (λ m. omega arith))

    -- rule 4: somebody holds what the first pending job doesn't clear, so a started pending job is found
    detained : {x : ℕ} → First jobs_of st.tick (executed st) x → executed st x ≤ 0
        → (q : ℕ) → clears p (span p x) q (Tick.held p st q) ≡ false
        → {o : Option ℕ} → FirstOf (comes_before p) (λ j. pending p st j && started st j) (job_count p.table) o
        → ByRules jobs_of sections_of ceilings_of st.tick (executed st) o
    detained {x} f z q c (First.nobody n) =
        ⊎_elim
        (λ w.
        let h = w.1.holding in
        let o = owner p.table w.0 in
        let g : Pending jobs_of st.tick (executed st) o = yes_says (pend_says jobs_of st.tick (executed st) o) w.1.who in
        clash (both_yes g (omega (arith, h.entered))) (n o (pending_in jobs_of g)))
        (λ free.
        let nothing : Tick.held p st q ≡ 0
        = held-is q ∙ none-held sections_of (pend jobs_of st.tick (executed st)) (executed st) q free in
        clash (clears_free p (span p x) q) (rw nothing at c))
        (holders sections_of (pend jobs_of st.tick (executed st)) (executed st) q)
    detained {x} f z q c (found {x = y} l e least) =
        let h = yes_says (both_say y) e in
        detains (record {
          lead = record {
            ready = h.0;
            begun = h.1;
            leads = λ g w s n. leads_by (λ j. pending p st j && started st j) y l least g (pending_in jobs_of w) (both_yes w s) n;
          };
          waiting = x;
          head = f;
          unstarted = omega arith;
          on = q;
          stuck = λ b. clash b (rw (held-is q) at c);
        })

    -- a resource past the last has no section, so nobody holds it
    clear_all : (x : ℕ) → ((q : ℕ) → q < resources → clears p (span p x) q (Tick.held p st q) ≡ true)
        → (q : ℕ) → clears p (span p x) q (held sections_of (pend jobs_of st.tick (executed st)) (executed st) q) ≡ true
    clear_all x h q =
        elim (dec_lt q resources) [
          | yes l ↦ rw (← held-is q) (h q l)
          | no l ↦
              rw
              (none-held sections_of (pend jobs_of st.tick (executed st)) (executed st) q (λ s w.
              omega (arith, (rows.section_in s (listed sections_of w.holding.leaves)).resource_in, w.on)))
              (clears_free p (span p x) q)
        ]

    by_rules : {x : ℕ} → First jobs_of st.tick (executed st) x → {a b : Bool}
        → Says (0 < executed st x) (executed st x ≤ 0) a
        → Says
        ((q : ℕ) → q < resources → clears p (span p x) q (Tick.held p st q) ≡ true)
        ((q : ℕ) × (q < resources) × (clears p (span p x) q (Tick.held p st q) ≡ false))
        b
        → ByRules jobs_of sections_of ceilings_of st.tick (executed st) (cond (a || b) (Some x) (first_started p st))
    unfolding first_started
    by_rules {x} f (so s) m = resumes f s
    by_rules {x} f (not_so z) (so m) = opens f (omega arith) (clear_all x m)
    by_rules {x} f (not_so z) (not_so w) =
        detained f z w.0 w.2
        (first_of (comes_before p) (λ j. pending p st j && started st j) (before_order p) (job_count p.table))

    -- What the rules choose, they choose by rules 1 to 4.
    pub chosen_by_rules : ByRules jobs_of sections_of ceilings_of st.tick (executed st) (chosen p st)
    unfolding chosen first_pending
    chosen_by_rules = go (first_of (comes_before p) (pending p st) (before_order p) (job_count p.table))
      where
        go : {o : Option ℕ} → FirstOf (comes_before p) (pending p st) (job_count p.table) o
            → ByRules jobs_of sections_of ceilings_of st.tick (executed st) (choose p st o)
        go (First.nobody n) = nobody (λ j h. clash (says_yes (pending_says j) h) (n j (pending_in jobs_of h)))
        go (found {x = x} l e least) = by_rules (first-pending l e least) (started_says x) (may_says p st x)
