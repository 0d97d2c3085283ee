-- Sections and ceilings in a run of 01's rules 1 to 4, from two laws of `clears`: what a started unfinished job clears, and
-- that no two jobs are inside sections of one resource.
use Rattle.std.specs.Prelude.{◌≡◌, refl, ◌≢◌, ◌⊎◌, Bool, true, ◌&&◌, ℕ, zero, suc, ◌+◌, ◌≤◌, ◌<◌, ltb, leb, eqb, Option, None, Some}
use Rattle.std.proofs.Common.{sym, inl, inr, ⊎_elim, arith}
use Rattle.std.proofs.Math.Path.{ap}
use Rattle.std.proofs.Math.Bool.{cond}
use Rattle.std.proofs.Math.Decide.{ℕ_discrete, dec_lt}
use Rattle.rules.specs.Rows.{sum}
use Rattle.laws.specs.Tests.{
  Says,
  so,
  not_so,
  clash,
  lt_says,
  le_says,
  eq_says,
  bool_says,
  says_map,
  says_and,
  says_same,
  says_yes,
  yes_says,
  no_of,
}
use Rattle.laws.specs.Rows.{any_says, sum_ext, sum_term, sum-none}
use Rattle.run_laws.specs.Theory.{
  Jobs,
  Pending,
  First,
  Choice,
  idles,
  runs,
  Run,
  pending_in,
  grows,
  chosen-pending,
  chosen-first,
  others_same,
  raised-chosen,
  started_released,
}

-- Sections: any number, each of a job, on a resource, from a tick of its job to another, taking some units.
pub record Sections : Type 0 where
  pub many : ℕ
  pub owner : ℕ → ℕ
  pub resource : ℕ → ℕ
  pub from : ℕ → ℕ
  pub to : ℕ → ℕ
  pub units : ℕ → ℕ
  -- what is no section ends at once
  pub off : (s : ℕ) → many ≤ s → to s ≡ 0

module _ (Z : Sections) where
  -- two sections of one job that share a tick lie one within the other
  abbrev pub Nested : Type 0
  Nested =
      (s τ : ℕ) → Z.owner s ≡ Z.owner τ → Z.from s < Z.to τ → Z.from τ < Z.to s
      → ((Z.from τ ≤ Z.from s) × (Z.to s ≤ Z.to τ)) ⊎ ((Z.from s ≤ Z.from τ) × (Z.to τ ≤ Z.to s))

  -- ---- what is held

  -- the job of section s has entered it and not left it
  pub record Holds (e : ℕ → ℕ) (s : ℕ) : Type 0 where
    pub entered : Z.from s < e (Z.owner s)
    pub leaves : e (Z.owner s) < Z.to s

  -- a job of a class holds the section s, which is on q
  pub record HoldsOn (of : ℕ → Bool) (e : ℕ → ℕ) (q s : ℕ) : Type 0 where
    pub on : Z.resource s ≡ q
    pub holding : Holds e s
    pub who : of (Z.owner s) ≡ true

  -- the same as a test
  unfoldable pub holds_on : (ℕ → Bool) → (ℕ → ℕ) → ℕ → ℕ → Bool
  holds_on of e q s =
      eqb (Z.resource s) q
      && ((ltb (Z.from s) (e (Z.owner s)) && ltb (e (Z.owner s)) (Z.to s)) && of (Z.owner s))

  -- how many units of q jobs of a class hold
  unfoldable pub held : (ℕ → Bool) → (ℕ → ℕ) → ℕ → ℕ
  unfolding holds_on
  held of e q = sum (λ s. cond (holds_on of e q s) (Z.units s) 0) Z.many

  holds_says : (of : ℕ → Bool) (e : ℕ → ℕ) (q s : ℕ) → Says (HoldsOn of e q s) (HoldsOn of e q s → ⊥) (holds_on of e q s)
  unfolding holds_on
  holds_says of e q s =
      says_map
      (λ w. record { on = w.0; holding = record { entered = w.1.0.0; leaves = w.1.0.1 }; who = w.1.1 })
      (⊎_elim
      (λ n h. n h.on)
      (⊎_elim
      (⊎_elim (λ l h. omega (arith, h.holding.entered)) (λ l h. omega (arith, h.holding.leaves)))
      (λ n h. clash h.who n)))
      (says_and
      (eq_says (Z.resource s) q)
      (says_and
      (says_and (lt_says (Z.from s) (e (Z.owner s))) (lt_says (e (Z.owner s)) (Z.to s)))
      (bool_says (of (Z.owner s)))))

  pub listed : {n s : ℕ} → n < Z.to s → s < Z.many
  listed {n} {s} l = elim (dec_lt s Z.many) [ yes h ↦ h | no h ↦ absurd (omega (arith, Z.off s (omega arith))) ]

  -- it holds on, in another class too, where its count is the same
  pub hold_on : {of of' : ℕ → Bool} {e e' : ℕ → ℕ} {q s : ℕ} → e' (Z.owner s) ≡ e (Z.owner s) → of' (Z.owner s) ≡ true
      → HoldsOn of e q s → HoldsOn of' e' q s
  hold_on same w h =
      record {
        on = h.on;
        holding = record { entered = omega (arith, h.holding.entered); leaves = omega (arith, h.holding.leaves) };
        who = w;
      }

  -- two classes that hold the same sections of q hold the same units of it
  pub held_same : (of of' : ℕ → Bool) (e e' : ℕ → ℕ) (q : ℕ)
      → ((s : ℕ) → HoldsOn of e q s → HoldsOn of' e' q s) → ((s : ℕ) → HoldsOn of' e' q s → HoldsOn of e q s)
      → held of e q ≡ held of' e' q
  unfolding held
  held_same of of' e e' q f g =
      sum_ext _ _ Z.many (λ s l.
      ap {B = ℕ} (λ (b : Bool). cond b (Z.units s) 0) (says_same (holds_says of e q s) (holds_says of' e' q s) (f s) (g s)))

  pub held-counts : (of : ℕ → Bool) (e : ℕ → ℕ) (q s : ℕ) → HoldsOn of e q s → Z.units s ≤ held of e q
  unfolding held
  held-counts of e q s h =
      let l : cond (holds_on of e q s) (Z.units s) 0 ≤ sum (λ i. cond (holds_on of e q i) (Z.units i) 0) Z.many
      = sum_term (λ i. cond (holds_on of e q i) (Z.units i) 0) Z.many s (listed h.holding.leaves) in
      rw (says_yes (holds_says of e q s) h) at l

  -- a section of q that jobs of a class hold, or none
  pub holders : (of : ℕ → Bool) (e : ℕ → ℕ) (q : ℕ) → ((s : ℕ) × HoldsOn of e q s) ⊎ ((s : ℕ) → HoldsOn of e q s → ⊥)
  holders of e q = go (any_says _ _ (holds_on of e q) (holds_says of e q) Z.many)
    where
      go : {c : Bool} → Says ((s : ℕ) × (s < Z.many) × HoldsOn of e q s) ((s : ℕ) → s < Z.many → HoldsOn of e q s → ⊥) c
          → ((s : ℕ) × HoldsOn of e q s) ⊎ ((s : ℕ) → HoldsOn of e q s → ⊥)
      go (so w) = inl (w.0, w.2)
      go (not_so n) = inr (λ s h. n s (listed h.holding.leaves) h)

  pub none-held : (of : ℕ → Bool) (e : ℕ → ℕ) (q : ℕ) → ((s : ℕ) → HoldsOn of e q s → ⊥) → held of e q ≡ 0
  unfolding held
  none-held of e q n = sum-none _ Z.many (λ s l. rw (no_of (holds_says of e q s) (n s)))

-- ---- two classes of jobs

module _ (J : Jobs) where
  -- the pending jobs, and the jobs later than x in the order
  abbrev pub pend : ℕ → (ℕ → ℕ) → ℕ → Bool
  pend t e j = leb (J.release j) t && ltb (e j) (J.cost j)

  -- job j comes after job x in the order
  abbrev pub after : ℕ → ℕ → Bool
  after x j = ltb (J.key x) (J.key j)

  pub pend_says : (t : ℕ) (e : ℕ → ℕ) (j : ℕ) → Says (Pending J t e j) (Pending J t e j → ⊥) (pend t e j)
  pend_says t e j =
      says_map
      (λ w. record { released = w.0; unfinished = w.1 })
      (⊎_elim (λ l h. omega (arith, h.released)) (λ l h. omega (arith, h.unfinished)))
      (says_and (le_says (J.release j) t) (lt_says (e j) (J.cost j)))

  pub after_yes : {x j : ℕ} → J.key x < J.key j → after x j ≡ true
  after_yes {x} {j} l = says_yes (says_map (λ h. h) (λ h g. omega arith) (lt_says (J.key x) (J.key j))) l

  pub after_is : {x j : ℕ} → after x j ≡ true → J.key x < J.key j
  after_is {x} {j} e = yes_says (lt_says (J.key x) (J.key j)) e

-- ---- ceilings

-- Spans (relative deadlines), and when a span clears a resource of which so many units are held: any relation with two laws.
pub record Ceilings (J : Jobs) (Z : Sections) : Type 1 where
  pub span : ℕ → ℕ
  -- the units there are of each resource
  pub total : ℕ → ℕ
  pub clears : ℕ → ℕ → ℕ → Type 0
  -- what is true at d is true below d
  pub lower : {c d q h : ℕ} → c ≤ d → clears d q h → clears c q h
  -- a job that has a section on q, where q has no units left for it, does not clear q
  pub cover : (s h : ℕ) → s < Z.many → total (Z.resource s) < h + Z.units s
      → clears (span (Z.owner s)) (Z.resource s) h → ⊥
  -- a section lies in its job's ticks
  pub fits : (s : ℕ) → Z.to s ≤ J.cost (Z.owner s)
  -- of two jobs the one that comes before and is released no earlier has the smaller span
  pub levels : (i k : ℕ) → i < J.count → k < J.count → J.key i < J.key k → J.release k ≤ J.release i → span i ≤ span k

module _ (J : Jobs) (Z : Sections) (C : Ceilings J Z) where
  -- ---- rules 1 to 4

  -- the first started pending job
  pub record FirstStarted (t : ℕ) (e : ℕ → ℕ) (x : ℕ) : Type 0 where
    pub ready : Pending J t e x
    pub begun : 0 < e x
    pub leads : (g : ℕ) → Pending J t e g → 0 < e g → g ≢ x → J.key x < J.key g

  -- rule 4: the first pending job is not started and doesn't clear some resource, and x is the first started one
  pub record Detained (t : ℕ) (e : ℕ → ℕ) (x : ℕ) : Type 0 where
    pub lead : FirstStarted t e x
    pub waiting : ℕ
    pub head : First J t e waiting
    pub unstarted : e waiting ≡ 0
    pub on : ℕ
    pub stuck : C.clears (C.span waiting) on (held Z (pend J t e) e on) → ⊥

  -- 01's four rules: nobody is pending; the first one goes on; the first one starts; or it may not, and a started one runs
  pub data ByRules (t : ℕ) (e : ℕ → ℕ) : Option ℕ → Type 0 where
    nobody : ((j : ℕ) → Pending J t e j → ⊥) → ByRules t e None
    resumes : {x : ℕ} → First J t e x → 0 < e x → ByRules t e (Some x)
    opens : {x : ℕ} → First J t e x → e x ≡ 0 → ((q : ℕ) → C.clears (C.span x) q (held Z (pend J t e) e q)) → ByRules t e (Some x)
    detains : {x : ℕ} → Detained t e x → ByRules t e (Some x)

  -- they are a choice of the class
  pub in_class : {t : ℕ} {e : ℕ → ℕ} {o : Option ℕ} → ByRules t e o → Choice J t e o
  in_class (nobody n) = idles n
  in_class (resumes f l) = runs f.ready (λ z. f)
  in_class (opens f z c) = runs f.ready (λ z. f)
  in_class (detains d) = runs d.lead.ready (λ z. absurd (omega (arith, d.lead.begun)))

  -- the chosen job comes before every other started pending one
  pub chosen_leads : {t : ℕ} {e : ℕ → ℕ} {x : ℕ} → ByRules t e (Some x)
      → (g : ℕ) → Pending J t e g → 0 < e g → g ≢ x → J.key x < J.key g
  chosen_leads (resumes f l) g p s n = f.leads g p n
  chosen_leads (opens f z c) g p s n = f.leads g p n
  chosen_leads (detains d) g p s n = d.lead.leads g p s n

  -- a chosen job that was not started has passed the test
  passed : {t : ℕ} {e : ℕ → ℕ} {x : ℕ} → ByRules t e (Some x) → e x ≡ 0
      → (q : ℕ) → C.clears (C.span x) q (held Z (pend J t e) e q)
  passed (resumes f l) z = absurd (omega arith)
  passed (opens f _ c) z = c
  passed (detains d) z = absurd (omega (arith, d.lead.begun))

  module _ (R : Run J) (rules : (k : ℕ) → ByRules k (R.e k) (R.pick k)) where
    pub rule_of : {k x : ℕ} → R.pick k ≡ Some x → ByRules k (R.e k) (Some x)
    rule_of {k} c = rw c at (rules k)

    -- a started unfinished job is pending
    pub started-pending : {k j : ℕ} → 0 < R.e k j → R.e k j < J.cost j → Pending J k (R.e k) j
    started-pending {k} {j} s l = record { released = started_released J R k j s; unfinished = l }

    -- who holds a section is started and unfinished
    pub holder_pending : {k s : ℕ} → Holds Z (R.e k) s → Pending J k (R.e k) (Z.owner s)
    holder_pending {k} {s} h = started-pending (omega (arith, h.entered)) (omega (arith, h.leaves, C.fits s))

    -- so what is held at all is held by pending jobs
    pub held-pending : {of : ℕ → Bool} {k q s : ℕ} → HoldsOn Z of (R.e k) q s → HoldsOn Z (pend J k (R.e k)) (R.e k) q s
    held-pending {of} {k} {q} {s} h =
        hold_on Z refl (says_yes (pend_says J k (R.e k) (Z.owner s)) (holder_pending h.holding)) h

    -- while x is started and unfinished, jobs later than x stand still
    pub later_still : {k x j : ℕ} → 0 < R.e k x → R.e k x < J.cost x → J.key x < J.key j → R.e (suc k) j ≡ R.e k j
    later_still {k} {x} {j} s l b =
        others_same J R (λ c. omega (arith, chosen_leads (rule_of c) x (started-pending s l) s (λ q. omega (arith, ap J.key q))))

    later-held : (k x q : ℕ) → 0 < R.e k x → R.e k x < J.cost x
        → held Z (after J x) (R.e (suc k)) q ≡ held Z (after J x) (R.e k) q
    later-held k x q s l =
        held_same Z (after J x) (after J x) (R.e (suc k)) (R.e k) q
        (λ τ h. hold_on Z (sym (later_still s l (after_is J h.who))) h.who h)
        (λ τ h. hold_on Z (later_still s l (after_is J h.who)) h.who h)

    -- when x starts, what pending jobs hold is what jobs later than x hold
    start-held : (k x q : ℕ) → R.pick k ≡ Some x → R.e k x ≡ 0
        → held Z (after J x) (R.e (suc k)) q ≡ held Z (pend J k (R.e k)) (R.e k) q
    start-held k x q c z =
        held_same Z (after J x) (pend J k (R.e k)) (R.e (suc k)) (R.e k) q
        (λ τ h. (
        let l = after_is J h.who in
        let g : HoldsOn Z (after J x) (R.e k) q τ = hold_on Z (sym (same τ (λ w. omega (arith, ap J.key w)))) h.who h in
        held-pending g
        ))
        (λ τ h. back τ h (λ w. omega (arith, ap (R.e k) w, h.holding.entered)))
      where
        same : (τ : ℕ) → Z.owner τ ≢ x → R.e (suc k) (Z.owner τ) ≡ R.e k (Z.owner τ)
        same τ n = others_same J R (λ w. n (let y : x ≡ Z.owner τ = cc (c, w) in sym y))

        back : (τ : ℕ) → HoldsOn Z (pend J k (R.e k)) (R.e k) q τ → Z.owner τ ≢ x → HoldsOn Z (after J x) (R.e (suc k)) q τ
        back τ h n = hold_on Z (same τ n) (after_yes J ((chosen-first J R c z).leads (Z.owner τ) (holder_pending h.holding) n)) h

    -- Every started unfinished job clears each resource at what jobs later than it hold.
    pub clear : (k x : ℕ) → 0 < R.e k x → R.e k x < J.cost x
        → (q : ℕ) → C.clears (C.span x) q (held Z (after J x) (R.e k) q)
    clear zero x s l q = absurd (omega (arith, R.starts x))
    clear (suc k) x s l q =
        elim (dec_lt 0 (R.e k x)) [
          | yes b ↦
              (let u : R.e k x < J.cost x = omega (arith, grows J (R.frame k) x) in
              rw (later-held k x q b u) (clear k x b u q))
          | no b ↦
              (let c : R.pick k ≡ Some x = raised-chosen J R (omega arith) in
              let z : R.e k x ≡ 0 = omega arith in
              rw (start-held k x q c z) (passed (rule_of c) z q))
        ]

    -- ---- one job inside

    -- who has a section on a resource without units left for it, because of one that is held, does not clear it
    excludes : {of : ℕ → Bool} {e : ℕ → ℕ} {n s τ : ℕ} → HoldsOn Z of e (Z.resource s) τ → n < Z.to s
        → C.total (Z.resource s) < Z.units s + Z.units τ
        → C.clears (C.span (Z.owner s)) (Z.resource s) (held Z of e (Z.resource s))
        → ⊥
    excludes {of} {e} {n} {s} {τ} h l t =
        C.cover s (held Z of e (Z.resource s)) (listed Z l) (omega (arith, held-counts Z of e (Z.resource s) τ h))

    -- A job is inside a section: it holds it at the decision, or it's chosen and the section covers the tick.
    pub data Inside (k s : ℕ) : Type 0 where
      holding : Holds Z (R.e k) s → Inside k s
      covered : R.pick k ≡ Some (Z.owner s) → Z.from s ≤ R.e k (Z.owner s) → R.e k (Z.owner s) < Z.to s → Inside k s

    -- two holders, the first of them first in the order
    two_hold : {k s τ : ℕ} → Z.resource τ ≡ Z.resource s → C.total (Z.resource s) < Z.units s + Z.units τ
        → J.key (Z.owner s) < J.key (Z.owner τ) → Holds Z (R.e k) s → Holds Z (R.e k) τ → ⊥
    two_hold {k} {s} {τ} r t b h g =
        excludes (record { on = r; holding = g; who = after_yes J b }) h.leaves t
        (clear k (Z.owner s) (omega (arith, h.entered)) (holder_pending h).unfinished (Z.resource s))

    -- one runs in its section, another holds
    runs_holds : {k s τ : ℕ} → Z.resource τ ≡ Z.resource s → C.total (Z.resource s) < Z.units s + Z.units τ
        → R.pick k ≡ Some (Z.owner s) → R.e k (Z.owner s) < Z.to s → Z.owner τ ≢ Z.owner s → Holds Z (R.e k) τ → ⊥
    runs_holds {k} {s} {τ} r t c l n g =
        elim (dec_lt 0 (R.e k (Z.owner s))) [
          | yes b ↦
              excludes
              (record {
                on = r;
                holding = g;
                who = after_yes J (chosen_leads (rule_of c) (Z.owner τ) (holder_pending g) (omega (arith, g.entered)) n);
              })
              l t
              (clear k (Z.owner s) b (chosen-pending J R c).unfinished (Z.resource s))
          | no b ↦
              excludes
              (record { on = r; holding = g; who = says_yes (pend_says J k (R.e k) (Z.owner τ)) (holder_pending g) })
              l t
              (passed (rule_of c) (omega arith) (Z.resource s))
        ]

    -- Jobs inside two sections of one resource, which together take more than its units, are one job.
    pub one_inside : (k s τ : ℕ) → Z.resource s ≡ Z.resource τ → C.total (Z.resource s) < Z.units s + Z.units τ
        → Inside k s → Inside k τ → Z.owner s ≡ Z.owner τ
    one_inside k s τ r t a b = elim (ℕ_discrete (Z.owner s) (Z.owner τ)) [ yes q ↦ q | no q ↦ absurd (go q a b) ]
      where
        u : C.total (Z.resource τ) < Z.units τ + Z.units s
        u = rw (← r) (omega arith)

        go : Z.owner s ≢ Z.owner τ → Inside k s → Inside k τ → ⊥
        go q (holding h) (holding g) =
            elim (dec_lt (J.key (Z.owner s)) (J.key (Z.owner τ))) [
              | yes l ↦ two_hold (sym r) t l h g
              | no l ↦
                  elim (dec_lt (J.key (Z.owner τ)) (J.key (Z.owner s))) [
                    | yes m ↦ two_hold r u m g h
                    | no m ↦
                        q (J.apart (Z.owner s) (Z.owner τ)
                        (pending_in J (holder_pending h)) (pending_in J (holder_pending g)) (omega arith))
                  ]
            ]
        go q (holding h) (covered c f l) = runs_holds r u c l q h
        go q (covered c f l) (holding g) = runs_holds (sym r) t c l (λ w. q (sym w)) g
        go q (covered c f l) (covered d g m) = q (cc (c, d))
