-- How long a job waits in a run of 01's rules 1 to 4: from its release to its finish, ticks given to later jobs all go to one
-- job, while it is inside one section, in which it was before the release.
use Rattle.std.specs.Prelude.{◌≡◌, ◌≢◌, ◌⊎◌, Bool, ◌&&◌, eqb, Option, None, Some}
use Rattle.std.proofs.Math.Path.{refl, ap}
use Rattle.std.proofs.Common.{sym, ◌∙◌, inl, inr, arith}
use Rattle.std.proofs.Math.Logic.{⊎_elim}
use Rattle.std.proofs.Math.Bool.{true, false}
use Prim.Native.Nat.{ℕ, zero, suc, ◌+◌, ◌≤◌, ◌<◌}
use Rattle.std.proofs.Math.Decide.{ℕ_discrete, dec_lt, dec_le}
use Rattle.rules.specs.Rows.{count}
use Rattle.laws.specs.Tests.{Says, so, not_so, clash, lt_says, eq_says, says_map, says_and, yes_says, yes_of, no_of}
use Rattle.laws.specs.Rows.{below_suc, count_none}
use Rattle.run_laws.specs.Theory.{
  Jobs,
  Pending,
  Run,
  idle_not,
  pending_in,
  in_table,
  grows,
  chosen_up,
  others_same,
  within,
  quasi,
}
use Rattle.run_laws.specs.Sections.{
  Sections,
  Nested,
  HoldsOn,
  held,
  held_same,
  hold_on,
  holders,
  Ceilings,
  pend,
  pend_says,
  after,
  after_yes,
  after_is,
  Detained,
  ByRules,
  resumes,
  opens,
  detains,
  rule_of,
  started-pending,
  holder_pending,
  held-pending,
  clear,
}

module _ (J : Jobs) (Z : Sections) (C : Ceilings J Z) (R : Run J) (rules : (k : ℕ) → ByRules J Z C k (R.e k) (R.pick k)) where
  -- ---- a later job runs

  -- a job that comes before a started one and is unfinished has no larger span
  level : {k i x : ℕ} → Pending J k (R.e k) i → J.key i < J.key x → 0 < R.e k x → x < J.count → C.span i ≤ C.span x
  level {k} {i} {x} p b s l =
      elim (dec_le (J.release i) (J.release x)) [
        | yes r ↦ absurd (omega (arith, quasi J R k i x b r s, p.unfinished))
        | no r ↦ C.levels i x (pending_in J p) l b (omega arith)
      ]

  -- a section that x holds at tick k
  record Within (k x : ℕ) : Type 0 where
    section : ℕ
    owns : Z.owner section ≡ x
    entered : Z.from section < R.e k x
    leaves : R.e k x < Z.to section

  -- the job that runs by rule 4 holds a section on the resource that the first pending job doesn't clear
  module _ (k x : ℕ) (d : Detained J Z C k (R.e k) x) (behind : J.key d.waiting < J.key x) where
    is_x : ℕ → Bool
    is_x i = eqb i x

    blocker_holds : Within k x
    unfolding is_x
    blocker_holds =
        ⊎_elim
        (λ w. found w.0 w.1 (yes_says (eq_says (Z.owner w.0) x) w.1.who))
        (λ n. absurd (go n))
        (holders Z is_x (R.e k) d.on)
      where
        found : (s : ℕ) → HoldsOn Z is_x (R.e k) d.on s → Z.owner s ≡ x → Within k x
        found s h o =
            record {
              section = s;
              owns = o;
              entered = omega (arith, h.holding.entered, ap (R.e k) o);
              leaves = omega (arith, h.holding.leaves, ap (R.e k) o);
            }

        later : (s : ℕ) → HoldsOn Z (pend J k (R.e k)) (R.e k) d.on s → Z.owner s ≢ x → J.key x < J.key (Z.owner s)
        later s h =
            d.lead.leads (Z.owner s) (holder_pending J Z C R rules h.holding) (omega (arith, h.holding.entered))

        all-later : ((s : ℕ) → HoldsOn Z is_x (R.e k) d.on s → ⊥)
            → held Z (after J x) (R.e k) d.on ≡ held Z (pend J k (R.e k)) (R.e k) d.on
        all-later n =
            held_same Z (after J x) (pend J k (R.e k)) (R.e k) (R.e k) d.on
            (λ s h. held-pending J Z C R rules h)
            (λ s h. hold_on Z refl (after_yes J (later s h (λ q. n s (hold_on Z refl (yes_of (eq_says (Z.owner s) x) (λ m. m q)) h)))) h)

        go : ((s : ℕ) → HoldsOn Z is_x (R.e k) d.on s → ⊥) → ⊥
        go n =
            d.stuck
            (C.lower
            (level d.head.ready behind d.lead.begun (pending_in J d.lead.ready))
            (rw (all-later n) at (clear J Z C R rules k x d.lead.begun d.lead.ready.unfinished d.on)))

  -- ---- waiting

  -- the tick goes to a job later than j
  abbrev pub goes_after : ℕ → Option ℕ → Bool
  goes_after j None = false
  goes_after j (Some x) = after J j x

  -- job j waits in tick k
  abbrev pub waits_at : ℕ → ℕ → Bool
  waits_at j k = pend J k (R.e k) j && goes_after j (R.pick k)

  -- in how many of the ticks before b it waits
  abbrev pub waited_to : ℕ → ℕ → ℕ
  waited_to j b = count (waits_at j) b

  -- From tick a to tick b no tick went to a job later than j.
  record Undisturbed (j a b : ℕ) : Type 0 where
    quiet : (s : ℕ) → s < b → waits_at j s ≡ false
    still : (l : ℕ) → J.key j < J.key l → R.e b l ≡ R.e a l

  -- At tick a, k is the job that may hold j up: later than j, it clears what jobs still later hold, and it comes before
  -- every other started unfinished job that is later than j.
  record Blocker (j a k : ℕ) : Type 0 where
    behind : J.key j < J.key k
    clearing : (q : ℕ) → C.clears (C.span k) q (held Z (after J k) (R.e a) q)
    nearest : (l : ℕ) → J.key j < J.key l → l ≢ k → 0 < R.e a l → R.e a l < J.cost l → J.key k < J.key l

  -- From tick a to tick b all ticks that went to jobs later than j went to one, inside a section that it held at tick a.
  record Delayed (j a b : ℕ) : Type 0 where
    who : ℕ
    blocker : Blocker j a who
    section : ℕ
    owns : Z.owner section ≡ who
    entered : Z.from section < R.e a who
    inside : R.e b who ≤ Z.to section
    number : waited_to j b + R.e a who ≡ R.e b who
    still : (l : ℕ) → J.key j < J.key l → l ≢ who → R.e b l ≡ R.e a l
    all-to : (s : ℕ) → s < b → waits_at j s ≡ true → R.pick s ≡ Some who

  abbrev Delay : ℕ → ℕ → ℕ → Type 0
  Delay j a b = Undisturbed j a b ⊎ Delayed j a b

  goes_says : (j : ℕ) (o : Option ℕ)
      → Says ((x : ℕ) × (o ≡ Some x) × (J.key j < J.key x)) ((x : ℕ) → o ≡ Some x → J.key x ≤ J.key j) (goes_after j o)
  goes_says j None = not_so (λ x q. idle_not q)
  goes_says j (Some x) =
      says_map
      (λ l. (x, refl, l))
      (λ l y q. let e : x ≡ y = cc in omega (arith, ap J.key e))
      (lt_says (J.key j) (J.key x))

  waits_says : (j k : ℕ)
      → Says
      (Pending J k (R.e k) j × ((x : ℕ) × (R.pick k ≡ Some x) × (J.key j < J.key x)))
      ((Pending J k (R.e k) j → ⊥) ⊎ ((x : ℕ) → R.pick k ≡ Some x → J.key x ≤ J.key j))
      (waits_at j k)
  waits_says j k = says_and (pend_says J k (R.e k) j) (goes_says j (R.pick k))

  -- what a tick adds to the count
  one_more : (j b : ℕ) → waits_at j b ≡ true → waited_to j (suc b) ≡ suc (waited_to j b)
  unfolding count
  one_more j b e = rw e (omega arith)

  no_more : (j b : ℕ) → waits_at j b ≡ false → waited_to j (suc b) ≡ waited_to j b
  unfolding count
  no_more j b e = rw e (omega arith)

  module _ (nested : Nested Z) where
    module _ (j a b : ℕ) (p : Pending J b (R.e b) j) where
      -- no later job runs
      rests : waits_at j b ≡ false → ((l : ℕ) → J.key j < J.key l → R.pick b ≢ Some l) → Delay j a b → Delay j a (suc b)
      rests w n (inl u) =
          inl (record {
            quiet = below_suc (λ s. waits_at j s ≡ false) b u.quiet w;
            still = λ l h. others_same J R (n l h) ∙ u.still l h;
          })
      rests w n (inr u) =
          let same : R.e (suc b) u.who ≡ R.e b u.who = others_same J R (n u.who u.blocker.behind) in
          inr (record {
            who = u.who;
            blocker = u.blocker;
            section = u.section;
            owns = u.owns;
            entered = u.entered;
            inside = omega (arith, u.inside);
            number = omega (arith, u.number, no_more j b w);
            still = λ l h m. others_same J R (n l h) ∙ u.still l h m;
            all-to = below_suc (λ s. waits_at j s ≡ true → R.pick s ≡ Some u.who) b u.all-to (λ t. clash t w);
          })

      -- a later job x runs, by rule 4
      module _ (x : ℕ) (c : R.pick b ≡ Some x) (l : J.key j < J.key x) (d : Detained J Z C b (R.e b) x) where
        counted : waited_to j (suc b) ≡ suc (waited_to j b)
        counted = one_more j b (yes_of (waits_says j b) (⊎_elim (λ n. n p) (λ n. omega (arith, n x c))))

        -- the first pending job is j or comes before it
        ahead : J.key d.waiting ≤ J.key j
        ahead =
            elim (ℕ_discrete j d.waiting) [
              | yes q ↦ omega (arith, ap J.key q)
              | no q ↦ omega (arith, d.head.leads j p q)
            ]

        holds-one : Within b x
        holds-one = blocker_holds b x d (omega (arith, ahead))

        same : (i : ℕ) → i ≢ x → R.e (suc b) i ≡ R.e b i
        same i n = others_same J R (λ q. n (let y : x ≡ i = cc (c, q) in sym y))

        -- it becomes the one that holds j up
        begins : Undisturbed j a b → Delayed j a (suc b)
        begins u =
            let h = holds-one in
            let e : R.e b x ≡ R.e a x = u.still x l in
            record {
              who = x;
              blocker = record {
                behind = l;
                clearing = λ q. rw (← as_before q) (clear J Z C R rules b x d.lead.begun d.lead.ready.unfinished q);
                nearest = λ i g n s f.
                    let o : R.e b i ≡ R.e a i = u.still i g in
                    d.lead.leads i (started-pending J Z C R rules (omega arith) (omega arith)) (omega arith) n;
              };
              section = h.section;
              owns = h.owns;
              entered = omega (arith, h.entered);
              inside = omega (arith, h.leaves, chosen_up J R c);
              number = omega (arith, counted, count_none (waits_at j) b u.quiet, chosen_up J R c);
              still = λ i g n. same i n ∙ u.still i g;
              all-to = below_suc (λ s. waits_at j s ≡ true → R.pick s ≡ Some x) b (λ s g t. clash t (u.quiet s g)) (λ t. c);
            }
          where
            as_before : (q : ℕ) → held Z (after J x) (R.e b) q ≡ held Z (after J x) (R.e a) q
            as_before q =
                held_same Z (after J x) (after J x) (R.e b) (R.e a) q
                (λ s h. hold_on Z (sym (u.still (Z.owner s) (omega (arith, after_is J h.who)))) h.who h)
                (λ s h. hold_on Z (u.still (Z.owner s) (omega (arith, after_is J h.who))) h.who h)

        -- the section that it is in still covers the tick, or the one that it is in encloses it
        goes_on : (u : Delayed j a b) → u.who ≡ x → Delayed j a (suc b)
        goes_on u q =
            let y : R.e b u.who ≡ R.e b x = ap (R.e b) q in
            let z : R.e (suc b) u.who ≡ R.e (suc b) x = ap (R.e (suc b)) q in
            let on : (s : ℕ) → Z.owner s ≡ u.who → Z.from s < R.e a u.who → R.e b u.who < Z.to s → Delayed j a (suc b)
            = λ s o f t. record {
              who = u.who;
              blocker = u.blocker;
              section = s;
              owns = o;
              entered = f;
              inside = omega (arith, chosen_up J R c);
              number = omega (arith, u.number, counted, chosen_up J R c);
              still = λ i g n. same i (λ r. n (r ∙ sym q)) ∙ u.still i g n;
              all-to = below_suc (λ s. waits_at j s ≡ true → R.pick s ≡ Some u.who) b u.all-to (λ t. c ∙ ap Some (sym q));
            } in
            let h = holds-one in
            elim (dec_lt (R.e b u.who) (Z.to u.section)) [
              | yes t ↦ on u.section u.owns u.entered t
              | no t ↦
                  ⊎_elim
                  (λ n. on h.section (h.owns ∙ sym q) (omega (arith, n.0, u.entered)) (omega (arith, h.leaves)))
                  (λ n. absurd (omega (arith, n.1, h.leaves, u.inside)))
                  (nested u.section h.section (u.owns ∙ (q ∙ sym h.owns))
                  (omega (arith, u.entered, u.number, h.leaves))
                  (omega (arith, u.inside, h.entered)))
            ]

        -- no second job later than j runs: the first has finished by then, and what is held is what jobs later than it held
        -- at tick a, which it cleared, and so does the first pending job
        no_second : (u : Delayed j a b) → u.who ≢ x → ⊥
        no_second u n =
            d.stuck
            (C.lower
            (level d.head.ready (omega (arith, ahead, u.blocker.behind)) begun
            (in_table J (omega (arith, begun, within J R b u.who))))
            (rw held_now at (u.blocker.clearing d.on)))
          where
            x_before : R.e b x ≡ R.e a x
            x_before = u.still x l (λ q. n (sym q))

            nearer : J.key u.who < J.key x
            nearer =
                u.blocker.nearest x l (λ q. n (sym q))
                (omega (arith, x_before, d.lead.begun)) (omega (arith, x_before, d.lead.ready.unfinished))

            begun : 0 < R.e b u.who
            begun = omega (arith, u.entered, u.number)

            ended : J.cost u.who ≤ R.e b u.who
            ended =
                elim (dec_le (J.cost u.who) (R.e b u.who)) [
                  | yes f ↦ f
                  | no f ↦
                      absurd
                      (omega (arith, nearer, d.lead.leads u.who (started-pending J Z C R rules begun (omega arith)) begun n))
                ]

            held_now : held Z (after J u.who) (R.e a) d.on ≡ held Z (pend J b (R.e b)) (R.e b) d.on
            held_now =
                held_same Z (after J u.who) (pend J b (R.e b)) (R.e a) (R.e b) d.on
                (λ s h. then s h (u.still (Z.owner s) (omega (arith, after_is J h.who, u.blocker.behind)) (apart_from s h)))
                (λ s h. now s h (λ q.
                omega (arith, ended, (holder_pending J Z C R rules h.holding).unfinished, ap (R.e b) q, ap J.cost q)))
              where
                apart_from : (s : ℕ) → HoldsOn Z (after J u.who) (R.e a) d.on s → Z.owner s ≢ u.who
                apart_from s h q = omega (arith, after_is J h.who, ap J.key q)

                then : (s : ℕ) → HoldsOn Z (after J u.who) (R.e a) d.on s → R.e b (Z.owner s) ≡ R.e a (Z.owner s)
                    → HoldsOn Z (pend J b (R.e b)) (R.e b) d.on s
                then s h e =
                    let g : HoldsOn Z (after J u.who) (R.e b) d.on s = hold_on Z e h.who h in
                    held-pending J Z C R rules g

                now : (s : ℕ) → HoldsOn Z (pend J b (R.e b)) (R.e b) d.on s → Z.owner s ≢ u.who
                    → HoldsOn Z (after J u.who) (R.e a) d.on s
                now s h m =
                    let p = holder_pending J Z C R rules h.holding in
                    let f : J.key x ≤ J.key (Z.owner s)
                    = elim (ℕ_discrete (Z.owner s) x) [
                      | yes q ↦ omega (arith, ap J.key q)
                      | no q ↦ omega (arith, d.lead.leads (Z.owner s) p (omega (arith, h.holding.entered)) q)
                    ] in
                    let e : R.e b (Z.owner s) ≡ R.e a (Z.owner s) = u.still (Z.owner s) (omega arith) m in
                    hold_on Z (sym e) (after_yes J (omega (arith, nearer))) h

      -- one tick keeps the relation, while j is pending
      delay_step : Delay j a b → Delay j a (suc b)
      delay_step h = go (goes_says j (R.pick b)) h
        where
          runs_later : (x : ℕ) → R.pick b ≡ Some x → J.key j < J.key x → Delay j a b → Delay j a (suc b)
          runs_later x c l = by (rule_of J Z C R rules c)
            where
              by : ByRules J Z C b (R.e b) (Some x) → Delay j a b → Delay j a (suc b)
              by (resumes f s) u = absurd (omega (arith, f.leads j p (λ q. omega (arith, ap J.key q))))
              by (opens f z t) u = absurd (omega (arith, f.leads j p (λ q. omega (arith, ap J.key q))))
              by (detains d) (inl u) = inr (begins x c l d u)
              by (detains d) (inr u) =
                  elim (ℕ_discrete u.who x) [
                    | yes q ↦ inr (goes_on x c l d u q)
                    | no q ↦ absurd (no_second x c l d u q)
                  ]

          go : {o : Bool}
              → Says
              ((x : ℕ) × (R.pick b ≡ Some x) × (J.key j < J.key x))
              ((x : ℕ) → R.pick b ≡ Some x → J.key x ≤ J.key j)
              o
              → Delay j a b → Delay j a (suc b)
          go (so w) u = runs_later w.0 w.1 w.2 u
          go (not_so n) u =
              rests
              (no_of (waits_says j b) (λ w. omega (arith, n w.1.0 w.1.1, w.1.2)))
              (λ l g q. omega (arith, n l q))
              u

    -- from the release on, while j is unfinished
    delay : (j b : ℕ) → J.release j ≤ b → R.e b j < J.cost j → Delay j (J.release j) b
    delay j zero r l = inl (record { quiet = λ s h. absurd (omega arith); still = λ i h. ap (λ t. R.e t i) (omega arith) })
    delay j (suc b) r l =
        elim (ℕ_discrete (J.release j) (suc b)) [
          | yes q ↦
              inl (record {
                quiet = λ s h. no_of (waits_says j s) (λ w. omega (arith, w.0.released));
                still = λ i h. ap (λ t. R.e t i) (sym q);
              })
          | no q ↦
              (let f : R.e b j < J.cost j = omega (arith, grows J (R.frame b) j) in
              delay_step j (J.release j) b (record { released = omega arith; unfinished = f }) (delay j b (omega arith) f))
        ]

    -- ---- the bound

    -- What job j waited before tick b: not at all; or all ticks in which it waits go to the owner of one section, a later job,
    -- and are fewer than that section's.
    pub data Waited (j b : ℕ) : Type 0 where
      never : waited_to j b ≡ 0 → ((s : ℕ) → s < b → waits_at j s ≡ false) → Waited j b
      by : (section : ℕ) → j < J.count → J.key j < J.key (Z.owner section)
          → waited_to j b + Z.from section < Z.to section
          → ((s : ℕ) → s < b → waits_at j s ≡ true → R.pick s ≡ Some (Z.owner section)) → Waited j b

    told : {j a b : ℕ} → j < J.count → Delay j a b → Waited j b
    told {j} {a} {b} l (inl u) = never (count_none (waits_at j) b u.quiet) u.quiet
    told l (inr u) =
        by u.section l
        (rw u.owns u.blocker.behind)
        (omega (arith, u.entered, u.inside, u.number))
        (rw u.owns u.all-to)

    pub waited_says : (j b : ℕ) → Waited j b
    unfolding count
    waited_says j zero = never refl (λ s l. absurd (omega arith))
    waited_says j (suc b) = go (pend_says J b (R.e b) j) (waited_says j b)
      where
        skip : waits_at j b ≡ false → Waited j b → Waited j (suc b)
        skip w (never z q) = never (no_more j b w ∙ z) (below_suc (λ s. waits_at j s ≡ false) b q w)
        skip w (by s i l n t) =
            by s i l
            (omega (arith, no_more j b w))
            (below_suc (λ i. waits_at j i ≡ true → R.pick i ≡ Some (Z.owner s)) b t (λ h. clash h w))

        go : {c : Bool} → Says (Pending J b (R.e b) j) (Pending J b (R.e b) j → ⊥) c → Waited j b → Waited j (suc b)
        go (so p) u = told (pending_in J p) (delay_step j (J.release j) b p (delay j b p.released p.unfinished))
        go (not_so n) u = skip (no_of (waits_says j b) (λ w. n w.0)) u
