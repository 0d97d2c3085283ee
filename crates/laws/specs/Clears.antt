-- Ceilings: a resource's is the smallest span of the jobs with a section on it; and the laws of `clears`.
use Rattle.std.specs.Prelude.{◌≡◌, refl, ◌≢◌, ◌⊎◌, Bool, true, false, ℕ, ◌+◌, ◌≤◌, ◌<◌, ltb, Option, None, Some}
use Rattle.std.proofs.Common.{inl, inr, arith}
use Rattle.std.proofs.Math.Dec.{eqb}
use Rattle.rules.specs.Table.{Plan, State, resources, section_count, owner, resource, span}
use Rattle.rules.specs.Tick.{tightest, span_of, ceiling, below_ceiling, units, held, clears, may_start}
use Rattle.laws.specs.Tests.{
  Says,
  so,
  clash,
  lt_says,
  eq_says,
  bool_says,
  says_map,
  says_or,
  yes_says,
  no_says,
  yes_of,
  no_of,
}
use Rattle.laws.specs.Rows.{all_says}
use Rattle.laws.specs.First.{Order, FirstOf, nobody, found, first_of}

module _ (p : Plan) where
  -- job `owner s` has a section on q, and s is it
  pub record SectionOn (q s : ℕ) : Type 0 where
    pub listed : s < section_count p.table
    pub on : resource p.table s ≡ q

  -- ---- the ceiling

  -- A ceiling is the smallest span of the jobs with a section on q; there is none where nobody has one.
  pub data CeilingOf (q : ℕ) : Option ℕ → Type 0 where
    no_section : ((s : ℕ) → SectionOn q s → ⊥) → CeilingOf q None
    smallest-span : (s : ℕ) → SectionOn q s → ((k : ℕ) → SectionOn q k → span p (owner p.table s) ≤ span p (owner p.table k))
        → CeilingOf q (Some (span p (owner p.table s)))

  by_span : ℕ → ℕ → Bool
  by_span a b = ltb (span p (owner p.table a)) (span p (owner p.table b))

  span_order : Order by_span
  unfolding by_span
  span_order =
      record {
        irrefl = λ i. no_of (lt_says (span p (owner p.table i)) (span p (owner p.table i))) (λ l. omega arith);
        trans = λ i j k h g.
            let a : span p (owner p.table i) < span p (owner p.table j) = yes_says (lt_says _ _) h in
            let b : span p (owner p.table j) < span p (owner p.table k) = yes_says (lt_says _ _) g in
            yes_of (lt_says (span p (owner p.table i)) (span p (owner p.table k))) (λ l. omega arith);
      }

  pub ceiling_of : (q : ℕ) → CeilingOf q (ceiling p q)
  unfolding ceiling tightest by_span
  ceiling_of q = go (first_of by_span (λ s. eqb (resource p.table s) q) span_order (section_count p.table))
    where
      go : {o : Option ℕ} → FirstOf by_span (λ s. eqb (resource p.table s) q) (section_count p.table) o → CeilingOf q (span_of p o)
      go (nobody n) = no_section (λ s h. no_says (eq_says (resource p.table s) q) (n s h.listed) h.on)
      go (found {x} l e least) =
          smallest-span x (record { listed = l; on = yes_says (eq_says (resource p.table x) q) e }) (λ k h.
          no_says
          (lt_says (span p (owner p.table k)) (span p (owner p.table x)))
          (least k h.listed (yes_of (eq_says (resource p.table k) q) (λ n. n h.on))))

  -- d is below the span of every job with a section on q
  abbrev pub Below : ℕ → ℕ → Type 0
  Below d q = (s : ℕ) → SectionOn q s → d < span p (owner p.table s)

  -- some job with a section on q has a span of at most d
  abbrev pub Reached : ℕ → ℕ → Type 0
  Reached d q = (s : ℕ) × SectionOn q s × (span p (owner p.table s) ≤ d)

  -- "Strictly below the ceiling" is below the span of every job with a section on q.
  pub below_says : (d q : ℕ) → Says (Below d q) (Reached d q) (below_ceiling d (ceiling p q))
  below_says d q = go (ceiling_of q)
    where
      go : {o : Option ℕ} → CeilingOf q o → Says (Below d q) (Reached d q) (below_ceiling d o)
      go (no_section n) = so (λ s h. absurd (n s h))
      go (smallest-span s h least) =
          says_map (λ l k g. omega (arith, least k g)) (λ l. (s, h, l)) (lt_says d (span p (owner p.table s)))

  -- ---- clears

  -- What clears says, and what it says where it fails.
  abbrev pub Clear : ℕ → ℕ → ℕ → Type 0
  Clear d q busy = (busy ≡ 0) ⊎ Below d q

  -- something of q is held, and d is not below its ceiling
  abbrev pub Stuck : ℕ → ℕ → ℕ → Type 0
  Stuck d q busy = (busy ≢ 0) × Reached d q

  pub clears_says : (d q busy : ℕ) → Says (Clear d q busy) (Stuck d q busy) (clears p d q busy)
  unfolding clears
  clears_says d q busy = says_or (eq_says busy 0) (below_says d q)

  -- Lower: what clears at d clears below d.
  pub clears_lower : (c d q busy : ℕ) → c ≤ d → clears p d q busy ≡ true → clears p c q busy ≡ true
  clears_lower c d q busy l e = go (yes_says (clears_says d q busy) e)
    where
      go : Clear d q busy → clears p c q busy ≡ true
      go (inl z) = yes_of (clears_says c q busy) (λ n. n.0 z)
      go (inr h) = yes_of (clears_says c q busy) (λ n. omega (arith, h n.1.0 n.1.1, n.1.2))

  -- Cover: a job with a section on q, where the one unit of q does not suffice for it, does not clear q.
  pub clears_cover : (s busy : ℕ) → s < section_count p.table → 1 < busy + units p s
      → clears p (span p (owner p.table s)) (resource p.table s) busy ≡ true → ⊥
  clears_cover s busy l t e = go (yes_says (clears_says (span p (owner p.table s)) (resource p.table s) busy) e)
    where
      go : Clear (span p (owner p.table s)) (resource p.table s) busy → ⊥
      go (inl z) = omega arith
      go (inr h) = omega (arith, h s (record { listed = l; on = refl }))

  -- More: what does not clear at so many units held does not at more.
  pub clears_more : (d q busy more : ℕ) → busy ≤ more → clears p d q busy ≡ false → clears p d q more ≡ false
  clears_more d q busy more l e =
      let (n, r) = no_says (clears_says d q busy) e in
      no_of (clears_says d q more) (λ w. go w (λ z. n (omega arith)) r)
    where
      go : Clear d q more → more ≢ 0 → Reached d q → ⊥
      go (inl z) n r = n z
      go (inr h) n (s, on, u) = omega (arith, h s on)

  -- where nothing is held, everything clears
  pub clears_free : (d q : ℕ) → clears p d q 0 ≡ true
  clears_free d q = yes_of (clears_says d q 0) (λ n. n.0 refl)

  -- Resource by resource: a job may start exactly if it clears each resource at what is held of it.
  pub may_says : (st : State) (j : ℕ)
      → Says
      ((q : ℕ) → q < resources → clears p (span p j) q (held p st q) ≡ true)
      ((q : ℕ) × (q < resources) × (clears p (span p j) q (held p st q) ≡ false))
      (may_start p st j)
  unfolding may_start
  may_says st j = all_says _ _ (λ q. clears p (span p j) q (held p st q)) (λ q. bool_says (clears p (span p j) q (held p st q))) resources

  -- Who may not start may not where more is held.
  pub stuck_more : (st st' : State) (j : ℕ) → ((q : ℕ) → held p st q ≤ held p st' q) → may_start p st j ≡ false → may_start p st' j ≡ false
  stuck_more st st' j more e =
      let (q, l, c) = no_says (may_says st j) e in
      no_of (may_says st' j) (λ w. clash (w q l) (clears_more (span p j) q (held p st q) (held p st' q) (more q) c))
