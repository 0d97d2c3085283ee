-- The sums of the density test as the code makes them: the shares and the ceilings once, in arrays; then for each job the sum
-- of the shares up to its place, and b by one pass over the sections.
use Rattle.std.specs.Prelude.{◌≡◌, Bool, true, false, cond, not, ◌&&◌, List, ℕ, ◌+◌, ◌*◌, ◌/◌, ◌≤◌, ◌<◌, min, max, length, get_or, set, replicate, ltb, leb, eqb, Option}
use Rattle.std.proofs.Math.Path.{refl}
use Rattle.std.proofs.Common.{sym, ◌∙◌, mul-le-mul, div-le_self, le_trans, add-one, arith, length-set, get_or-set_same, get_or-set_other, below_none, below_more, eq-eqb, ne_eqb, le-leb, lt-ltb, le-ltb}
use Rattle.std.proofs.Math.Decide.{ℕ_discrete}
use Rattle.std.proofs.lemmas.List.{get_or-replicate}
use Rattle.std.proofs.lemmas.Bool.{lt-leb}
use Rattle.rules.specs.Rows.{sum, smallest, largest}
use Rattle.rules.specs.Table.{Plan, resources, most_jobs, most_cost, latest, job_count, cost, section_count, owner, resource, from, to, ticks_of, span}
use Rattle.rules.specs.Tick.{ceiling}
use Rattle.rules.specs.Density.{sorts_before, ceiling_within, blocking, fails, most_multiple}
use Rattle.laws.specs.Tests.{le_says, eq_says, yes_says, no_of, says_agree}
use Rattle.laws.specs.Rows.{sum_ext, smallest_more, smallest-at, smallest_least}
use Rattle.laws.specs.Clears.{SectionOn, CeilingOf, no_section, smallest-span, ceiling_of}

-- ---- what the sums are made from, within its bounds

-- jobs are few, and each has its times
pub record Timed (p : Plan) : Type 0 where
  pub few : job_count p.table ≤ most_jobs
  pub pairs : 2 * job_count p.table ≤ length p.times

-- every job has its times, and a relative deadline above 0
pub record SpansIn (p : Plan) : Type 0 where
  pub pairs : 2 * job_count p.table ≤ length p.times
  pub above : (j : ℕ) → j < job_count p.table → 0 < span p j

-- jobs are few, and spans and costs within their bounds
pub record JobsIn (p : Plan) : Type 0 where
  pub few : job_count p.table ≤ most_jobs
  pub spans : SpansIn p
  pub most : (j : ℕ) → j < job_count p.table → span p j ≤ latest
  pub costs : (j : ℕ) → j < job_count p.table → cost p.table j ≤ most_cost

pub timed : (p : Plan) → JobsIn p → Timed p
timed p J = record { few = J.few; pairs = J.spans.pairs }

-- section s names a job and a resource, and is no longer than a cost
pub record SectionAt (p : Plan) (s : ℕ) : Type 0 where
  pub listed : s < section_count p.table
  pub owner_in : 2 * owner p.table s + 1 < length p.times
  pub resource_in : resource p.table s < resources
  pub begins : from p.table s ≤ to p.table s
  pub short : to p.table s ≤ most_cost

-- so it is of every section
abbrev pub SectionsIn : Plan → Type 0
SectionsIn p = (s : ℕ) → s < section_count p.table → SectionAt p s

-- ---- shares

-- the most that a share of the multiple can be
abbrev pub most_share : ℕ
most_share = 100_000_000_000_000

pub share_of : (m d c x y : ℕ) → x ≡ m / d → y ≡ c → m ≤ most_multiple → c ≤ most_cost → (x * y ≡ m / d * c) × (x * y ≤ most_share)
share_of m d c x y e f h k =
    (rw (e, f), rw (e, f) (mul-le-mul {n₂ = most_multiple} {m₂ = most_cost} (le_trans (div-le_self m d) h) k))

-- an array of which the first n are as small as shares
pub record SharesIn (n : ℕ) (shares : List ℕ) : Type 0 where
  pub size : length shares ≡ most_jobs
  pub most : (i : ℕ) → i < n → get_or shares i 0 ≤ most_share

-- an array of the shares of the first n jobs
pub record Shares (p : Plan) (m n : ℕ) (shares : List ℕ) : Type 0 where
  pub within : SharesIn n shares
  pub at : (i : ℕ) → i < n → get_or shares i 0 ≡ m / span p i * cost p.table i

pub shares_none : (p : Plan) (m : ℕ) → Shares p m 0 (replicate most_jobs 0)
shares_none p m = record { within = record { size = refl; most = below_none _ }; at = below_none _ }

pub shares_more : (p : Plan) (m i : ℕ) (shares : List ℕ) (x : ℕ) → Shares p m i shares → i < most_jobs
    → x ≡ m / span p i * cost p.table i → x ≤ most_share → Shares p m (i + 1) (set shares i x)
shares_more p m i shares x S h e l =
    let same = get_or-set_same shares i x 0 (omega (arith, S.within.size)) in
    record {
      within = record {
        size = rw length-set S.within.size;
        most = below_more _ _ (λ k q. rw (get_or-set_other shares i k x 0 (omega arith)) (S.within.most k q)) (rw same l);
      };
      at = below_more _ _ (λ k q. get_or-set_other shares i k x 0 (omega arith) ∙ S.at k q) (same ∙ e);
    }

-- ---- the sum over the first places

-- what job i adds at the place of job j, of these shares: nothing where it stands after j
abbrev pub up_to : Plan → ℕ → (ℕ → ℕ) → ℕ → ℕ
up_to p j f i = cond (not (sorts_before p j i)) (f i) 0

-- what job i adds to the sum at the place of job j
abbrev pub adds : Plan → ℕ → ℕ → ℕ → ℕ
adds p m j i = up_to p j (λ i. m / span p i * cost p.table i) i

-- the sum of the shares is that of the rules
pub shares_sum : (p : Plan) (m j n : ℕ) (shares : List ℕ) (total : ℕ) → Shares p m n shares
    → total ≡ sum (up_to p j (λ i. get_or shares i 0)) n → total ≡ sum (adds p m j) n
shares_sum p m j n shares total S e = e ∙ sum_ext (up_to p j (λ i. get_or shares i 0)) (adds p m j) n (λ i l. rw (S.at i l))

-- ---- ceilings

-- above every span: the ceiling of a resource that has no section
abbrev pub no_ceiling : ℕ
no_ceiling = 1_000_001

-- the smallest span of the jobs with one of the first n sections on q
abbrev pub ceiling_to : Plan → ℕ → ℕ → ℕ
ceiling_to p n q = smallest (λ s. eqb (resource p.table s) q) (λ s. span p (owner p.table s)) no_ceiling n

-- an array of it for each resource
pub record Ceilings (p : Plan) (n : ℕ) (ceilings : List ℕ) : Type 0 where
  pub size : length ceilings ≡ resources
  pub at : (q : ℕ) → q < resources → get_or ceilings q 0 ≡ ceiling_to p n q

pub ceilings_none : (p : Plan) → Ceilings p 0 (replicate resources no_ceiling)
unfolding smallest
ceilings_none p = record { size = refl; at = λ q l. get_or-replicate resources q no_ceiling 0 l }

-- the next section lowers the ceiling of its resource, or leaves it
pub ceilings_more : (p : Plan) (s : ℕ) (ceilings : List ℕ) (q x v : ℕ) → Ceilings p s ceilings → q ≡ resource p.table s → q < resources
    → x ≡ span p (owner p.table s) → v ≡ min x (get_or ceilings q 0) → Ceilings p (s + 1) (set ceilings q v)
ceilings_more p s ceilings q x v C e h y z = record { size = rw length-set C.size; at = λ k l. go k l (ℕ_discrete k q) }
  where
    go : (k : ℕ) → k < resources → Dec (k ≡ q) → get_or (set ceilings q v) k 0 ≡ ceiling_to p (s + 1) k
    go k l (yes i) =
        rw (i, get_or-set_same ceilings q v 0 (omega (arith, C.size)), smallest_more, ← e, eq-eqb q q refl, ← y, ← C.at q h) (omega (arith, z))
    go k l (no n) = rw (get_or-set_other ceilings q k v 0 n, smallest_more, ← e, ne_eqb q k (λ i. n (sym i))) (C.at k l)

-- of a span d, it says whether the ceiling is at most d
ceiling-within : (p : Plan) (d q : ℕ) → d ≤ latest → leb (ceiling_to p (section_count p.table) q) d ≡ ceiling_within (ceiling p q) d
ceiling-within p d q h = go (ceiling_of p q)
  where
    -- what no section on q is at most, the ceiling is not
    above : ((s : ℕ) → SectionOn p q s → d < span p (owner p.table s)) → d < ceiling_to p (section_count p.table) q
    above f =
        smallest_least _ _ _ _ _ (omega arith) (λ s l e. f s (record { listed = l; on = yes_says (eq_says (resource p.table s) q) e }))

    go : {o : Option ℕ} → CeilingOf p q o → leb (ceiling_to p (section_count p.table) q) d ≡ ceiling_within o d
    go (no_section n) = no_of (le_says (ceiling_to p (section_count p.table) q) d) (λ l. omega (arith, above (λ s g. absurd (n s g))))
    go (smallest-span s g least) =
        says_agree
        (le_says (ceiling_to p (section_count p.table) q) d)
        (le_says (span p (owner p.table s)) d)
        (λ a b. omega (arith, above (λ k i. omega (arith, least k i))))
        (λ a b. omega (
          arith,
          smallest-at
              (λ s. eqb (resource p.table s) q)
              (λ s. span p (owner p.table s))
              no_ceiling
              (section_count p.table)
              s
              g.listed
              (eq-eqb (resource p.table s) q g.on),
        ))

-- ---- the longest section

-- section s counts for b at a relative deadline d
abbrev pub counts : Plan → ℕ → ℕ → Bool
counts p d s = ltb d (span p (owner p.table s)) && ceiling_within (ceiling p (resource p.table s)) d

-- the length of section s, where it counts against a job of span d
abbrev pub ticks_for : Plan → ℕ → ℕ → ℕ
ticks_for p d s = cond (counts p d s) (ticks_of p.table s) 0

-- the longest of the first n sections that count
abbrev pub blocking_at : Plan → ℕ → ℕ → ℕ
blocking_at p d n = largest (counts p d) (ticks_of p.table) 0 n

-- one law for each way out, of a section of t ticks

module _ (p : Plan) (d s b t : ℕ) (z : t ≡ ticks_of p.table s) where
  pub longer_short : t ≤ b → b ≡ max b (ticks_for p d s)
  longer_short h = rw (← z) (go (counts p d s))
    where
      go : (c : Bool) → b ≡ max b (cond c t 0)
      go true = omega arith
      go false = omega arith

  module _ (x : ℕ) (y : x ≡ span p (owner p.table s)) where
    pub longer_lower : x ≤ d → b ≡ max b (ticks_for p d s)
    longer_lower f = rw (← y, le-ltb d x f) (omega arith)

    module _ (ceilings : List ℕ) (C : Ceilings p (section_count p.table) ceilings) (h : d ≤ latest) (q : ℕ) (e : q ≡ resource p.table s)
        (l : q < resources) (f : d < x) where
      counted : (c : Bool) → leb (get_or ceilings q 0) d ≡ c → counts p d s ≡ c
      counted c g = rw (← y, lt-ltb d x f, ← e, ← ceiling-within p d q h, ← C.at q l) g

      pub longer_clear : d < get_or ceilings q 0 → b ≡ max b (ticks_for p d s)
      longer_clear g = rw (counted false (lt-leb (get_or ceilings q 0) d g)) (omega arith)

      pub longer_counts : get_or ceilings q 0 ≤ d → b < t → t ≡ max b (ticks_for p d s)
      longer_counts g k = rw (counted true (le-leb (get_or ceilings q 0) d g), ← z) (omega arith)

pub blocking_more : (p : Plan) (d n b r : ℕ) → b ≡ blocking_at p d n → r ≡ max b (ticks_for p d n) → r ≡ blocking_at p d (n + 1)
unfolding largest
blocking_more p d n b r e f = rw (f, add-one n, e) (go (counts p d n))
  where
    go : (c : Bool) → max (blocking_at p d n) (cond c (ticks_of p.table n) 0)
        ≡ cond c (max (blocking_at p d n) (ticks_of p.table n)) (blocking_at p d n)
    go true = refl
    go false = omega arith

-- ---- the whole sum

pub fails_are : (p : Plan) (m j d b total share x : ℕ) → d ≡ span p j → b ≡ blocking_at p d (section_count p.table)
    → total ≡ sum (adds p m j) (job_count p.table) → share ≡ m / d * b → x ≡ m → ltb x (total + share) ≡ fails p m j
unfolding fails blocking
fails_are p m j d b total share x e f g h i = rw (i, g, h, f, e)
