-- Runs as functions of the tick, under any choice that runs a job exactly if one is pending, runs a pending job, and starts
-- only the first pending one: what stays true from tick to tick, and what follows on ancestors, idling and ends.
use Rattle.std.specs.Prelude.{◌≡◌, refl, ◌≢◌, true, ℕ, zero, suc, ◌+◌, ◌≤◌, ◌<◌, Option, None, Some}
use Rattle.std.proofs.Common.{ap, arith}
use Rattle.std.proofs.Math.Decide.{ℕ_discrete, dec_lt, dec_le}
use Rattle.rules.specs.Rows.{sum, largest}
use Rattle.laws.specs.Rows.{sum_grows, sum_lt, largest-at}

-- ---- jobs, choices, runs

-- Jobs: any number of them, any costs, any releases; the order is that of one number, the key.
pub record Jobs : Type 0 where
  pub count : ℕ
  pub cost : ℕ → ℕ
  pub release : ℕ → ℕ
  pub key : ℕ → ℕ
  -- what is no job has no cost
  pub outside : (j : ℕ) → count ≤ j → cost j ≡ 0
  -- no two jobs have one place in the order
  pub apart : (i j : ℕ) → i < count → j < count → key i ≡ key j → i ≡ j

-- an idle tick is nobody's
pub idle_not : {A : Type 0} {x : ℕ} → ◌≡◌ {A = Option ℕ} None (Some x) → A
idle_not e = let z : ◌≡◌ {A = ℕ} 0 1 = cc in absurd (omega arith)

module _ (J : Jobs) where
  -- Executed ticks are a function e of the job, here at the tick t.
  pub record Pending (t : ℕ) (e : ℕ → ℕ) (j : ℕ) : Type 0 where
    pub released : J.release j ≤ t
    pub unfinished : e j < J.cost j

  -- the first pending job
  pub record First (t : ℕ) (e : ℕ → ℕ) (x : ℕ) : Type 0 where
    pub ready : Pending t e x
    pub leads : (g : ℕ) → Pending t e g → g ≢ x → J.key x < J.key g

  -- A choice of the class: idle exactly if no job is pending; what runs is pending, and if it isn't started, the first pending.
  pub data Choice (t : ℕ) (e : ℕ → ℕ) : Option ℕ → Type 0 where
    idles : ((j : ℕ) → Pending t e j → ⊥) → Choice t e None
    runs : {x : ℕ} → Pending t e x → (e x ≡ 0 → First t e x) → Choice t e (Some x)

  -- What a tick does to the executed ticks: it raises those of the chosen job by one.
  pub data Frame (e e' : ℕ → ℕ) : Option ℕ → Type 0 where
    stays : ((j : ℕ) → e' j ≡ e j) → Frame e e' None
    moves : {x : ℕ} → e' x ≡ suc (e x) → ((j : ℕ) → j ≢ x → e' j ≡ e j) → Frame e e' (Some x)

  -- A run from tick 0: at each tick the executed ticks before it, and the choice.
  pub record Run : Type 0 where
    pub e : ℕ → ℕ → ℕ
    pub pick : ℕ → Option ℕ
    pub starts : (j : ℕ) → e 0 j ≡ 0
    pub frame : (k : ℕ) → Frame (e k) (e (suc k)) (pick k)
    pub choice : (k : ℕ) → Choice k (e k) (pick k)

  -- the largest modified release
  abbrev pub last_release : ℕ
  last_release = largest (λ j. true) J.release 0 J.count

  -- ---- one tick

  -- a job with a cost is in the table
  pub in_table : {j : ℕ} → 0 < J.cost j → j < J.count
  in_table {j} c = elim (dec_lt j J.count) [ yes l ↦ l | no l ↦ absurd (omega (arith, J.outside j (omega arith))) ]

  pub pending_in : {t : ℕ} {e : ℕ → ℕ} {j : ℕ} → Pending t e j → j < J.count
  pending_in p = in_table (omega (arith, p.unfinished))

  pub grows : {e e' : ℕ → ℕ} {o : Option ℕ} → Frame e e' o → (j : ℕ) → e j ≤ e' j
  grows (stays h) j = omega (arith, h j)
  grows (moves {x = x} up same) j =
      elim (ℕ_discrete j x) [ yes q ↦ rw q (omega arith) | no q ↦ omega (arith, same j q) ]

  -- executed ticks are at most the cost
  within_step : {t : ℕ} {e e' : ℕ → ℕ} {o : Option ℕ} → Choice t e o → Frame e e' o → ((j : ℕ) → e j ≤ J.cost j)
      → (j : ℕ) → e' j ≤ J.cost j
  within_step (idles n) (stays h) b j = omega (arith, h j, b j)
  within_step (runs {x = x} p f) (moves up same) b j =
      elim (ℕ_discrete j x) [ yes q ↦ rw q (omega (arith, p.unfinished)) | no q ↦ omega (arith, same j q, b j) ]

  -- a started job is released
  released_step : {t : ℕ} {e e' : ℕ → ℕ} {o : Option ℕ} → Choice t e o → Frame e e' o
      → ((j : ℕ) → 0 < e j → J.release j ≤ t) → (j : ℕ) → 0 < e' j → J.release j ≤ suc t
  released_step (idles n) (stays h) s j l = omega (arith, s j (omega (arith, h j)))
  released_step (runs {x = x} p f) (moves up same) s j l =
      elim (ℕ_discrete j x) [ yes q ↦ rw q (omega (arith, p.released)) | no q ↦ omega (arith, s j (omega (arith, same j q))) ]

  -- Quasi-normality of a state (003, definition 3.3): where k has started, what is released no later than k and comes before
  -- k in the order has finished.
  abbrev pub Quasi : (ℕ → ℕ) → Type 0
  Quasi e = (i k : ℕ) → J.key i < J.key k → J.release i ≤ J.release k → 0 < e k → J.cost i ≤ e i

  first_alone : {t : ℕ} {e : ℕ → ℕ} {i x : ℕ} → First t e x → J.key i < J.key x → J.release i ≤ J.release x
      → J.cost i ≤ e i
  first_alone {t} {e} {i} {x} f b r =
      elim (dec_le (J.cost i) (e i)) [
        | yes l ↦ l
        | no l ↦
            (let p : Pending t e i = record { released = omega (arith, f.ready.released); unfinished = omega arith } in
            absurd (omega (arith, f.leads i p (λ q. omega (arith, ap J.key q)))))
      ]

  quasi_step : {t : ℕ} {e e' : ℕ → ℕ} {o : Option ℕ} → Choice t e o → Frame e e' o → Quasi e → Quasi e'
  quasi_step (idles n) (stays h) q i k b r l = omega (arith, h i, q i k b r (omega (arith, h k)))
  quasi_step {e = e} (runs {x = x} p f) (moves up same) q i k b r l =
      elim (dec_lt 0 (e k)) [
        | yes s ↦ omega (arith, q i k b r s, grows (moves up same) i)
        | no s ↦
            elim (ℕ_discrete k x) [
              | yes y ↦ omega (arith, grows (moves up same) i, first_alone (f (omega (arith, ap e y))) (rw y at b) (rw y at r))
              | no y ↦ absurd (omega (arith, same k y))
            ]
      ]

  -- ---- a run

  module _ (R : Run) where
    -- what was chosen was pending, and the tick was its
    pub chosen-pending : {k x : ℕ} → R.pick k ≡ Some x → Pending k (R.e k) x
    chosen-pending {k} {x} c = go (rw c at (R.choice k))
      where
        go : Choice k (R.e k) (Some x) → Pending k (R.e k) x
        go (runs p f) = p

    pub chosen-first : {k x : ℕ} → R.pick k ≡ Some x → R.e k x ≡ 0 → First k (R.e k) x
    chosen-first {k} {x} c = go (rw c at (R.choice k))
      where
        go : Choice k (R.e k) (Some x) → R.e k x ≡ 0 → First k (R.e k) x
        go (runs p f) = f

    pub chosen_up : {k x : ℕ} → R.pick k ≡ Some x → R.e (suc k) x ≡ suc (R.e k x)
    chosen_up {k} {x} c = go (rw c at (R.frame k))
      where
        go : Frame (R.e k) (R.e (suc k)) (Some x) → R.e (suc k) x ≡ suc (R.e k x)
        go (moves up same) = up

    -- nothing else changes
    pub others_same : {k j : ℕ} → R.pick k ≢ Some j → R.e (suc k) j ≡ R.e k j
    others_same {k} {j} n = go (R.pick k) refl (R.frame k)
      where
        go : (o : Option ℕ) → R.pick k ≡ o → Frame (R.e k) (R.e (suc k)) o → R.e (suc k) j ≡ R.e k j
        go None c (stays h) = h j
        go (Some x) c (moves up same) = same j (λ q. n (rw (← q) at c))

    -- whose count rose was chosen
    pub raised-chosen : {k j : ℕ} → R.e k j < R.e (suc k) j → R.pick k ≡ Some j
    raised-chosen {k} {j} l = go (R.pick k) refl (R.frame k)
      where
        go : (o : Option ℕ) → R.pick k ≡ o → Frame (R.e k) (R.e (suc k)) o → R.pick k ≡ Some j
        go None c (stays h) = absurd (omega (arith, h j))
        go (Some x) c (moves up same) = elim (ℕ_discrete j x) [ yes q ↦ rw q c | no q ↦ absurd (omega (arith, same j q)) ]

    pub grows_to : (k n j : ℕ) → k ≤ n → R.e k j ≤ R.e n j
    grows_to k zero j l = rw (let q : k ≡ 0 = omega arith in q) (omega arith)
    grows_to k (suc n) j l =
        elim (ℕ_discrete k (suc n)) [
          | yes q ↦ rw q (omega arith)
          | no q ↦ omega (arith, grows_to k n j (omega arith), grows (R.frame n) j)
        ]

    pub within : (k j : ℕ) → R.e k j ≤ J.cost j
    within zero j = omega (arith, R.starts j)
    within (suc k) j = within_step (R.choice k) (R.frame k) (within k) j

    pub started_released : (k j : ℕ) → 0 < R.e k j → J.release j ≤ k
    started_released zero j l = absurd (omega (arith, R.starts j))
    started_released (suc k) j l = released_step (R.choice k) (R.frame k) (started_released k) j l

    pub quasi : (k : ℕ) → Quasi (R.e k)
    quasi zero i j b r l = absurd (omega (arith, R.starts j))
    quasi (suc k) i j b r l = quasi_step (R.choice k) (R.frame k) (quasi k) i j b r l

    -- Quasi-normality of the whole schedule (003, definition 3.3): where a tick of j comes before a tick of i, and i is
    -- released no later than j, then j comes no later in the order.
    pub quasi_normal : (m n i j : ℕ) → m < n → R.pick m ≡ Some j → R.pick n ≡ Some i → J.release i ≤ J.release j
        → J.key j ≤ J.key i
    quasi_normal m n i j l cj ci r =
        elim (dec_le (J.key j) (J.key i)) [
          | yes h ↦ h
          | no h ↦
              absurd (omega (
                arith,
                quasi (suc m) i j (omega arith) r (omega (arith, chosen_up cj)),
                grows_to (suc m) n i l,
                (chosen-pending ci).unfinished,
              ))
        ]

    -- What comes before the chosen job and is released no later has finished.
    pub earlier_finished : (k i x : ℕ) → R.pick k ≡ Some x → J.key i < J.key x → J.release i ≤ J.release x
        → J.cost i ≤ R.e k i
    earlier_finished k i x c b r =
        elim (dec_lt 0 (R.e k x)) [
          | yes l ↦ quasi k i x b r l
          | no l ↦ first_alone (chosen-first c (omega arith)) b r
        ]

    -- An idle tick leaves no job unfinished that is released.
    pub idle_none : (k : ℕ) → R.pick k ≡ None → (j : ℕ) → Pending k (R.e k) j → ⊥
    idle_none k c = go (rw c at (R.choice k))
      where
        go : Choice k (R.e k) None → (j : ℕ) → Pending k (R.e k) j → ⊥
        go (idles n) = n

    -- ---- ends

    -- while a job is unfinished, the ticks so far are at most the last release and the work done
    work : (k u : ℕ) → R.e k u < J.cost u → k ≤ last_release + sum (R.e k) J.count
    work zero u l = omega arith
    work (suc k) u l = go (R.choice k) (R.frame k) (work k u (omega (arith, grows (R.frame k) u)))
      where
        go : {o : Option ℕ} → Choice k (R.e k) o → Frame (R.e k) (R.e (suc k)) o
            → k ≤ last_release + sum (R.e k) J.count
            → suc k ≤ last_release + sum (R.e (suc k)) J.count
        go (idles n) (stays h) ih =
            elim (dec_le (J.release u) k) [
              | yes r ↦ absurd (n u (record { released = r; unfinished = omega (arith, h u) }))
              | no r ↦
                  omega (arith, largest-at (λ j. true) J.release 0 J.count u (in_table (omega arith)) refl)
            ]
        go (runs {x = x} p f) (moves up same) ih =
            omega (arith, sum_grows (R.e k) (R.e (suc k)) x J.count (pending_in p) up same)

    -- All end by the last release plus the sum of costs.
    pub unfinished_before : (k u : ℕ) → R.e k u < J.cost u
        → k < last_release + sum J.cost J.count
    unfinished_before k u l =
        omega (
          arith,
          work k u l,
          sum_lt (R.e k) J.cost J.count u (in_table (omega arith)) l (λ j b. within k j),
        )
