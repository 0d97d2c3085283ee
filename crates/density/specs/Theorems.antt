-- What follows of the density test: its promise settles the answer; Euclid's recursion and the common multiple are what 01
-- calls them; the places are those of sorting; and the sums over the multiple say what the fractions say.
use Rattle.std.specs.Prelude.{◌≡◌, refl, ◌↔◌, Bool, true, false, not, ℕ, zero, suc, ◌+◌, ◌*◌, ◌/◌, ◌≤◌, ◌<◌, ltb, Option, None, Some, Result, Ok, Err}
use Rattle.std.proofs.Math.Path.{sym, ap}
use Rattle.std.proofs.Common.{◌∙◌, mul_assoc, arith, le-leb}
use Rattle.std.proofs.Math.Logic.{⊎_elim}
use Rattle.std.proofs.Math.Bool.{cond}
use Rattle.std.proofs.Math.Nat.{mul-le-mul_left}
use Rattle.std.proofs.Math.Decide.{dec_le}
use Rattle.rules.specs.Rows.{sum, lowest}
use Rattle.rules.specs.Table.{Plan, job_count, cost, span}
use Rattle.rules.specs.Refusals.{Outcome, refused, gives, plan_in_bounds}
use Rattle.rules.specs.Density.{sorts_before, place_of_job, gcd, multiple, blocking, density_sum, fails, place_or_yes, failing_place, most_multiple, density_fault, density}
use Rattle.laws.specs.Tests.{tested, clash}
use Rattle.laws.specs.Answers.{refusal_of, refusal_back}
use Rattle.laws.specs.Rows.{sum_ext, lowest-is}
use Rattle.laws.specs.First.{FirstOf, nobody, found, first_of}
use Rattle.density.specs.Divides.{Divides, gcd-is, common, divisor_some, quotient}
use Rattle.density.specs.Multiple.{multiple_each, multiple_divides}
use Rattle.sums.specs.Order.{sorts_order}
use Rattle.sums.specs.Sums.{adds}
use Rattle.density.specs.Sorted.{Sorting, sorting_of, sum_first, sum_scale, count-before}
use Rattle.density.specs.Promise.{Answer, said, Answers}
use Rattle.rules.specs.declared.Refusal.{Refusal}

-- ---- the answer is settled

-- an answer is told by what it says
answer_of : Outcome Answer → Result (Option ℕ) Refusal
answer_of (refused f) = Err (refusal_of f)
answer_of (gives a) = Ok (cond a.is_yes None (Some a.place))

answer_back : (v : Result (Option ℕ) Refusal) → answer_of (said v) ≡ v
unfolding answer_of
answer_back (Err r) = ap Err (refusal_back r)
answer_back (Ok None) = refl
answer_back (Ok (Some k)) = refl

-- Any two answers that the promise allows are equal.
pub density_settled : {p : Plan} {v w : Result (Option ℕ) Refusal} → Answers p v → Answers p w → v ≡ w
density_settled {p} {v} {w} a b = sym (answer_back v) ∙ ap answer_of (a.is ∙ sym b.is) ∙ answer_back w

-- ---- the greatest common divisor and the least common multiple

-- Euclid's recursion gives a divisor of both numbers ..
pub gcd_divides : (a b : ℕ) → Divides (gcd a b) a × Divides (gcd a b) b
gcd_divides a b = ((gcd-is a b).left, (gcd-is a b).right)

-- .. and every common divisor divides it.
pub gcd_greatest : (a b d : ℕ) → Divides d a → Divides d b → Divides d (gcd a b)
gcd_greatest a b d p q = common (gcd-is a b) p q

-- Every relative deadline divides the multiple ..
pub multiple_common : (p : Plan) (j : ℕ) → j < job_count p.table → Divides (span p j) (multiple p)
unfolding multiple
multiple_common p j l = multiple_each p (job_count p.table) j l

-- .. and it divides every common multiple.
pub multiple_least : (p : Plan) (m : ℕ) → ((j : ℕ) → j < job_count p.table → Divides (span p j) m) → Divides (multiple p) m
unfolding multiple
multiple_least p m h = multiple_divides p (job_count p.table) m h

-- ---- the sorted definition

-- There is a sorting of the jobs by relative deadline, ties by number.
pub sorting_exists : (p : Plan) → (entry : ℕ → ℕ) × Sorting p (job_count p.table) entry
sorting_exists p = sorting_of p (job_count p.table)

-- "The sum over the first k of cost/D, plus b/D of the k-th", over m; the entries are counted from 0.
unfoldable pub sum_at : Plan → (ℕ → ℕ) → ℕ → ℕ → ℕ
sum_at p entry m k =
    sum (λ i. m / span p (entry i) * cost p.table (entry i)) (k + 1) + m / span p (entry k) * blocking p (entry k)

-- ".. is at most 1" fails at the k-th.
unfoldable pub fails_at : Plan → (ℕ → ℕ) → ℕ → ℕ → Bool
unfolding sum_at
fails_at p entry m k = ltb m (sum_at p entry m k)

-- "The lowest failing place, from 1; 0 with a yes."
abbrev pub place_from_one : Option ℕ → ℕ
place_from_one None = 0
place_from_one (Some k) = k + 1

module _ (p : Plan) (entry : ℕ → ℕ) (S : Sorting p (job_count p.table) entry) where
  -- The k-th entry is the job of place k.
  pub place_sorted : (k : ℕ) → k < job_count p.table → place_of_job p (entry k) ≡ k + 1
  unfolding place_of_job
  place_sorted k l = ap (λ c. c + 1) (count-before p (job_count p.table) entry S k l)

  -- The sum at its place is the sorted one.
  pub sum_sorted : (m k : ℕ) → k < job_count p.table → density_sum p m (entry k) ≡ sum_at p entry m k
  unfolding density_sum sum_at
  sum_sorted m k l =
      ap (λ s. s + m / span p (entry k) * blocking p (entry k))
      (sum_first p (job_count p.table) entry S (λ i. m / span p i * cost p.table i) k l)

  fails_sorted : (m k : ℕ) → k < job_count p.table → fails p m (entry k) ≡ fails_at p entry m k
  unfolding fails fails_at
  fails_sorted m k l = ap (ltb m) (sum_sorted m k l)

  -- The answer is the lowest failing place of the sorted jobs.
  pub density_sorted : (m : ℕ) → failing_place p m ≡ place_from_one (lowest (fails_at p entry m) (job_count p.table))
  unfolding failing_place
  density_sorted m = go (first_of (sorts_before p) (fails p m) (sorts_order p) (job_count p.table))
    where
      go : {o : Option ℕ} → FirstOf (sorts_before p) (fails p m) (job_count p.table) o
          → place_or_yes p o ≡ place_from_one (lowest (fails_at p entry m) (job_count p.table))
      go (nobody h) =
          ap place_from_one
          (lowest-is (fails_at p entry m) (job_count p.table) None (λ k l. sym (fails_sorted m k l) ∙ h (entry k) (S.job k l)))
      go (found {x} l e least) =
          let w = S.holds x l in
          ap (place_of_job p) (sym w.2)
          ∙ place_sorted w.0 w.1
          ∙ ap place_from_one
          (lowest-is (fails_at p entry m) (job_count p.table) (Some w.0) (
            w.1,
            sym (fails_sorted m w.0 w.1) ∙ ap (fails p m) w.2 ∙ e,
            λ k b. ⊎_elim
                (λ t. clash
                (S.rising k w.0 b w.1)
                (ap (sorts_before p (entry k)) w.2
                ∙ least (entry k) (S.job k (omega (arith, w.1))) (fails_sorted m k (omega (arith, w.1)) ∙ t)))
                (λ t. t)
                (tested (fails_at p entry m k)),
          ))

-- The entry's answer for a plan within its bounds, in 01's words.
pub density-gives : (p : Plan) (entry : ℕ → ℕ) → Sorting p (job_count p.table) entry
    → plan_in_bounds p ≡ true → multiple p ≤ most_multiple
    → density p ≡ gives (place_from_one (lowest (fails_at p entry (multiple p)) (job_count p.table)))
unfolding density density_fault
density-gives p entry S b l = rw (b, le-leb _ _ l) (ap gives (density_sorted p entry S (multiple p)))

-- ---- fractions

-- Over any common multiple M of the relative deadlines, `over i` being M / D of job i, the test says the same as over the
-- least one: with M the product of all D, this is the sum of fractions multiplied out.
module _ (p : Plan) (M : ℕ) (h : 0 < M) (over : ℕ → ℕ) (e : (i : ℕ) → i < job_count p.table → over i * span p i ≡ M) where
  scaled : (t : ℕ) → M ≡ t * multiple p → (i : ℕ) → i < job_count p.table → over i ≡ t * (multiple p / span p i)
  scaled t q i l =
      let D : Divides (span p i) (multiple p) = multiple_common p i l in
      let s : 0 < span p i = divisor_some h (record { times = over i; is = sym (e i l) }) in
      let x : multiple p / span p i ≡ D.times = quotient (span p i) (multiple p) D.times s D.is in
      rw x
      (sym (quotient (span p i) M (over i) s (sym (e i l)))
      ∙ quotient (span p i) M (t * D.times) s (omega (arith, q, ap (λ (z : ℕ). t * z) D.is)))

  scaled_cost : (t : ℕ) → M ≡ t * multiple p → (i : ℕ) → i < job_count p.table → (b : Bool) (c : ℕ)
      → cond b (over i * c) 0 ≡ t * cond b (multiple p / span p i * c) 0
  scaled_cost t q i l true c = rw (scaled t q i l) (mul_assoc t (multiple p / span p i) c)
  scaled_cost t q i l false c = omega arith

  total : (t : ℕ) → M ≡ t * multiple p → (j : ℕ) → j < job_count p.table
      → sum (λ i. cond (not (sorts_before p j i)) (over i * cost p.table i) 0) (job_count p.table) + over j * blocking p j
      ≡ t * (sum (adds p (multiple p) j) (job_count p.table) + multiple p / span p j * blocking p j)
  total t q j l =
      let f : ℕ → ℕ = adds p (multiple p) j in
      let n = job_count p.table in
      omega (
        arith,
        sum_ext (λ i. cond (not (sorts_before p j i)) (over i * cost p.table i) 0) (λ i. t * f i) n (λ i k.
            scaled_cost t q i k (not (sorts_before p j i)) (cost p.table i)),
        sum_scale t f n,
        scaled_cost t q j l true (blocking p j),
      )

  -- a sum above the least multiple is above M
  nothing : (t x : ℕ) → M ≡ t * multiple p → (y : ℕ) → y ≡ t * x → y ≤ M → multiple p < x → ⊥
  nothing zero x q y r k l = omega arith
  nothing (suc t) x q y r k l = omega (arith, mul-le-mul_left (suc t) l)

  pub fractions : (j : ℕ) → j < job_count p.table
      → (density_sum p (multiple p) j ≤ multiple p)
      ↔ (sum (λ i. cond (not (sorts_before p j i)) (over i * cost p.table i) 0) (job_count p.table) + over j * blocking p j ≤ M)
  unfolding density_sum
  fractions j l =
      let D : Divides (multiple p) M = multiple_least p M (λ i q. record { times = over i; is = sym (e i q) }) in
      let t = D.times in
      let n = job_count p.table in
      let x = sum (adds p (multiple p) j) n + multiple p / span p j * blocking p j in
      let y = sum (λ i. cond (not (sorts_before p j i)) (over i * cost p.table i) 0) n + over j * blocking p j in
      let same : y ≡ t * x = total t D.is j l in (
        λ k. omega (arith, same, D.is, mul-le-mul_left t k),
        λ k. elim (dec_le x (multiple p)) [
          | yes q ↦ q
          | no q ↦ absurd (nothing t x D.is y same k (omega arith))
        ],
      )
