-- 01, "Density test".
use Rattle.std.specs.Prelude.{Bool, false, cond, ◌&&◌, ◌||◌, not, [], ◌∷◌, ℕ, zero, suc, ◌+◌, ◌*◌, ◌/◌, ◌%◌, ltb, leb, eqb, Option, None, Some}
use Rattle.rules.specs.Rows.{count, sum, largest, first}
use Rattle.rules.specs.Table.{Plan, job_count, cost, section_count, owner, resource, ticks_of, span}
use Rattle.rules.specs.Refusals.{Fault, Outcome, unless, first_of, demand, plan_in_bounds}
use Rattle.rules.specs.Tick.{ceiling}

-- ---- places

-- "Sort by relative deadline D, ties by number": job i stands before job j.
unfoldable pub sorts_before : Plan → ℕ → ℕ → Bool
sorts_before p i j = ltb (span p i) (span p j) || (eqb (span p i) (span p j) && ltb i j)

-- The place of a job, from 1: one more than the number of jobs before it.
unfoldable pub place_of_job : Plan → ℕ → ℕ
unfolding count sorts_before
place_of_job p j = count (λ i. sorts_before p i j) (job_count p.table) + 1

-- ---- the common multiple

-- "Euclid's algorithm by remainders", in at most so many steps.
unfoldable pub gcd_by : ℕ → ℕ → ℕ → ℕ
gcd_by zero a b = a
gcd_by (suc steps) a b = let later = gcd_by steps b (a % b) in cond (eqb b 0) a later

-- The greatest common divisor.
unfoldable pub gcd : ℕ → ℕ → ℕ
unfolding gcd_by
gcd a b = gcd_by (suc b) a b

-- The least common multiple of two numbers.
unfoldable pub lcm : ℕ → ℕ → ℕ
unfolding gcd
lcm a b = a / gcd a b * b

-- "The least common multiple of all D", of the first n jobs.
unfoldable pub multiple_to : Plan → ℕ → ℕ
unfolding lcm
multiple_to p zero = 1
multiple_to p (suc n) = lcm (multiple_to p n) (span p n)

-- "The least common multiple of all D."
unfoldable pub multiple : Plan → ℕ
unfolding multiple_to
multiple p = multiple_to p (job_count p.table)

-- What the common multiple may be at most: 14 is given where it "exceeds 1,000,000,000".
abbrev pub most_multiple : ℕ
most_multiple = 1_000_000_000

-- ---- the sums

-- The ceiling is at most D.
abbrev pub ceiling_within : Option ℕ → ℕ → Bool
ceiling_within None d = false
ceiling_within (Some c) d = leb c d

-- "b is the longest section of a job with larger D than the k-th, on a resource whose ceiling is at most the D of the k-th;
-- 0 if none." Here the k-th is job j.
unfoldable pub blocking : Plan → ℕ → ℕ
unfolding largest ceiling
blocking p j =
    largest
    (λ s. ltb (span p j) (span p (owner p.table s)) && ceiling_within (ceiling p (resource p.table s)) (span p j))
    (ticks_of p.table)
    0
    (section_count p.table)

-- "The sum over the first k of cost/D, plus b/D of the k-th", over the common multiple m. The k-th is job j.
unfoldable pub density_sum : Plan → ℕ → ℕ → ℕ
unfolding sum sorts_before blocking
density_sum p m j =
    sum (λ i. cond (not (sorts_before p j i)) (m / span p i * cost p.table i) 0) (job_count p.table)
    + m / span p j * blocking p j

-- ".. is at most 1": job j's place fails where the sum exceeds the multiple.
unfoldable pub fails : Plan → ℕ → ℕ → Bool
unfolding density_sum
fails p m j = ltb m (density_sum p m j)

-- "The answer is yes or no, and the lowest failing place, from 1; 0 with a yes."
abbrev pub place_or_yes : Plan → Option ℕ → ℕ
place_or_yes p None = 0
place_or_yes p (Some j) = place_of_job p j

-- The lowest failing place over the common multiple m: that of the first job, as they are sorted, whose place fails.
unfoldable pub failing_place : Plan → ℕ → ℕ
unfolding first sorts_before fails place_of_job
failing_place p m = place_or_yes p (first (sorts_before p) (fails p m) (job_count p.table))

-- "The density test gives 12, then 14."
unfoldable pub density_fault : Plan → Option Fault
unfolding plan_in_bounds multiple
density_fault p = first_of (demand (plan_in_bounds p) 12 ∷ demand (leb (multiple p) most_multiple) 14 ∷ [])

-- The density test of a plan: its refusal, or the lowest failing place, which is 0 with a yes.
unfoldable pub density : Plan → Outcome ℕ
unfolding density_fault failing_place multiple
density p = unless (density_fault p) (failing_place p (multiple p))
