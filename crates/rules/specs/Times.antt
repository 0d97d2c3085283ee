-- 01, "Modified times": the modified release and deadline of each job of a table.
use Rattle.std.specs.Prelude.{List, [], ◌∷◌, ◌++◌, ℕ, zero, suc, ◌+◌, ◌*◌, ◌-◌, ℤ}
use Rattle.std.proofs.Math.IntN.{sub_ℕ}
use Rattle.rules.specs.Rows.{largest, smallest}
use Rattle.rules.specs.Table.{Table, job_count, release, cost, deadline, precedes, most_jobs, most_cost}

-- "The largest of its own release and the modified releases of its direct predecessors", cut where chains of more than
-- `depth` arcs would be followed.
unfoldable pub release_to : Table → ℕ → ℕ → ℕ
unfolding largest precedes
release_to t zero j = release t j
release_to t (suc depth) j = largest (λ i. precedes t i j) (release_to t depth) (release t j) (job_count t)

-- A deadline on the way is held above zero by `lift`, which no chain of 64 jobs can use up: the lifted number x stands for
-- the instant x - lift, which may lie below zero.
abbrev pub lift : ℕ
lift = most_jobs * most_cost

-- The instant that a lifted number stands for.
abbrev pub instant_of : ℕ → ℤ
instant_of lifted = sub_ℕ lifted lift

-- "The smallest of its own deadline and, for each direct successor, that one's modified deadline less that one's cost",
-- lifted, and cut like releases.
unfoldable pub lifted_to : Table → ℕ → ℕ → ℕ
unfolding smallest precedes
lifted_to t zero j = lift + deadline t j
lifted_to t (suc depth) j = smallest (λ i. precedes t j i) (λ i. lifted_to t depth i - cost t i) (lift + deadline t j) (job_count t)

-- The modified release of a job. Without a cycle no chain of arcs has as many arcs as there are jobs, so that depth cuts nothing.
unfoldable pub new_release : Table → ℕ → ℕ
unfolding release_to
new_release t j = release_to t (job_count t) j

-- The modified deadline of a job, lifted, to the same depth.
unfoldable pub lifted_deadline : Table → ℕ → ℕ
unfolding lifted_to
lifted_deadline t j = lifted_to t (job_count t) j

-- The modified deadline itself, below zero or not.
unfoldable pub new_deadline : Table → ℕ → ℤ
unfolding lifted_deadline
new_deadline t j = instant_of (lifted_deadline t j)

-- The times of the first n jobs as a plan holds them.
unfoldable pub times_to : Table → ℕ → List ℕ
unfolding new_release lifted_deadline
times_to t zero = []
times_to t (suc n) = times_to t n ++ (new_release t n ∷ (lifted_deadline t n - lift) ∷ [])
