-- Laws for the largest release, lateness, and the bounds of a run.
use Rattle.std.specs.Prelude.{◌≡◌, Bool, true, false, cond, ℕ, suc, ◌+◌, ◌*◌, ◌-◌, ◌≤◌, ◌<◌, max, ltb, pos, negsuc, length}
use Rattle.std.proofs.Common.{add-one, arith}
use Rattle.std.proofs.Math.IntN.{sub_ℕ}
use Rattle.std.specs.Int.Signed.{mag}
use Rattle.rules.specs.Rows.{largest}
use Rattle.rules.specs.Table.{Plan, job_count, cost, modified_release}

-- ---- the largest

pub largest_more : (f : ℕ → ℕ) (b n : ℕ) → largest (λ j. true) f b (n + 1) ≡ max (largest (λ j. true) f b n) (f n)
unfolding largest
largest_more f b n = rw add-one

-- ---- signed differences

pub difference_small : (m a b : ℕ) → a < m → b < m → mag (sub_ℕ a b) < m
difference_small m a b h g = go (ltb a b)
  where
    go : (c : Bool) → mag (cond c (negsuc (b - suc a)) (pos (a - b))) < m
    go true = omega arith
    go false = omega arith

-- ---- bounds of a run

-- jobs are few, and their releases and costs within bounds
pub record Bounded (p : Plan) : Type 0 where
  pub few : job_count p.table ≤ 64
  pub pairs : 2 * job_count p.table ≤ length p.times
  pub releases : (j : ℕ) → j < job_count p.table → modified_release p j ≤ 1000000
  pub costs : (j : ℕ) → j < job_count p.table → cost p.table j ≤ 100000
