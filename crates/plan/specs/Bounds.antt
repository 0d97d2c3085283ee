-- A plan handed in: the laws that its judgement cites.
use Rattle.std.specs.Prelude.{◌≡◌, Bool, true, ◌&&◌, ◌*◌, ◌≤◌, length, eqb, Option, None, Some}
use Rattle.std.proofs.Common.{refl, sym}
use Rattle.rules.specs.Rows.{all}
use Rattle.rules.specs.Table.{Table, Plan, job_count}
use Rattle.rules.specs.Refusals.{Fault, accepted, times_right, plan_in_bounds}
use Rattle.rows.specs.Judged.{values_fault}
use Rattle.rows.specs.Stages.{few_rows, values_counts}

-- the three parts of the judgement, one after the other
pub parts : (p : Plan) {t : Table} {values pairs times : Bool} → t ≡ p.table → values ≡ accepted (values_fault t)
    → pairs ≡ eqb (length p.times) (2 * job_count p.table) → times ≡ all (times_right p) (job_count p.table)
    → (values && (pairs && times)) ≡ plan_in_bounds p
unfolding plan_in_bounds values_fault
parts p e v q r = rw (v, q, r, e)

-- where 2 to 7 find nothing, jobs are few
pub few_jobs : (t : Table) → true ≡ accepted (values_fault t) → job_count t ≤ 64
few_jobs t = go (values_fault t) refl
  where
    go : (found : Option Fault) → values_fault t ≡ found → true ≡ accepted found → job_count t ≤ 64
    go None f e = (few_rows t (values_counts t (sym f))).0
    go (Some x) f e = cc
