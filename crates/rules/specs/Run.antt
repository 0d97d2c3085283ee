-- 01, "One tick", over many ticks: a run from tick 0, its end, how late a job ends and how long it waits.
use Rattle.std.specs.Prelude.{Bool, true, false, cond, ◌&&◌, List, [], ◌∷◌, ℕ, zero, suc, ◌+◌, ℤ, replicate, Option, None, Some}
use Rattle.std.proofs.Math.IntN.{sub_ℕ}
use Rattle.rules.specs.Rows.{sum, largest}
use Rattle.rules.specs.Table.{
  Plan,
  State,
  job_count,
  cost,
  deadline,
  section_count,
  owner,
  ticks_of,
  modified_release,
  finish,
}
use Rattle.rules.specs.Refusals.{all_finished}
use Rattle.rules.specs.Order.{comes_before}
use Rattle.rules.specs.Tick.{pending, chosen, tick}

-- "A run starts with all of these 0."
unfoldable pub start : Plan → State
start p =
    record {
      tick = 0;
      executed = replicate (job_count p.table) 0;
      marks = replicate (job_count p.table) 0;
      finish = replicate (job_count p.table) 0;
    }

-- A tick for each report; true is silent, false is answered.
unfoldable pub onward : Plan → State → List Bool → State
unfolding tick
onward p st [] = st
onward p st (silent ∷ rest) = onward p (tick p st silent) rest

-- The state after the reports, from tick 0.
unfoldable pub after_reports : Plan → List Bool → State
unfolding onward start
after_reports p reports = onward p (start p) reports

-- Who runs in each of those ticks.
unfoldable pub schedule : Plan → State → List Bool → List (Option ℕ)
unfolding chosen tick
schedule p st [] = []
schedule p st (silent ∷ rest) = chosen p st ∷ schedule p (tick p st silent) rest

-- Every report answered until every job has finished, for at most n ticks.
unfoldable pub answered : Plan → ℕ → State → State
unfolding tick all_finished
answered p zero st = st
answered p (suc n) st = let later = answered p n (tick p st false) in cond (all_finished p st) st later

-- "The largest modified release plus the sum of costs": by then all have ended.
unfoldable pub all_end_by : Plan → ℕ
unfolding largest sum
all_end_by p = largest (λ j. true) (modified_release p) 0 (job_count p.table) + sum (cost p.table) (job_count p.table)

-- The state in which all have finished, every report answered.
unfoldable pub end_state : Plan → State
unfolding answered all_end_by start
end_state p = answered p (all_end_by p) (start p)

-- "Lateness, of a finished job only, is finish less the job's own given deadline, negative when early."
unfoldable pub lateness : Plan → State → ℕ → ℤ
lateness p st j = sub_ℕ (finish st j) (deadline p.table j)

-- ---- waiting, as demand 3 (d) counts it

-- The tick goes to a job later than j in the order.
abbrev pub goes_later : Plan → ℕ → Option ℕ → Bool
goes_later p j None = false
goes_later p j (Some k) = comes_before p j k

-- From its modified release to its finish, job j waits in a tick that goes to a later job.
unfoldable pub waits : Plan → State → ℕ → Bool
unfolding pending chosen comes_before
waits p st j = pending p st j && goes_later p j (chosen p st)

-- In how many of the ticks with these reports job j waits.
unfoldable pub waited : Plan → State → List Bool → ℕ → ℕ
unfolding waits tick
waited p st [] j = 0
waited p st (silent ∷ rest) j = cond (waits p st j) 1 0 + waited p (tick p st silent) rest j

-- The longest section among the jobs later than j, 0 where they have none.
unfoldable pub longest_later : Plan → ℕ → ℕ
unfolding largest comes_before
longest_later p j = largest (λ s. comes_before p j (owner p.table s)) (ticks_of p.table) 0 (section_count p.table)
