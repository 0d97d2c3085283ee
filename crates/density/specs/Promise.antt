-- What `density` promises: for every input its answer is the one of the rules.
use Rattle.std.specs.Prelude.{◌≡◌, Bool, true, false, ℕ, ◌+◌, ◌<◌, eqb, Option, None, Some, Result, Ok, Err}
use Rattle.std.proofs.Common.{sym, ◌∙◌, arith}
use borrow.Author.Tests.{le-leb, lt-leb, ne_eqb}
use Rattle.rules.specs.Rows.{count, first}
use Rattle.rules.specs.Table.{Plan, job_count}
use Rattle.rules.specs.Refusals.{fault_of, Outcome, refused, gives, and_then, plan_in_bounds}
use Rattle.rules.specs.Density.{sorts_before, place_of_job, fails, failing_place, multiple_to, multiple, density_fault, density}
use Rattle.rules.specs.declared.Refusal.TheVariants.{Bounds, Multiple}
use Rattle.rules.specs.declared.Refusal.{Refusal}
use Rattle.laws.specs.First.{first-told, first_of}
use Rattle.sums.specs.Order.{sorts_order}
use Rattle.density.specs.Multiple.{Tells, told-within, told_over}

-- "The answer is yes or no, and the lowest failing place, from 1; 0 with a yes."
pub record Answer : Type 0 where
  pub is_yes : Bool
  pub place : ℕ

-- The rules give the place alone: it is yes exactly if that is 0.
abbrev pub answer_at : ℕ → Answer
answer_at k = record { is_yes = eqb k 0; place = k }

-- The code's answer in 01's words: a refusal, or the lowest failing place, if there is one.
abbrev pub said : Result (Option ℕ) Refusal → Outcome Answer
said (Err r) = refused (fault_of r)
said (Ok None) = gives record { is_yes = true; place = 0 }
said (Ok (Some k)) = gives record { is_yes = false; place = k }

-- The promise.
pub record Answers (p : Plan) (v : Result (Option ℕ) Refusal) : Type 0 where
  pub is : said v ≡ and_then (density p) (λ k. gives (answer_at k))

-- ---- the place, from the first failing job

module _ (p : Plan) (m : ℕ) {r : Option ℕ} (e : r ≡ first (sorts_before p) (fails p m) (job_count p.table)) where
  pub no_place : r ≡ None → said (Ok None) ≡ gives (answer_at (failing_place p m))
  unfolding failing_place
  no_place f = rw (sym e ∙ f)

  pub place-at : {j k : ℕ} → r ≡ Some j → k ≡ count (λ i. sorts_before p i j) (job_count p.table)
      → said (Ok (Some (k + 1))) ≡ gives (answer_at (failing_place p m))
  unfolding failing_place place_of_job
  place-at {j} {k} f q = rw (sym e ∙ f, ← q, ne_eqb (k + 1) 0 (λ z. omega arith))

  pub job_there : {j : ℕ} → r ≡ Some j → j < job_count p.table
  job_there {j} f = (first-told (first_of (sorts_before p) (fails p m) (sorts_order p) (job_count p.table)) j (sym e ∙ f)).0

-- ---- the entry, each way out

module _ (p : Plan) {b : Bool} (e : b ≡ plan_in_bounds p) where
  pub answers_bounds : b ≡ false → Answers p (Err Bounds)
  unfolding density density_fault
  answers_bounds f = record { is = rw (sym e ∙ f) }

  module _ (f : b ≡ true) (r : Option ℕ) (t : Tells (multiple_to p (job_count p.table)) r) where
    pub answers_multiple : r ≡ None → Answers p (Err Multiple)
    unfolding density density_fault multiple
    answers_multiple o = record { is = rw (sym e ∙ f, lt-leb _ _ (told_over _ r t o)) }

    pub answers_place : {m : ℕ} {v : Option ℕ} → r ≡ Some m → said (Ok v) ≡ gives (answer_at (failing_place p m)) → Answers p (Ok v)
    unfolding density density_fault multiple
    answers_place {m} o q =
        let h = told-within _ m r t o in
        let x : m ≡ multiple p = h.0 in
        record { is = rw (sym e ∙ f, le-leb _ _ h.1, ← x) q }
