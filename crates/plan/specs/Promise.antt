-- The promise of `plan`: its answer and the lent list are what the rules give, for every input.
use Rattle.std.specs.Prelude.{◌≡◌, List, [], ◌∷◌, ◌++◌, ℕ, ◌<◌, length, drop, Option, None, Some, Result, Err}
use Rattle.std.proofs.Common.{sym, arith}
use Rattle.std.proofs.lemmas.Bool.{lt-leb}
use Rattle.rules.specs.Rows.{lowest}
use Rattle.rules.specs.Table.{Table, job_count, section_count}
use Rattle.rules.specs.Times.{times_to}
use Rattle.rules.specs.Refusals.{
  Fault,
  fault_of,
  Outcome,
  refused,
  gives,
  and_then,
  first_of,
  unless,
  at_row,
  plan_faults,
  clashes,
  on_cycle,
  too_short,
  check_fault,
  plan_of,
  check,
  room,
}
use Rattle.rules.specs.declared.Refusal.{Refusal}
use Rattle.rules.specs.declared.Refusal.TheVariants.{Room}
use Rattle.laws.specs.Answers.{said}
use Rattle.laws.specs.Refusals.{RowsRight}
use Rattle.rows.specs.Stages.{front_rows, front_later}
use Rattle.cycles.specs.Promise.{cycles_fault}

-- What `plan` comes to: the modified times of an accepted table, where the lent list has room for them.
unfoldable pub planned : Table → List ℕ → Outcome (List ℕ)
unfolding check
planned t lent = and_then (check t) (λ p. unless (room (length p.times) (length lent)) p.times)

-- the answer tells how many numbers there are, and the list holds them
abbrev pub counted : Outcome (List ℕ) → Outcome ℕ
counted (refused f) = refused f
counted (gives times) = gives (length times)

-- "A refusal writes nothing. Success writes the needed front of the lent list; the rest keeps its content."
abbrev pub written : Outcome (List ℕ) → List ℕ → List ℕ
written (refused f) lent = lent
written (gives times) lent = times ++ drop (length times) lent

-- The promise: what is answered, and what the lent list holds at exit.
pub record Plans (t : Table) (lent : List ℕ) (answer : Result ℕ Refusal) (left : List ℕ) : Type 0 where
  pub answer-is : said answer ≡ counted (planned t lent)
  pub left_is : left ≡ written (planned t lent) lent

-- ---- laws for the code: one for each way out

-- the finds make up what the check finds
pub check_are : (t : Table) {c w : Option Fault} → c ≡ cycles_fault t → w ≡ at_row 10 (lowest (too_short t) (job_count t))
    → first_of (c ∷ w ∷ []) ≡ check_fault t
unfolding cycles_fault check_fault plan_faults
check_are t p q =
    rw (p, q)
    (front_later t (at_row 8 (lowest (clashes t) (section_count t)) ∷ at_row 9 (lowest (on_cycle t) (job_count t)) ∷ [])
    (at_row 10 (lowest (too_short t) (job_count t)) ∷ []))

pub cycles_rows : (t : Table) → None ≡ cycles_fault t → RowsRight t
unfolding cycles_fault
cycles_rows t e =
    front_rows t (at_row 8 (lowest (clashes t) (section_count t)) ∷ at_row 9 (lowest (on_cycle t) (job_count t)) ∷ []) (sym e)

-- what is answered and left where `front` is written, if there is room for it
pub record Puts (front lent : List ℕ) (answer : Result ℕ Refusal) (left : List ℕ) : Type 0 where
  pub answer-is : said answer ≡ counted (unless (room (length front) (length lent)) front)
  pub left_is : left ≡ written (unless (room (length front) (length lent)) front) lent

pub put-short : (front lent : List ℕ) (n : ℕ) → length front ≡ n → length lent < n → Puts front lent (Err Room) lent
put-short front lent n e h =
    let short = lt-leb (length front) (length lent) (omega (arith, e)) in
    record { answer-is = rw short; left_is = rw short }

module _ (t : Table) (lent : List ℕ) where
  pub plan-refused : (r : Refusal) → Some (fault_of r) ≡ check_fault t → Plans t lent (Err r) lent
  unfolding planned check
  plan-refused r e = record { answer-is = rw (← e); left_is = rw (← e) }

  pub plan-put : (front left : List ℕ) (answer : Result ℕ Refusal) → None ≡ check_fault t → front ≡ times_to t (job_count t)
      → Puts front lent answer left → Plans t lent answer left
  unfolding planned check plan_of
  plan-put front left answer e f h = record { answer-is = rw (← e, ← f) h.answer-is; left_is = rw (← e, ← f) h.left_is }
