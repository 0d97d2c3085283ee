-- Readings of demand 3 that are false, each refuted by a smallest table. The must-fail edits make the statements these.
use Rattle.std.specs.Prelude.{◌≡◌, refl, ◌↔◌, ◌⊎◌, Bool, true, false, cond, ◌&&◌, List, [], ◌∷◌, ℕ, zero, suc, ◌-◌, ◌≤◌, ◌<◌, length, get_or, ltb, leb, Option, None, Some}
use Rattle.std.proofs.Common.{sym, inl, inr, arith}
use Rattle.rules.specs.Rows.{any, count, largest}
use Rattle.rules.specs.Table.{
  Table,
  Plan,
  State,
  job_count,
  release,
  cost,
  section_count,
  owner,
  resource,
  ticks_of,
  modified_release,
  span,
  executed,
  mark,
}
use Rattle.rules.specs.Refusals.{Outcome, refused, gives, fault, check, plan_of, finished, all_finished, step_fault}
use Rattle.rules.specs.Order.{comes_before}
use Rattle.rules.specs.Tick.{covers, chosen, ceiling, below_ceiling}
use Rattle.rules.specs.Run.{start, after_reports, all_end_by, goes_later, waited, longest_later}
use Rattle.laws.specs.Tests.{clash}
use Rattle.laws.specs.Reach.{Ancestor}
use Rattle.run_laws.specs.Theory.{idle_not}
use Rattle.run_laws.specs.Statement.{state_at, steps}

-- ---- the tables

-- one job of one tick
unfoldable pub one : Table
one = record { jobs = 0 ∷ 1 ∷ 1 ∷ []; arcs = []; sections = [] }

-- one job of two ticks
unfoldable pub two_ticks : Table
two_ticks = record { jobs = 0 ∷ 2 ∷ 2 ∷ []; arcs = []; sections = [] }

-- two jobs of one tick, with a section each on resource 0
unfoldable pub sharing : Table
sharing = record { jobs = 0 ∷ 1 ∷ 1 ∷ 0 ∷ 1 ∷ 1 ∷ []; arcs = []; sections = 0 ∷ 0 ∷ 0 ∷ 1 ∷ 1 ∷ 0 ∷ 0 ∷ 1 ∷ [] }

-- job 0 holds resource 0 when job 1 is released
unfoldable pub held_up : Table
held_up = record { jobs = 0 ∷ 2 ∷ 3 ∷ 1 ∷ 1 ∷ 2 ∷ []; arcs = []; sections = 0 ∷ 0 ∷ 0 ∷ 2 ∷ 1 ∷ 0 ∷ 0 ∷ 1 ∷ [] }

-- job 1, which comes before job 2 and has the larger relative deadline, is the one held up
unfoldable pub behind : Table
behind = record { jobs = 0 ∷ 3 ∷ 4 ∷ 1 ∷ 1 ∷ 3 ∷ 2 ∷ 1 ∷ 3 ∷ []; arcs = []; sections = 0 ∷ 0 ∷ 0 ∷ 3 ∷ 1 ∷ 0 ∷ 0 ∷ 1 ∷ [] }

-- job 2 is given release 0, and is released with its predecessor, job 1, at 1
unfoldable pub released_later : Table
released_later = record { jobs = 0 ∷ 1 ∷ 4 ∷ 1 ∷ 1 ∷ 2 ∷ 0 ∷ 1 ∷ 3 ∷ []; arcs = 1 ∷ 2 ∷ []; sections = [] }

-- ---- the readings

-- (b), inside with `from` included at a decision: at tick 0 both jobs stand at their sections.
abbrev pub InsideFrom : Type 0
InsideFrom =
    (t : Table) (p : Plan) → check t ≡ gives p → (reports : List Bool)
    → (s k : ℕ) → resource t s ≡ resource t k
    → covers p (after_reports p reports) s ≡ true → covers p (after_reports p reports) k ≡ true → owner t s ≡ owner t k

pub inside_from_false : InsideFrom → ⊥
unfolding check plan_of sharing covers after_reports
inside_from_false h = let e : ◌≡◌ {A = ℕ} 0 1 = h sharing (plan_of sharing) refl [] 0 1 refl refl refl in omega arith

-- (c), "ended silent" by any silent report: the job's first tick is silent, its last one answered, and it is fresh.
abbrev pub MarksByAnySilence : Type 0
MarksByAnySilence =
    (t : Table) (p : Plan) → check t ≡ gives p → (reports : List Bool)
    → (j : ℕ) → j < job_count t → finished p (after_reports p reports) j ≡ true
    → (mark (after_reports p reports) j ≡ 2)
    ↔ ((i : ℕ) × ((i ≡ j) ⊎ Ancestor t i j)
    × ((n : ℕ) × (n < length reports) × (chosen p (state_at p reports n) ≡ Some i) × (get_or reports n false ≡ true)))

pub any_silence_false : MarksByAnySilence → ⊥
unfolding check plan_of two_ticks chosen after_reports
any_silence_false h =
    let e : ◌≡◌ {A = ℕ} 1 2
    = (h two_ticks (plan_of two_ticks) refl (true ∷ false ∷ []) 0 (omega arith) refl).1
    (0, inl refl, (0, omega arith, refl, refl)) in
    omega arith

-- (d), less two: job 1 waits one tick, for a section of two.
abbrev pub WaitsLessTwo : Type 0
WaitsLessTwo =
    (t : Table) (p : Plan) → check t ≡ gives p → (reports : List Bool)
    → (j : ℕ) → waited p (start p) reports j ≤ longest_later p j - 2

pub less_two_false : WaitsLessTwo → ⊥
unfolding check plan_of held_up waited start longest_later
less_two_false h = let e : 1 ≤ 0 = h held_up (plan_of held_up) refl (false ∷ false ∷ []) 1 in omega arith

-- (d), sharper, less two: of the two sections one has two ticks, one has one.
abbrev pub WaitsOwnLessTwo : Type 0
WaitsOwnLessTwo =
    (t : Table) (p : Plan) → check t ≡ gives p → (reports : List Bool)
    → (j : ℕ)
    → (waited p (start p) reports j ≡ 0) ⊎ ((s : ℕ) × (s < section_count t) × (waited p (start p) reports j ≤ ticks_of t s - 2))

pub own_less_two_false : WaitsOwnLessTwo → ⊥
unfolding check plan_of held_up waited start
own_less_two_false h = go (h held_up (plan_of held_up) refl (false ∷ false ∷ []) 1)
  where
    short : (s : ℕ) → s < 2 → 1 ≤ ticks_of held_up s - 2 → ⊥
    short zero l e = omega arith
    short (suc zero) l e = omega arith
    short (suc (suc s)) l e = omega arith

    go : (◌≡◌ {A = ℕ} 1 0) ⊎ ((s : ℕ) × (s < 2) × (1 ≤ ticks_of held_up s - 2)) → ⊥
    go (inl e) = omega arith
    go (inr w) = short w.0 w.1 w.2

-- (d), narrowed to sections on resources whose ceiling reaches the job: job 2 waits one tick, and the only ceiling, 2, is
-- above its relative deadline, 1.
abbrev pub WaitsByCeiling : Type 0
WaitsByCeiling =
    (t : Table) (p : Plan) → check t ≡ gives p → (reports : List Bool)
    → (j : ℕ)
    → waited p (start p) reports j
    ≤ largest
    (λ s. comes_before p j (owner t s) && (cond (below_ceiling (span p j) (ceiling p (resource t s))) false true))
    (ticks_of t) 0 (section_count t)
    - 1

pub by_ceiling_false : WaitsByCeiling → ⊥
unfolding check plan_of behind waited start largest comes_before ceiling
by_ceiling_false h = let e : 1 ≤ 0 = h behind (plan_of behind) refl (false ∷ false ∷ false ∷ []) 2 in omega arith

-- (d), from the given release: job 2 loses tick 0 to job 0, and nobody has a section.
abbrev pub WaitsFromGiven : Type 0
WaitsFromGiven =
    (t : Table) (p : Plan) → check t ≡ gives p → (reports : List Bool)
    → (j : ℕ)
    → count
    (λ n.
    leb (release t j) n
    && (ltb (executed (state_at p reports n) j) (cost t j) && goes_later p j (chosen p (state_at p reports n))))
    (length reports)
    ≤ longest_later p j - 1

pub from-given-false : WaitsFromGiven → ⊥
unfolding check plan_of released_later count chosen comes_before after_reports longest_later
from-given-false h = let e : 1 ≤ 0 = h released_later (plan_of released_later) refl (false ∷ []) 2 in omega arith

-- (e), idle while a release equals the tick: at tick 0 nobody is released before it, and the tick is not idle.
abbrev pub IdleAtRelease : Type 0
IdleAtRelease =
    (t : Table) (p : Plan) → check t ≡ gives p → (reports : List Bool)
    → ((j : ℕ) → modified_release p j < (after_reports p reports).tick → finished p (after_reports p reports) j ≡ true)
    → chosen p (after_reports p reports) ≡ None

pub idle_at_release_false : IdleAtRelease → ⊥
unfolding check plan_of one chosen after_reports start
idle_at_release_false h =
    let e : ◌≡◌ {A = Option ℕ} (Some 0) None = h one (plan_of one) refl [] (λ j l. absurd (omega arith)) in
    idle_not (sym e)

-- (f), one tick earlier: after no tick the job has not finished, and it is to end by tick 1.
abbrev pub EndsEarlier : Type 0
EndsEarlier =
    (t : Table) (p : Plan) → check t ≡ gives p → (reports : List Bool)
    → all_end_by p ≤ suc (length reports) → (j : ℕ) → finished p (after_reports p reports) j ≡ true

pub ends_earlier_false : EndsEarlier → ⊥
unfolding check plan_of one all_end_by after_reports start
ends_earlier_false h = clash (h one (plan_of one) refl [] (omega arith) 0) refl

-- Steps, with the last one refused if it ends the last job.
abbrev pub LastStepRefused : Type 0
LastStepRefused =
    (t : Table) (p : Plan) → check t ≡ gives p → (reports : List Bool)
    → steps p (start p) reports
    ≡ cond
    (any (λ n. all_finished p (state_at p reports n)) (suc (length reports)))
    (refused (fault 13 0))
    (gives (after_reports p reports))

pub last_step_refused_false : LastStepRefused → ⊥
unfolding check plan_of one start after_reports step_fault any all_finished
last_step_refused_false h =
    let e : ◌≡◌ {A = Outcome State} (gives (after_reports (plan_of one) (false ∷ []))) (refused (fault 13 0))
    = h one (plan_of one) refl (false ∷ []) in
    let z : ◌≡◌ {A = ℕ} 0 1 = cc in
    omega arith
