-- What the entries promise, each an equation with the rules.
use Rattle.std.specs.Prelude.{◌≡◌, refl, Bool, true, false, cond, ◌&&◌, List, [], ◌∷◌, ◌++◌, ℕ, ◌≤◌, ◌<◌, length, take, drop, replicate, ltb, ℤ, Option, None, Some, Result, Ok, Err}
use Rattle.std.proofs.Common.{◌∙◌, ap, arith, length-append, take_at, drop_at, ◌⊎◌, ⊎_elim}
use Rattle.std.proofs.lemmas.List.{length-replicate}
use Rattle.rules.specs.Table.{Plan, State, job_count, cost, deadline, executed, finish}
use Rattle.laws.specs.Tests.{Says, so, not_so, le_says, yes_says}
use Rattle.laws.specs.Refusals.{all_none, demand-none}
use borrow.Author.Tests.{le-leb, le-ltb, lt-ltb, eq-eqb, ne_eqb}
use Rattle.std.proofs.Math.IntN.{sub_ℕ}
use Rattle.rules.specs.Refusals.{Fault, fault, fault_of, Outcome, refused, gives, first_of, unless, demand, room, plan_in_bounds, finished, step_fault}
use Rattle.rules.specs.Run.{start, answered, all_end_by, end_state, lateness}
use Rattle.rules.specs.Tick.{chosen, tick}
use Rattle.rules.specs.Lists.{state}
use Rattle.rules.specs.declared.Refusal.{Refusal}
use Rattle.rules.specs.declared.state.Lists as code
use Rattle.laws.specs.Answers.{said}
use Rattle.ticks.specs.Fits.{Ticked}
use Rattle.dispatch.specs.Judged.{in_bounds}
use Rattle.dispatch.specs.declared.Stepped.{Stepped}

-- ---- step

-- What a step comes to: a refusal, or who ran, if somebody did; and the state after it.
pub record Did : Type 0 where
  pub ran : Outcome (Option ℕ)
  pub after : State

-- "12, then 13": a refusal gives back the state; else a tick of 01.
abbrev pub result_for : Plan → State → Bool → Option Fault → Did
result_for p st silent None = record { ran = gives (chosen p st); after = tick p st silent }
result_for p st silent (Some f) = record { ran = refused f; after = st }

-- What a step of this plan comes to from this state, with this report.
unfoldable pub step_result : Plan → State → Bool → Did
step_result p st silent = result_for p st silent (step_fault p st)

-- an answer and the state after it
abbrev pub did : Result (Option ℕ) Refusal → State → Did
did r st = record { ran = said r; after = st }

-- The promise of `step`: its answer and the lent lists at exit are what 01 says.
pub record Steps (p : Plan) (st : State) (silent : Bool) (r : Stepped) (st' : State) : Type 0 where
  pub is : did r.ran st' ≡ step_result p st silent

-- ---- laws for the code, each way out

module _ (p : Plan) (st : State) (silent : Bool) where
  pub step-refused : (f : Refusal) → step_fault p st ≡ Some (fault_of f) → did (Err f) st ≡ step_result p st silent
  unfolding step_result
  step-refused f e = rw e

  pub step_ran : (o : Option ℕ) (st' : State) → step_fault p st ≡ None → Ticked p st silent o st' → did (Ok o) st' ≡ step_result p st silent
  unfolding step_result
  step_ran o st' e t = rw (e, ← t.who, t.becomes)

-- ---- start and run

-- Three lent lists.
pub record Lists : Type 0 where
  pub executed : List ℕ
  pub marks : List ℕ
  pub finish : List ℕ

-- the three of them by name
abbrev pub lists : List ℕ → List ℕ → List ℕ → Lists
lists e m f = record { executed = e; marks = m; finish = f }

-- what the code's three hold
abbrev pub contents : code.Lists → Lists
contents l = lists l.executed.now l.marks.now l.finish.now

-- "Success writes the needed front of each lent list; the rest keeps its content."
abbrev pub over : List ℕ → List ℕ → List ℕ
over front old = front ++ drop (length front) old

-- The lent lists with a state in their fronts.
abbrev pub holding : State → Lists → Lists
holding st l = lists (over st.executed l.executed) (over st.marks l.marks) (over st.finish l.finish)

-- 12 for the plan, then 11 for room.
unfoldable pub start_fault : Plan → ℕ → ℕ → ℕ → Option Fault
start_fault p executed marks finish =
    first_of
    (demand (plan_in_bounds p) 12
    ∷ room (job_count p.table) executed
    ∷ room (job_count p.table) marks
    ∷ room (job_count p.table) finish
    ∷ [])

-- What is reached: a refusal, or the tick; and the lent lists.
pub record Reach : Type 0 where
  pub tick : Outcome ℕ
  pub lent : Lists

-- A refusal leaves the lent lists as they were; else the state stands in their fronts.
abbrev pub reach_for : State → Lists → Option Fault → Reach
reach_for st l None = record { tick = gives st.tick; lent = holding st l }
reach_for st l (Some f) = record { tick = refused f; lent = l }

-- What a start into these lists is refused for.
abbrev pub fault_for : Plan → Lists → Option Fault
fault_for p l = start_fault p (length l.executed) (length l.marks) (length l.finish)

-- an answer and the lent lists
abbrev pub told : Result ℕ Refusal → Lists → Reach
told r l = record { tick = said r; lent = l }

-- The promise of `start`: the state at tick 0 in the fronts of the lent lists.
pub record Starts (p : Plan) (l : Lists) (r : Result ℕ Refusal) (l' : Lists) : Type 0 where
  pub is : told r l' ≡ reach_for (start p) l (fault_for p l)

-- The promise of `run`: the state in which all have finished, every report answered.
pub record Runs (p : Plan) (l : Lists) (r : Result ℕ Refusal) (l' : Lists) : Type 0 where
  pub is : told r l' ≡ reach_for (end_state p) l (fault_for p l)

-- ---- laws for the code: the judgement before a start, each way out

module _ (p : Plan) (a b c : ℕ) where
  pub start_unfit : plan_in_bounds p ≡ false → Some (fault 12 0) ≡ start_fault p a b c
  unfolding start_fault
  start_unfit e = rw e

  module _ (e : plan_in_bounds p ≡ true) where
    pub start_short : (a < job_count p.table) ⊎ ((b < job_count p.table) ⊎ (c < job_count p.table)) → Some (fault 11 0) ≡ start_fault p a b c
    unfolding start_fault
    start_short s = rw e (go (le_says (job_count p.table) a) (le_says (job_count p.table) b) (le_says (job_count p.table) c))
      where
        go : {x y z : Bool}
            → Says (job_count p.table ≤ a) (a < job_count p.table) x
            → Says (job_count p.table ≤ b) (b < job_count p.table) y
            → Says (job_count p.table ≤ c) (c < job_count p.table) z
            → Some (fault 11 0) ≡ first_of (None ∷ demand x 11 ∷ demand y 11 ∷ demand z 11 ∷ [])
        go (not_so x) y z = refl
        go (so x) (not_so y) z = refl
        go (so x) (so y) (not_so z) = refl
        go (so x) (so y) (so z) =
            ⊎_elim (λ l. absurd (omega arith)) (⊎_elim (λ l. absurd (omega arith)) (λ l. absurd (omega arith))) s

    pub start_ready : job_count p.table ≤ a → job_count p.table ≤ b → job_count p.table ≤ c → None ≡ start_fault p a b c
    unfolding start_fault
    start_ready h g l = rw (e, le-leb (job_count p.table) a h, le-leb (job_count p.table) b g, le-leb (job_count p.table) c l)

  -- what is known where it can start
  pub start-room : start_fault p a b c ≡ None
      → (plan_in_bounds p ≡ true) × (job_count p.table ≤ a) × (job_count p.table ≤ b) × (job_count p.table ≤ c)
  unfolding start_fault
  start-room e =
      let h =
      all_none
      (demand (plan_in_bounds p) 12 ∷ room (job_count p.table) a ∷ room (job_count p.table) b ∷ room (job_count p.table) c ∷ [])
      e in (
        demand-none _ 12 h.0,
        yes_says (le_says _ _) (demand-none _ 11 h.1.0),
        yes_says (le_says _ _) (demand-none _ 11 h.1.1.0),
        yes_says (le_says _ _) (demand-none _ 11 h.1.1.1.0),
      )

-- ---- laws for the code: start and run, each way out

module _ (p : Plan) (st : State) (l : Lists) where
  pub reach_refused : (f : Refusal) → fault_for p l ≡ Some (fault_of f) → told (Err f) l ≡ reach_for st l (fault_for p l)
  reach_refused f e = rw e

  pub reach_holds : (l' : Lists) → fault_for p l ≡ None → l' ≡ holding st l → told (Ok st.tick) l' ≡ reach_for st l (fault_for p l)
  reach_holds l' e h = rw (e, h)

zeros-over : (n : ℕ) (old new : List ℕ) → new ≡ replicate n 0 ++ drop n old → new ≡ over (replicate n 0) old
zeros-over n old new e = rw (length-replicate {A = ℕ} n 0) e

pub start-holds : (p : Plan) (e m f e' m' f' : List ℕ)
    → e' ≡ replicate (job_count p.table) 0 ++ drop (job_count p.table) e
    → m' ≡ replicate (job_count p.table) 0 ++ drop (job_count p.table) m
    → f' ≡ replicate (job_count p.table) 0 ++ drop (job_count p.table) f
    → lists e' m' f' ≡ holding (start p) (lists e m f)
unfolding start
start-holds p e m f e' m' f' x y z =
    let n : ℕ = job_count p.table in
    rw (zeros-over n e e' x, zeros-over n m m' y, zeros-over n f f' z)

-- lists with the start in their fronts are as long as the jobs at least
pub start_long : (p : Plan) (l l' : Lists) → l' ≡ holding (start p) l
    → (job_count p.table ≤ length l'.executed) × (job_count p.table ≤ length l'.marks) × (job_count p.table ≤ length l'.finish)
unfolding start
start_long p l l' e = rw e (long l.executed, long l.marks, long l.finish)
  where
    long : (old : List ℕ) → job_count p.table ≤ length (over (replicate (job_count p.table) 0) old)
    long old = simp (length-append, length-replicate) (omega arith)

-- ---- what a reached state says

pub refused-kept : (st : State) (l l' : Lists) (o : Option Fault) (f : Refusal) → told (Err f) l' ≡ reach_for st l o → (o ≡ Some (fault_of f)) × (l' ≡ l)
refused-kept st l l' None f e = let t : refused (fault_of f) ≡ gives st.tick = ap (λ (r : Reach). r.tick) e in (cc, cc)
refused-kept st l l' (Some g) f e =
    let t : refused (fault_of f) ≡ refused g = ap (λ (r : Reach). r.tick) e in (cc, ap (λ (r : Reach). r.lent) e)

pub reached_holds : (st : State) (l l' : Lists) (o : Option Fault) (t : ℕ) → told (Ok t) l' ≡ reach_for st l o → (o ≡ None) × (l' ≡ holding st l)
reached_holds st l l' None t e = (refl, ap (λ (r : Reach). r.lent) e)
reached_holds st l l' (Some g) t e = let q : gives t ≡ refused g = ap (λ (r : Reach). r.tick) e in (cc, cc)

-- ---- the end of a run, from its start in the fronts

front_zeros : (n : ℕ) (old new : List ℕ) → new ≡ over (replicate n 0) old → (take n new ≡ replicate n 0) × (drop n new ≡ drop n old)
front_zeros n old new e =
    let k : length (replicate {A = ℕ} n 0) ≡ n = length-replicate {A = ℕ} n 0 in (
      rw e (take_at (replicate n 0) (drop (length (replicate {A = ℕ} n 0)) old) n k),
      rw e (drop_at (replicate n 0) (drop (length (replicate {A = ℕ} n 0)) old) n k ∙ ap (λ i. drop i old) k),
    )

module _ (p : Plan) (l l₁ : Lists) (end : ℕ) (e m f : List ℕ)
    (begun : l₁ ≡ holding (start p) l)
    (ended : state end e m f
    ≡ answered p (all_end_by p) (state 0 (take (job_count p.table) l₁.executed) (take (job_count p.table) l₁.marks) (take (job_count p.table) l₁.finish))) where
  zeros : (old new : List ℕ) → new ≡ over (replicate (job_count p.table) 0) old
      → (take (job_count p.table) new ≡ replicate (job_count p.table) 0) × (drop (job_count p.table) new ≡ drop (job_count p.table) old)
  zeros old new = front_zeros (job_count p.table) old new

  ends : state end e m f ≡ end_state p
  unfolding end_state start
  ends =
      ended
      ∙ rw (
        (zeros l.executed l₁.executed (ap (λ (x : Lists). x.executed) begun)).0,
        (zeros l.marks l₁.marks (ap (λ (x : Lists). x.marks) begun)).0,
        (zeros l.finish l₁.finish (ap (λ (x : Lists). x.finish) begun)).0,
      )
      refl

  pub run_holds : length e ≡ job_count p.table → length m ≡ job_count p.table → length f ≡ job_count p.table
      → told (Ok end) (lists (e ++ drop (job_count p.table) l₁.executed) (m ++ drop (job_count p.table) l₁.marks) (f ++ drop (job_count p.table) l₁.finish))
      ≡ reach_for (end_state p) l None
  unfolding start
  run_holds x y z =
      rw (
        ← ends,
        x,
        y,
        z,
        (zeros l.executed l₁.executed (ap (λ (w : Lists). w.executed) begun)).1,
        (zeros l.marks l₁.marks (ap (λ (w : Lists). w.marks) begun)).1,
        (zeros l.finish l₁.finish (ap (λ (w : Lists). w.finish) begun)).1,
      )
      refl

-- ---- lateness

-- "Lateness, of a finished job only": else there is none.
unfoldable pub lateness_in : Plan → State → ℕ → Option ℤ
unfolding lateness
lateness_in p st j = cond (finished p st j) (Some (lateness p st j)) None

-- 12 for a plan or a state out of bounds, or a job not in the table.
unfoldable pub lateness_asked : Plan → State → ℕ → Outcome (Option ℤ)
lateness_asked p st j = unless (demand (in_bounds p st && ltb j (job_count p.table)) 12) (lateness_in p st j)

-- The promise of `lateness`.
pub record Lateness (p : Plan) (st : State) (j : ℕ) (r : Result (Option ℤ) Refusal) : Type 0 where
  pub is : said r ≡ lateness_asked p st j

-- each way out
module _ (p : Plan) (st : State) (j : ℕ) where
  pub late_unfit : in_bounds p st ≡ false → refused (fault 12 0) ≡ lateness_asked p st j
  unfolding lateness_asked
  late_unfit a = rw a

  module _ (a : in_bounds p st ≡ true) where
    pub late_nobody : job_count p.table ≤ j → refused (fault 12 0) ≡ lateness_asked p st j
    unfolding lateness_asked
    late_nobody l = rw (a, le-ltb j (job_count p.table) l)

    pub late_known : j < job_count p.table → gives (lateness_in p st j) ≡ lateness_asked p st j
    unfolding lateness_asked
    late_known l = rw (a, lt-ltb j (job_count p.table) l)

module _ (p : Plan) (st : State) (j : ℕ) where
  pub not-finished : (executed st j ≡ cost p.table j → ⊥) → None ≡ lateness_in p st j
  unfolding lateness_in
  not-finished n = rw (ne_eqb _ _ n)

  pub ended_by : (z : ℤ) → executed st j ≡ cost p.table j → z ≡ sub_ℕ (finish st j) (deadline p.table j) → Some z ≡ lateness_in p st j
  unfolding lateness_in
  ended_by z n q = rw (eq-eqb _ _ n, q)
