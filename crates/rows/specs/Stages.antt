-- Laws for the code: what each stage finds, and that the first find is the answer.
use Rattle.std.specs.Prelude.{◌≡◌, refl, Bool, true, false, not, ◌&&◌, List, [], ◌∷◌, ◌++◌, ℕ, zero, suc, ◌%◌, ◌≤◌, ◌<◌, length, Option, None, Some, Result, Ok, Err}
use Rattle.std.specs.Result.{is_ok}
use Rattle.std.proofs.Common.{sym, ◌∙◌, ap, subst, append_assoc}
use Rattle.rules.specs.Rows.{or_else, lowest, all}
use Rattle.rules.specs.Table.{Table, job_count, arc_count, section_count}
use Rattle.rules.specs.Refusals.{Fault, first_of, at_row, accepted, count_faults, row_faults, job_out, arc_out, section_out, clashes}
use Rattle.rules.specs.declared.Refusal.{Refusal}
use Rattle.laws.specs.Answers.{fault_in}
use Rattle.laws.specs.Tests.{le_says, eq_says, says_and, yes_says}
use Rattle.laws.specs.Rows.{Lowest, lowest-told}
use Rattle.laws.specs.Refusals.{AllNone, all_none, first_of_append, demand-none, RowsRight, rows_right}
use Rattle.rows.specs.Judged.{values_fault, clashes_fault}

-- nothing is found where every row passes
pub none_found : (number : ℕ) (f : ℕ → Bool) (n : ℕ) → accepted (at_row number (lowest f n)) ≡ all (λ k. not (f k)) n
unfolding lowest all
none_found number f zero = refl
none_found number f (suc n) = go (lowest f n) (f n) ∙ ap (λ b. b && not (f n)) (none_found number f n)
  where
    go : (found : Option ℕ) (breaks : Bool) → accepted (at_row number (or_else found breaks n)) ≡ (accepted (at_row number found) && not breaks)
    go (Some k) breaks = refl
    go None true = refl
    go None false = refl

-- what the front finds is found first
pub front : (xs ys : List (Option Fault)) → first_of (first_of xs ∷ ys) ≡ first_of (xs ++ ys)
front [] ys = refl
front (None ∷ xs) ys = front xs ys
front (Some f ∷ xs) ys = refl

-- the finds of the stages make up what 2 to 7 find
pub values_are : (t : Table) {c : Option Fault} {j a s : Option ℕ} → c ≡ first_of (count_faults t)
    → j ≡ lowest (job_out t) (job_count t) → a ≡ lowest (arc_out t) (arc_count t) → s ≡ lowest (section_out t) (section_count t)
    → first_of (c ∷ at_row 5 j ∷ at_row 6 a ∷ at_row 7 s ∷ []) ≡ values_fault t
unfolding values_fault row_faults
values_are t p q r u = rw (p, q, r, u) (front (count_faults t) (row_faults t))

-- an answer is right where it gives no fault
pub ok_accepted : (r : Result (Unit {0}) Refusal) → is_ok r ≡ accepted (fault_in r)
ok_accepted (Ok u) = refl
ok_accepted (Err e) = refl

-- whether each stage finds nothing makes up whether 2 to 7 find nothing
pub values_asked : (t : Table) {c j a s : Bool} → c ≡ accepted (first_of (count_faults t))
    → a ≡ all (λ k. not (arc_out t k)) (arc_count t) → j ≡ all (λ k. not (job_out t k)) (job_count t)
    → s ≡ all (λ k. not (section_out t k)) (section_count t)
    → (c && (a && (j && s))) ≡ accepted (values_fault t)
values_asked t p q r u =
    rw (p, q, r, u, ← none_found 5 (job_out t) (job_count t), ← none_found 6 (arc_out t) (arc_count t), ← none_found 7 (section_out t) (section_count t))
    (go (first_of (count_faults t)) (at_row 5 (lowest (job_out t) (job_count t))) (at_row 6 (lowest (arc_out t) (arc_count t)))
    (at_row 7 (lowest (section_out t) (section_count t)))
    ∙ ap accepted (values_are t refl refl refl refl))
  where
    go : (c j a s : Option Fault) → (accepted c && (accepted a && (accepted j && accepted s))) ≡ accepted (first_of (c ∷ j ∷ a ∷ s ∷ []))
    go (Some f) j a s = refl
    go None (Some f) (Some g) s = refl
    go None (Some f) None s = refl
    go None None (Some f) s = refl
    go None None None (Some f) = refl
    go None None None None = refl

-- and with 8, what 2 to 8 find
pub clashes_are : (t : Table) {v : Option Fault} {s : Option ℕ} → v ≡ values_fault t → s ≡ lowest (clashes t) (section_count t)
    → first_of (v ∷ at_row 8 s ∷ []) ≡ clashes_fault t
unfolding values_fault clashes_fault
clashes_are t p q =
    rw (p, q)
    (front (count_faults t ++ row_faults t) (at_row 8 (lowest (clashes t) (section_count t)) ∷ [])
    ∙ ap first_of (append_assoc (count_faults t) (row_faults t) (at_row 8 (lowest (clashes t) (section_count t)) ∷ [])))

-- a row that is found is one of those
pub found_below : (f : ℕ → Bool) (n : ℕ) {i : ℕ} → Some i ≡ lowest f n → i < n
found_below f n {i} e = let h : Lowest f n (Some i) = subst (Lowest f n) (sym e) (lowest-told f n) in h.0

-- where the counts are right there are few rows of each kind
pub few_rows : (t : Table) → None ≡ first_of (count_faults t) → (job_count t ≤ 64) × (arc_count t ≤ 256) × (section_count t ≤ 128)
unfolding count_faults
few_rows t e =
    let h : AllNone (count_faults t) = all_none (count_faults t) (sym e) in
    let jobs = yes_says (says_and (eq_says (length t.jobs % 3) 0) (says_and (le_says 1 (job_count t)) (le_says (job_count t) 64))) (demand-none _ 2 h.0) in
    let arcs = yes_says (says_and (eq_says (length t.arcs % 2) 0) (le_says (arc_count t) 256)) (demand-none _ 3 h.1.0) in
    let sections = yes_says (says_and (eq_says (length t.sections % 4) 0) (le_says (section_count t) 128)) (demand-none _ 4 h.1.1.0) in
    (jobs.1.1, arcs.1, sections.1)

pub values_counts : (t : Table) → None ≡ values_fault t → None ≡ first_of (count_faults t)
unfolding values_fault
values_counts t e = sym (first_of_append (count_faults t) (row_faults t) (sym e)).0

-- where 2 to 7, and what is looked for after them, find nothing, counts and rows are right
pub front_rows : (t : Table) (later : List (Option Fault)) → first_of (count_faults t ++ (row_faults t ++ later)) ≡ None → RowsRight t
front_rows t later e =
    rows_right t (first_of_append (count_faults t ++ row_faults t) later (rw (append_assoc (count_faults t) (row_faults t) later) e)).0

-- a later stage joins those before it
pub front_later : (t : Table) (before later : List (Option Fault))
    → first_of (first_of (count_faults t ++ (row_faults t ++ before)) ∷ later) ≡ first_of (count_faults t ++ (row_faults t ++ (before ++ later)))
front_later t before later =
    front (count_faults t ++ (row_faults t ++ before)) later
    ∙ ap first_of
    (append_assoc (count_faults t) (row_faults t ++ before) later ∙ ap (λ l. count_faults t ++ l) (append_assoc (row_faults t) before later))
