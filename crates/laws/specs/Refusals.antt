-- What an accepted table and a plan within its bounds are known to be, as facts.
use Rattle.std.specs.Prelude.{◌≡◌, refl, Bool, true, false, List, [], ◌∷◌, ◌++◌, ℕ, ◌+◌, ◌*◌, ◌%◌, ◌≤◌, ◌<◌, length, Option, None, Some}
use Rattle.std.proofs.Common.{⊎_elim, append_assoc, arith}
use Rattle.rules.specs.Rows.{all, lowest}
use Rattle.rules.specs.Table.{
  Table,
  Plan,
  job_width,
  arc_width,
  section_width,
  most_jobs,
  most_arcs,
  most_sections,
  latest,
  most_cost,
  resources,
  job_count,
  release,
  cost,
  deadline,
  arc_count,
  before,
  after,
  section_count,
  owner,
  resource,
  from,
  to,
  modified_release,
  modified_deadline,
}
use Rattle.rules.specs.Times.{lift, new_release, lifted_deadline}
use Rattle.rules.specs.Refusals.{
  Fault,
  gives,
  first_of,
  unless,
  demand,
  at_row,
  count_faults,
  row_faults,
  plan_faults,
  job_out,
  arc_out,
  section_out,
  clashes,
  on_cycle,
  too_short,
  check_fault,
  plan_of,
  check,
  accepted,
  times_right,
  plan_in_bounds,
}
use Rattle.laws.specs.Tests.{
  Says,
  bool_says,
  says_map,
  says_and,
  says_or,
  lt_says,
  le_says,
  eq_says,
  yes_says,
  no_says,
}
use Rattle.laws.specs.Rows.{Lowest, lowest-told, all-at}

-- ---- refusals in order

-- where no refusal is found, each stage finds none
abbrev pub AllNone : List (Option Fault) → Type 0
AllNone [] = Unit {0}
AllNone (o ∷ later) = (o ≡ None) × AllNone later

pub all_none : (xs : List (Option Fault)) → first_of xs ≡ None → AllNone xs
all_none [] e = tt
all_none (None ∷ xs) e = (refl, all_none xs e)
all_none (Some f ∷ xs) e = let z : ◌≡◌ {A = ℕ} 0 1 = cc in absurd (omega arith)

pub first_of_append : (xs ys : List (Option Fault)) → first_of (xs ++ ys) ≡ None → (first_of xs ≡ None) × (first_of ys ≡ None)
first_of_append [] ys e = (refl, e)
first_of_append (None ∷ xs) ys e = first_of_append xs ys e
first_of_append (Some f ∷ xs) ys e = let z : ◌≡◌ {A = ℕ} 0 1 = cc in absurd (omega arith)

-- a stage that finds nothing
pub demand-none : (b : Bool) (n : ℕ) → demand b n ≡ None → b ≡ true
demand-none true n e = refl
demand-none false n e = let z : ◌≡◌ {A = ℕ} 0 1 = cc in absurd (omega arith)

pub rows_none : (n : ℕ) (f : ℕ → Bool) (m : ℕ) → at_row n (lowest f m) ≡ None → (k : ℕ) → k < m → f k ≡ false
rows_none n f m e = go (lowest f m) (lowest-told f m) e
  where
    go : (o : Option ℕ) → Lowest f m o → at_row n o ≡ None → (k : ℕ) → k < m → f k ≡ false
    go None h q = h
    go (Some i) h q = let z : ◌≡◌ {A = ℕ} 0 1 = cc in absurd (omega arith)

-- ---- rules 2 to 7, as facts

-- 5 does not apply to job j
pub record JobIn (t : Table) (j : ℕ) : Type 0 where
  pub release_in : release t j ≤ latest
  pub costs : 1 ≤ cost t j
  pub cost_in : cost t j ≤ most_cost
  pub deadline_in : deadline t j ≤ latest

-- 6 does not apply to arc a
pub record ArcIn (t : Table) (a : ℕ) : Type 0 where
  pub before_in : before t a < job_count t
  pub after_in : after t a < job_count t

-- 7 does not apply to section s
pub record SectionIn (t : Table) (s : ℕ) : Type 0 where
  pub owner_in : owner t s < job_count t
  pub resource_in : resource t s < resources
  pub begins : from t s < to t s
  pub fits : to t s ≤ cost t (owner t s)

-- 2 to 7 do not apply
pub record RowsRight (t : Table) : Type 0 where
  pub jobs_whole : length t.jobs % job_width ≡ 0
  pub some_job : 1 ≤ job_count t
  pub few_jobs : job_count t ≤ most_jobs
  pub arcs_whole : length t.arcs % arc_width ≡ 0
  pub few_arcs : arc_count t ≤ most_arcs
  pub sections_whole : length t.sections % section_width ≡ 0
  pub few_sections : section_count t ≤ most_sections
  pub job_in : (j : ℕ) → j < job_count t → JobIn t j
  pub arc_in : (a : ℕ) → a < arc_count t → ArcIn t a
  pub section_in : (s : ℕ) → s < section_count t → SectionIn t s

pub job_says : (t : Table) (j : ℕ) → Says (JobIn t j → ⊥) (JobIn t j) (job_out t j)
unfolding job_out
job_says t j =
    says_map
    (⊎_elim
    (λ l h. omega (arith, h.release_in))
    (⊎_elim (λ l h. omega (arith, h.costs)) (⊎_elim (λ l h. omega (arith, h.cost_in)) (λ l h. omega (arith, h.deadline_in)))))
    (λ w. record { release_in = w.0; costs = omega (arith, w.1.0); cost_in = w.1.1.0; deadline_in = w.1.1.1 })
    (says_or
    (lt_says latest (release t j))
    (says_or (eq_says (cost t j) 0) (says_or (lt_says most_cost (cost t j)) (lt_says latest (deadline t j)))))

pub arc_says : (t : Table) (a : ℕ) → Says (ArcIn t a → ⊥) (ArcIn t a) (arc_out t a)
unfolding arc_out
arc_says t a =
    says_map
    (⊎_elim (λ l h. omega (arith, h.before_in)) (λ l h. omega (arith, h.after_in)))
    (λ w. record { before_in = w.0; after_in = w.1 })
    (says_or (le_says (job_count t) (before t a)) (le_says (job_count t) (after t a)))

pub section_says : (t : Table) (s : ℕ) → Says (SectionIn t s → ⊥) (SectionIn t s) (section_out t s)
unfolding section_out
section_says t s =
    says_map
    (⊎_elim
    (λ l h. omega (arith, h.owner_in))
    (⊎_elim (λ l h. omega (arith, h.resource_in)) (⊎_elim (λ l h. omega (arith, h.begins)) (λ l h. omega (arith, h.fits)))))
    (λ w. record { owner_in = w.0; resource_in = w.1.0; begins = w.1.1.0; fits = w.1.1.1 })
    (says_or
    (le_says (job_count t) (owner t s))
    (says_or
    (le_says resources (resource t s))
    (says_or (le_says (to t s) (from t s)) (lt_says (cost t (owner t s)) (to t s)))))

pub rows_right : (t : Table) → first_of (count_faults t ++ row_faults t) ≡ None → RowsRight t
unfolding count_faults row_faults
rows_right t e =
    let h : AllNone (count_faults t ++ row_faults t) = all_none (count_faults t ++ row_faults t) e in
    let jobs =
    yes_says
    (says_and (eq_says (length t.jobs % job_width) 0) (says_and (le_says 1 (job_count t)) (le_says (job_count t) most_jobs)))
    (demand-none _ 2 h.0) in
    let arcs =
    yes_says (says_and (eq_says (length t.arcs % arc_width) 0) (le_says (arc_count t) most_arcs)) (demand-none _ 3 h.1.0) in
    let sections =
    yes_says
    (says_and (eq_says (length t.sections % section_width) 0) (le_says (section_count t) most_sections))
    (demand-none _ 4 h.1.1.0) in
    record {
      jobs_whole = jobs.0;
      some_job = jobs.1.0;
      few_jobs = jobs.1.1;
      arcs_whole = arcs.0;
      few_arcs = arcs.1;
      sections_whole = sections.0;
      few_sections = sections.1;
      job_in = λ j l. no_says (job_says t j) (rows_none 5 (job_out t) (job_count t) h.1.1.1.0 j l);
      arc_in = λ k l. no_says (arc_says t k) (rows_none 6 (arc_out t) (arc_count t) h.1.1.1.1.0 k l);
      section_in = λ s l. no_says (section_says t s) (rows_none 7 (section_out t) (section_count t) h.1.1.1.1.1.0 s l);
    }

-- ---- a plan within its bounds

accepted-none : (o : Option Fault) → accepted o ≡ true → o ≡ None
accepted-none None e = refl
accepted-none (Some f) e = let z : ◌≡◌ {A = ℕ} 0 1 = cc in absurd (omega arith)

-- what `times_right` tests, as facts
pub record TimesIn (p : Plan) (j : ℕ) : Type 0 where
  pub release_in : modified_release p j ≤ latest
  pub deadline_in : modified_deadline p j ≤ latest
  pub window : modified_release p j + cost p.table j ≤ modified_deadline p j

pub times_says : (p : Plan) (j : ℕ) → Says (TimesIn p j) (TimesIn p j → ⊥) (times_right p j)
unfolding times_right
times_says p j =
    says_map
    (λ w. record { release_in = w.0; deadline_in = w.1.0; window = w.1.1 })
    (⊎_elim
    (λ l h. omega (arith, h.release_in))
    (⊎_elim (λ l h. omega (arith, h.deadline_in)) (λ l h. omega (arith, h.window))))
    (says_and
    (le_says (modified_release p j) latest)
    (says_and (le_says (modified_deadline p j) latest) (le_says (modified_release p j + cost p.table j) (modified_deadline p j))))

module _ (p : Plan) (e : plan_in_bounds p ≡ true) where
  bounds_parts : RowsRight p.table
      × (length p.times ≡ 2 * job_count p.table) × (all (times_right p) (job_count p.table) ≡ true)
  unfolding plan_in_bounds
  bounds_parts =
      let (values, rest) =
      yes_says
      (says_and
      (bool_says (accepted (first_of (count_faults p.table ++ row_faults p.table))))
      (says_and (eq_says (length p.times) (2 * job_count p.table)) (bool_says (all (times_right p) (job_count p.table)))))
      e in
      (rows_right p.table (accepted-none (first_of (count_faults p.table ++ row_faults p.table)) values), rest.0, rest.1)

  pub bounds_rows : RowsRight p.table × (length p.times ≡ 2 * job_count p.table)
  bounds_rows = (bounds_parts.0, bounds_parts.1)

  pub bounds_times : (j : ℕ) → j < job_count p.table → TimesIn p j
  bounds_times j l = yes_says (times_says p j) (all-at (times_right p) (job_count p.table) bounds_parts.2 j l)

-- ---- an accepted table

-- what is known of an accepted table: 2 to 10 do not apply
pub record Accepted (t : Table) : Type 0 where
  pub rows : RowsRight t
  pub no_clash : (s : ℕ) → s < section_count t → clashes t s ≡ false
  pub acyclic : (j : ℕ) → j < job_count t → on_cycle t j ≡ false
  pub wide : (j : ℕ) → j < job_count t → lift + new_release t j + cost t j ≤ lifted_deadline t j

unless-gives : {A : Type 0} (o : Option Fault) (a b : A) → unless o a ≡ gives b → (o ≡ None) × (a ≡ b)
unless-gives None a b e = (refl, cc)
unless-gives (Some f) a b e = let z : ◌≡◌ {A = ℕ} 0 1 = cc in absurd (omega arith)

-- what the check accepts, it gives the plan of
pub check-gives : (t : Table) (p : Plan) → check t ≡ gives p → (check_fault t ≡ None) × (plan_of t ≡ p)
unfolding check
check-gives t p e = unless-gives (check_fault t) (plan_of t) p e

pub accepted_facts : (t : Table) → check_fault t ≡ None → Accepted t
unfolding check_fault plan_faults too_short
accepted_facts t e =
    let front = first_of_append (count_faults t ++ row_faults t) (plan_faults t) (rw (append_assoc (count_faults t) (row_faults t) (plan_faults t)) e) in
    let h : AllNone (plan_faults t) = all_none (plan_faults t) front.1 in
    record {
      rows = rows_right t front.0;
      no_clash = rows_none 8 (clashes t) (section_count t) h.0;
      acyclic = rows_none 9 (on_cycle t) (job_count t) h.1.0;
      wide = λ j l.
          no_says (lt_says (lifted_deadline t j) (lift + new_release t j + cost t j)) (rows_none 10 (too_short t) (job_count t) h.1.1.0 j l);
    }
