-- What the theorems use of an accepted table: right rows, sections that nest, and ancestors that come before.
use Rattle.std.specs.Prelude.{◌≡◌, refl, ◌⊎◌, true, false, ℕ, ◌≤◌, ◌<◌, None}
use Rattle.std.proofs.Common.{sym, ap, inl, inr, ⊎_elim, arith}
use Rattle.rules.specs.Table.{Table, Plan, latest, job_count, precedes, section_count, modified_release}
use Rattle.rules.specs.Order.{comes_before}
use Rattle.rules.specs.Refusals.{gives, clashes, check_fault, plan_of, check, plan_in_bounds}
use Rattle.laws.specs.Keys.{key_of, before-key}
use Rattle.laws.specs.Nesting.{nest}
use Rattle.laws.specs.Reach.{Ancestor, direct, further, ancestor_inside}
use Rattle.laws.specs.Refusals.{RowsRight, check-gives, accepted_facts}
use Rattle.laws.specs.Accepted.{arcs_inside, consistent, ancestors-before, window, due, plan_in_bounds_lem}
use Rattle.run_laws.specs.Marks.{Kin}
use Rattle.run_laws.specs.Sections.{Nested, listed}
use Rattle.run_laws.specs.Plans.{jobs_of, sections_of}

-- What the theorems use of an accepted table's plan.
pub record Sound (p : Plan) : Type 0 where
  pub rows : RowsRight p.table
  -- refusal 8
  pub no_clash : (s : ℕ) → s < section_count p.table → clashes p.table s ≡ false
  -- 003, definition 3.1
  pub released_first : {i j : ℕ} → Ancestor p.table i j → modified_release p i ≤ modified_release p j
  pub comes_first : {i j : ℕ} → Ancestor p.table i j → comes_before p i j ≡ true
  pub releases_in : (j : ℕ) → j < job_count p.table → modified_release p j ≤ latest
  -- refusal 12, the plan's part
  pub within_bounds : plan_in_bounds p ≡ true

-- The plan of every accepted table is so.
plan_sound : (t : Table) → check_fault t ≡ None → Sound (plan_of t)
unfolding plan_of
plan_sound t e =
    let A = accepted_facts t e in
    record {
      rows = A.rows;
      no_clash = A.no_clash;
      released_first = λ {i} {j} a. (consistent t A a).0;
      comes_first = λ {i} {j} a. ancestors-before t A a;
      releases_in = λ j l. omega (arith, window t A j l, due t A j l, (A.rows.job_in j l).deadline_in);
      within_bounds = plan_in_bounds_lem t e;
    }

pub check_sound : (t : Table) (p : Plan) → check t ≡ gives p → Sound p
check_sound t p c = let (e, q) = check-gives t p c in rw q at (plan_sound t e)

-- the plan has the table in it
pub check-table : (t : Table) (p : Plan) → check t ≡ gives p → p.table ≡ t
unfolding plan_of
check-table t p c = ap (λ q. q.table) (sym (check-gives t p c).1)

-- the last arc of a chain
pub last_arc : {t : Table} {i j : ℕ} → Ancestor t i j → (m : ℕ) × ((i ≡ m) ⊎ Ancestor t i m) × (precedes t m j ≡ true)
last_arc (direct {i} e) = (i, inl refl, e)
last_arc (further {m = m} a e) = (m, inr a, e)

module _ (p : Plan) (S : Sound p) where
  -- an ancestor comes before and is released no later
  pub forward : {i j : ℕ} → Ancestor p.table i j → (key_of p i < key_of p j) × (modified_release p i ≤ modified_release p j)
  forward {i} {j} a =
      let (li, lj) = ancestor_inside p.table (arcs_inside p.table S.rows) a in
      (before-key p i j li lj (S.comes_first a), S.released_first a)

  -- Arcs and ancestors, as the theory asks for them.
  abbrev pub kin_of : Kin (jobs_of p S.rows)
  kin_of =
      record {
        Arc = λ i j. precedes p.table i j ≡ true;
        Anc = λ i j. (i ≡ j) ⊎ Ancestor p.table i j;
        self = λ j. inl refl;
        via = λ {i} {m} {j} a e. inr (⊎_elim (λ q. direct (rw q e)) (λ b. further b e) a);
        last = λ {i} {j} a. ⊎_elim inl (λ b. inr (last_arc b)) a;
        ahead = λ {i} {j} a n. ⊎_elim (λ q. absurd (n q)) forward a;
        tail = λ {i} {j} e. (S.rows.job_in i (ancestor_inside p.table (arcs_inside p.table S.rows) (direct e)).0).costs;
        acyclic = λ {i} {j} e q. omega (arith, (forward (direct e)).0, ap (key_of p) q);
      }

  -- Sections of one job that share a tick lie one within the other.
  pub sections_nest : Nested (sections_of p S.rows)
  sections_nest s τ o a b =
      ⊎_elim
      (λ w. inl (w.begins_after, w.ends-before))
      (λ w. inr (w.begins_after, w.ends-before))
      (nest p.table S.no_clash s τ (listed (sections_of p S.rows) b) (listed (sections_of p S.rows) a) o
      (record { one = a; other = b }))
