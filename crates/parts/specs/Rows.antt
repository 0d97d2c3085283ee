-- Rows of a part: how many values they have, and their text.
use Rattle.std.specs.Prelude.{◌≡◌, true, List, ℕ, ◌+◌, ◌*◌, ◌/◌, ◌%◌, ◌≤◌, leb, length}
use Rattle.std.proofs.Math.Bool.{and-eq-true_iff}
use Rattle.std.proofs.Common.{append_assoc, arith, eq-eqb, leb-true, length-append}
use Rattle.rules.specs.Table.{Table, most_jobs, most_arcs, most_sections}
use Rattle.rules.specs.Text.{job_part, arc_part, section_part, key, line, value_lines, part_text, text_of}
use Rattle.rules.specs.Text as rules
use Rattle.laws.specs.Text.{length_right, Counted, part_text_lem, text_of_lem}
use Rattle.parts.specs.declared.Part.{Part}
use Rattle.parts.specs.declared.Part.TheVariants.{Jobs, Arcs, Sections}
use Rattle.parts.specs.Parts.{part_of, most_values}
use Rattle.lines.specs.Put.{Over}
use Rattle.lines.specs.Pieces.{two}

-- by the width that the code has
pub whole_rows : (b : rules.Part) (w n : ℕ) → w ≡ b.width → n % w ≡ 0 → b.right (n / w) ≡ length_right b n
whole_rows b w n e z = rw (← e, eq-eqb (n % w) 0 z)

-- no part has many values
pub few_rows : (p : Part) (n : ℕ) → (part_of p).right n ≡ true → n * (part_of p).width ≤ most_values p
few_rows Jobs n e = omega (arith, leb-true n most_jobs ((and-eq-true_iff (leb 1 n) (leb n most_jobs)).0 e).1)
few_rows Arcs n e = omega (arith, leb-true n most_arcs e)
few_rows Sections n e = omega (arith, leb-true n most_sections e)

pub few_most : (p : Part) → most_values p ≤ 512
few_most Jobs = omega arith
few_most Arcs = omega arith
few_most Sections = omega arith

pub few_values : (p : Part) (vs : List ℕ) → Counted (part_of p) vs → length vs ≤ 512
few_values p vs c = omega (arith, c.whole, few_rows p (length vs / (part_of p).width) c.right, few_most p)

module _ (b : rules.Part) (vs : List ℕ) {k v : ℕ} (e : k ≡ b.head) (f : v ≡ length vs / b.width) where
  pub part_length : {m n : ℕ} → m ≡ length (line (key k) v) → n ≡ length (value_lines b 0 vs) → m + n ≡ length (part_text b vs)
  part_length {m} {n} p q = rw (part_text_lem, length-append) (omega (arith, rw (e, f) at p))

  -- a count and its rows, written
  pub part_put : {o o₁ o₂ : List ℕ} {at p r : ℕ} → Over o at (line (key k) v) o₁ p → Over o₁ p (value_lines b 0 vs) o₂ r
      → at + length (line (key k) v) ≤ length o → Over o at (part_text b vs) o₂ r
  part_put x y h = rw part_text_lem (two (rw (e, f) at x) y (rw (e, f) at h))

-- ---- a table

module _ (t : Table) where
  pub text_length : length (text_of t)
      ≡ length (part_text job_part t.jobs) + length (part_text arc_part t.arcs) + length (part_text section_part t.sections)
  text_length = rw text_of_lem (simp length-append (omega arith))

  pub text_put : {o o₁ o₂ o₃ : List ℕ} {p q r : ℕ} → Over o 0 (part_text job_part t.jobs) o₁ p → Over o₁ p (part_text arc_part t.arcs) o₂ q
      → Over o₂ q (part_text section_part t.sections) o₃ r → length (text_of t) ≤ length o → Over o 0 (text_of t) o₃ r
  text_put x y z h =
      rw (text_of_lem, ← append_assoc)
      (two (two x y (omega (arith, text_length))) z (rw length-append (omega (arith, text_length))))
