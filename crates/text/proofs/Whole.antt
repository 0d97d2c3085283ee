-- A whole text, by what was read of its three parts.
use mathlib.Core.Path.{◌≡◌, ◌∙◌}
use mathlib.Core.List.{List}
use Prim.Native.Nat.{ℕ, ◌+◌, ◌<◌, ◌≤◌}
use native.Mathlib.Omega.{arith}
use lib.ListN.{length, drop, drop_of_length-le}
use lib.Seq.{drop-cons}
use Rattle.rules.specs.Refusals.{Fault, fault, refused}
use Rattle.rules.specs.Text.{job_part, arc_part, section_part, read_part, read}
use Rattle.laws.specs.Text.{read_parts, part_is}
use Rattle.parts.specs.declared.Part.{Part}
use Rattle.parts.specs.Parts.{part_of, sound}
use Rattle.text.specs.declared.reader.Rows.{Rows}
use Rattle.text.specs.Passes.{Gives, Fronts}
use Rattle.parts.specs.Rows.{few_values}

-- the next part starts soon enough
pub next_line : (p : Part) (first : ℕ) (u : List ℕ) {t out : List ℕ} {r : Rows}
    → Gives (part_of p) t (read_part (part_of p) first u) out r → r.line ≤ first + 513
next_line p first u g =
    let f = part_is (part_of p) (sound p) first u _ g.given in
    omega (arith, f.next, few_values p _ f.counted)

module _ (t : List ℕ) where
  pub jobs_refused : {f : Fault} → read_part job_part 1 t ≡ refused f → read t ≡ refused f
  jobs_refused e = read_parts t ∙ rw e

  module _ {jobs : List ℕ} {j : Rows} (J : Gives job_part t (read_part job_part 1 t) jobs j) where
    pub arcs_refused : {f : Fault} → read_part arc_part j.line (drop j.at t) ≡ refused f → read t ≡ refused f
    arcs_refused e = read_parts t ∙ rw (J.given, e)

    module _ {arcs : List ℕ} {a : Rows} (A : Gives arc_part t (read_part arc_part j.line (drop j.at t)) arcs a) where
      pub sections_refused : {f : Fault} → read_part section_part a.line (drop a.at t) ≡ refused f → read t ≡ refused f
      sections_refused e = read_parts t ∙ rw (J.given, A.given, e)

      module _ {sections : List ℕ} {s : Rows} (S : Gives section_part t (read_part section_part a.line (drop a.at t)) sections s) where
        pub left_over : s.at < length t → read t ≡ refused (fault 1 s.line)
        left_over h = read_parts t ∙ rw (J.given, A.given, S.given, drop-cons t s.at 0 h)

        -- the table that the text stands for
        pub whole : length t ≤ s.at → Fronts t jobs arcs sections (record { jobs = j.count; arcs = a.count; sections = s.count })
        whole h =
            record {
              given = read_parts t ∙ rw (J.given, A.given, S.given, drop_of_length-le t h);
              jobs_room = J.room;
              arcs_room = A.room;
              sections_room = S.room;
            }
