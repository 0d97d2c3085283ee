-- What reading a part and reading a text come to, and what judging a list says.
use Rattle.std.specs.Prelude.{◌≡◌, List, ℕ, ◌*◌, ◌≤◌, length, take, drop, leb, ◌&&◌, Bool, true, false, Result, Ok, Err}
use Rattle.rules.specs.Table.{Table}
use Rattle.rules.specs.Refusals.{fault, fault_of, Outcome, refused, gives}
use Rattle.rules.specs.Text.{Part, Taken, read}
use Rattle.rules.specs.declared.Refusal.{Refusal}
use Rattle.laws.specs.Text.{taken, length_right}
use Rattle.text.specs.declared.reader.Rows.{Rows}
use Rattle.text.specs.declared.Counts.{Counts}

-- o gives so many rows, whose values stand in the front of `out`, and goes on at a line, at a place of t
pub record Gives (b : Part) (t : List ℕ) (o : Outcome Taken) (out : List ℕ) (r : Rows) : Type 0 where
  pub given : o ≡ gives (taken (take (r.count * b.width) out) r.line (drop r.at t))
  pub room : r.count * b.width ≤ length out
  pub within : r.at ≤ length t

-- what reading a part of the text answers: where its rows end, or why it is refused
abbrev pub ReadsPart : Part → List ℕ → Outcome Taken → List ℕ → Result Rows Refusal → Type 0
ReadsPart b t o out (Ok r) = Gives b t o out r
ReadsPart b t o out (Err r) = o ≡ refused (fault_of r)

-- the table of so many rows that stands in the fronts of three lists
abbrev pub fronts : (jobs arcs sections : List ℕ) → Counts → Table
fronts jobs arcs sections c =
    record { jobs = take (c.jobs * 3) jobs; arcs = take (c.arcs * 2) arcs; sections = take (c.sections * 4) sections }

-- the text is that of a table of so many rows, which stands in the fronts of the lists
pub record Fronts (text jobs arcs sections : List ℕ) (c : Counts) : Type 0 where
  pub given : read text ≡ gives (fronts jobs arcs sections c)
  pub jobs_room : c.jobs * 3 ≤ length jobs
  pub arcs_room : c.arcs * 2 ≤ length arcs
  pub sections_room : c.sections * 4 ≤ length sections

-- what reading a text answers: a table in the fronts of the lists, or why it is refused
abbrev pub ReadsText : (text jobs arcs sections : List ℕ) → Result Counts Refusal → Type 0
ReadsText text jobs arcs sections (Ok c) = Fronts text jobs arcs sections c
ReadsText text jobs arcs sections (Err r) = read text ≡ refused (fault_of r)

-- lists of these lengths have room for so many rows
abbrev pub roomy : Counts → ℕ → ℕ → ℕ → Bool
roomy c jobs arcs sections = leb (c.jobs * 3) jobs && (leb (c.arcs * 2) arcs && leb (c.sections * 4) sections)

-- a list of so many values is right for a part, or is refused with the part's number
abbrev pub Judged : Part → ℕ → Result (Unit {0}) Refusal → Type 0
Judged b n (Ok u) = length_right b n ≡ true
Judged b n (Err r) = (length_right b n ≡ false) × (fault_of r ≡ fault b.refusal 0)
