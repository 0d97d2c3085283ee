-- What `read` and `write` promise for every input: the answer, and what the lent lists hold afterwards.
use Rattle.std.specs.Prelude.{◌≡◌, List, [], ◌∷◌, ◌++◌, ℕ, length, drop, Option, Result}
use Rattle.rules.specs.Table.{Table, job_count, arc_count, section_count}
use Rattle.rules.specs.Refusals.{Fault, Outcome, refused, gives, and_then, first_of, unless, count_faults, room}
use Rattle.rules.specs.declared.Refusal.{Refusal}
use Rattle.rules.specs.Text as rules
use Rattle.rules.specs.Text.{text_of}
use Rattle.laws.specs.Answers.{said}
use Rattle.text.specs.declared.Counts.{Counts}

-- "A refusal writes nothing"; "success writes the needed front of each lent list; the rest keeps its content".
abbrev pub afterwards : {A : Type 0} → Outcome A → (A → List ℕ) → List ℕ → List ℕ
afterwards (refused f) front old = old
afterwards (gives a) front old = front a ++ drop (length (front a)) old

-- ---- read

-- Room for a table's three lists.
abbrev pub room_fault : Table → List ℕ → List ℕ → List ℕ → Option Fault
room_fault t jobs arcs sections =
    first_of
    (room (length t.jobs) (length jobs)
    ∷ room (length t.arcs) (length arcs)
    ∷ room (length t.sections) (length sections)
    ∷ [])

-- What the text is refused for; "11 comes last".
unfoldable pub read_into : List ℕ → List ℕ → List ℕ → List ℕ → Outcome Table
read_into text jobs arcs sections = and_then (rules.read text) (λ t. unless (room_fault t jobs arcs sections) t)

-- how many jobs, arcs and sections a table has
abbrev pub counts_of : Table → Counts
counts_of t = record { jobs = job_count t; arcs = arc_count t; sections = section_count t }

-- the answer tells the counts, and the lists hold the table
abbrev pub counted : Outcome Table → Outcome Counts
counted o = and_then o (λ t. gives (counts_of t))

-- The text, the three lists as they are lent, as they are left, and the answer.
pub record Reads (text jobs arcs sections jobs' arcs' sections' : List ℕ) (r : Result Counts Refusal) : Type 0 where
  pub answer : said r ≡ counted (read_into text jobs arcs sections)
  pub jobs_left : jobs' ≡ afterwards (read_into text jobs arcs sections) (λ t. t.jobs) jobs
  pub arcs_left : arcs' ≡ afterwards (read_into text jobs arcs sections) (λ t. t.arcs) arcs
  pub sections_left : sections' ≡ afterwards (read_into text jobs arcs sections) (λ t. t.sections) sections

-- ---- write

-- "The writer gives 2, 3, 4, then 11."
unfoldable pub write_into : Table → List ℕ → Outcome (List ℕ)
write_into t out =
    and_then (unless (first_of (count_faults t)) (text_of t)) (λ text. unless (room (length text) (length out)) text)

-- The table, the bytes as they are lent, as they are left, and the answer: how many are written.
pub record Writes (t : Table) (out out' : List ℕ) (r : Result ℕ Refusal) : Type 0 where
  pub answer : said r ≡ and_then (write_into t out) (λ text. gives (length text))
  pub out_left : out' ≡ afterwards (write_into t out) (λ text. text) out
