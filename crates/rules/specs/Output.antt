-- 01, "Shelf examples", its last part: what the program prints.
use Rattle.std.specs.Prelude.{cond, List, [], ◌∷◌, ◌++◌, ℕ, zero, suc, ◌+◌, ℤ, pos, negsuc, eqb}
use Rattle.rules.specs.Table.{Plan, State, job_count, modified_release, modified_deadline, mark, finish}
use Rattle.rules.specs.Refusals.{Fault, Outcome, refused, gives, and_then, check}
use Rattle.rules.specs.Text.{bytes_of, lf, digits, line, read}
use Rattle.rules.specs.Run.{end_state, lateness}

-- A signed number: a minus sign where it is below zero.
abbrev pub signed : ℤ → List ℕ
signed (pos n) = digits n
signed (negsuc n) = bytes_of "-" ++ digits (n + 1)

-- A mark in words.
unfoldable pub mark_word : ℕ → List ℕ
unfolding bytes_of
mark_word m = cond (eqb m 2) (bytes_of "stale") (bytes_of "fresh")

-- Five lines a job. Release and deadline are the modified ones; lateness is against the given deadline.
unfoldable pub job_lines : Plan → State → ℕ → List ℕ
unfolding bytes_of line lateness mark_word
job_lines p st j =
    line (bytes_of "release=") (modified_release p j)
    ++ (line (bytes_of "deadline=") (modified_deadline p j)
    ++ (line (bytes_of "finish=") (finish st j)
    ++ (bytes_of "lateness=" ++ (signed (lateness p st j) ++ (lf ∷ []))
    ++ (bytes_of "mark=" ++ (mark_word (mark st j) ++ (lf ∷ []))))))

-- The lines of the first n jobs, by number.
unfoldable pub jobs_lines : Plan → State → ℕ → List ℕ
unfolding job_lines
jobs_lines p st zero = []
jobs_lines p st (suc n) = jobs_lines p st n ++ job_lines p st n

-- "The first line is the number of jobs; then five lines a job, by number; the last is the tick of the end state."
unfoldable pub report : Plan → State → List ℕ
unfolding bytes_of line jobs_lines
report p st =
    line (bytes_of "jobs=") (job_count p.table)
    ++ (jobs_lines p st (job_count p.table) ++ line (bytes_of "ticks=") st.tick)

-- "A refusal prints two lines."
unfoldable pub refusal_lines : Fault → List ℕ
unfolding bytes_of line
refusal_lines f = line (bytes_of "refusal=") f.number ++ line (bytes_of "place=") f.place

-- What is printed of an outcome: the refusal, or what is given, as `show` writes it.
abbrev pub printed : {A : Type 0} → (A → List ℕ) → Outcome A → List ℕ
printed show (refused f) = refusal_lines f
printed show (gives a) = show a

-- "The program reads a table from standard input, runs it to the end with every report answered, and writes key=value lines."
unfoldable pub answer : List ℕ → List ℕ
unfolding read check end_state report refusal_lines
answer text = printed (λ p. report p (end_state p)) (and_then (read text) check)
