-- 01, "The text": how a table is written as lines of key=value, and how such a text is read.
use Rattle.std.specs.Prelude.{Bool, cond, ◌&&◌, ◌||◌, List, [], ◌∷◌, ◌++◌, ℕ, zero, suc, ◌+◌, ◌*◌, ◌-◌, ◌/◌, ◌%◌, length, get_or, ltb, leb, eqb}
use Prim.Native.Char.{code}
use Prim.Native.String.{String}
use Rattle.rules.specs.Table.{Table, job_width, arc_width, section_width}
use Rattle.rules.specs.Refusals.{Outcome, refused, gives, and_then, fault, jobs_right, arcs_right, sections_right}

-- ---- lines

-- The bytes of a quoted text.
unfoldable pub bytes_of : String → List ℕ
bytes_of String.[] = []
bytes_of (String.◌∷◌ c s) = code c ∷ bytes_of s

-- The byte LF, which ends each line.
abbrev pub lf : ℕ
lf = 10

-- The twelve keys, each with its equals sign, by their place in the text.
unfoldable pub keys : List (List ℕ)
unfolding bytes_of
keys =
    bytes_of "jobs="
    ∷ bytes_of "release="
    ∷ bytes_of "cost="
    ∷ bytes_of "deadline="
    ∷ bytes_of "arcs="
    ∷ bytes_of "before="
    ∷ bytes_of "after="
    ∷ bytes_of "sections="
    ∷ bytes_of "job="
    ∷ bytes_of "resource="
    ∷ bytes_of "from="
    ∷ bytes_of "to="
    ∷ []

-- The key at place k of the table of keys; none behind the twelve.
unfoldable pub key : ℕ → List ℕ
unfolding keys
key k = get_or keys k []

-- The three parts of a text: which key its count has, how many values a row has, and which counts are right, else the refusal.
pub record Part : Type 0 where
  pub head : ℕ
  pub width : ℕ
  pub right : ℕ → Bool
  pub refusal : ℕ

-- "`jobs`; for each job `release`, `cost`, `deadline`."
abbrev pub job_part : Part
job_part = record { head = 0; width = job_width; right = jobs_right; refusal = 2 }

-- "`arcs`; for each arc `before`, `after`."
abbrev pub arc_part : Part
arc_part = record { head = 4; width = arc_width; right = arcs_right; refusal = 3 }

-- "`sections`; for each section `job`, `resource`, `from`, `to`."
abbrev pub section_part : Part
section_part = record { head = 7; width = section_width; right = sections_right; refusal = 4 }

-- The key of a part's value i: its rows' keys stand behind that of its count, and come round again.
abbrev pub key_at : Part → ℕ → List ℕ
key_at b i = key (b.head + 1 + i % b.width)

-- ---- writing

-- The decimal digits of n, taken off in at most so many steps.
unfoldable pub digits_by : ℕ → ℕ → List ℕ
digits_by zero n = []
digits_by (suc steps) n =
    let front = digits_by steps (n / 10) ++ ((48 + n % 10) ∷ []) in
    cond (ltb n 10) ((48 + n) ∷ []) front

-- A number is decimal, no leading zero except 0 itself.
unfoldable pub digits : ℕ → List ℕ
unfolding digits_by
digits n = digits_by (suc n) n

-- "Lines of key=value, each ended by LF."
unfoldable pub line : List ℕ → ℕ → List ℕ
unfolding digits
line k v = k ++ (digits v ++ (lf ∷ []))

-- A line for each value, from the part's value i on.
unfoldable pub value_lines : Part → ℕ → List ℕ → List ℕ
unfolding line key
value_lines b i [] = []
value_lines b i (v ∷ vs) = line (key_at b i) v ++ value_lines b (i + 1) vs

-- The text of a part: the line of its count, then a line for each value.
unfoldable pub part_text : Part → List ℕ → List ℕ
unfolding line key value_lines
part_text b vs = line (key b.head) (length vs / b.width) ++ value_lines b 0 vs

-- The text of a table.
unfoldable pub text_of : Table → List ℕ
unfolding part_text
text_of t = part_text job_part t.jobs ++ (part_text arc_part t.arcs ++ part_text section_part t.sections)

-- ---- reading

-- The front of a text: a value, and what comes after it; or wrong, and the part from the first byte with which no line that
-- the place allows goes on.
pub data Front : Type 0 where
  value : ℕ → List ℕ → Front
  wrong : List ℕ → Front

-- What is made of a front: by `found` where it is a value, by `not_so` where it is wrong.
abbrev pub on_value : {A : Type 0} → Front → (ℕ → List ℕ → A) → (List ℕ → A) → A
on_value (value v rest) found not_so = found v rest
on_value (wrong rest) found not_so = not_so rest

-- "Each key is matched byte for byte against the one key that its place demands."
unfoldable pub after_bytes : List ℕ → List ℕ → (List ℕ → Front) → Front
after_bytes [] t go = go t
after_bytes (x ∷ xs) [] go = wrong []
after_bytes (x ∷ xs) (y ∷ ys) go = cond (eqb y x) (after_bytes xs ys go) (wrong (y ∷ ys))

-- The byte is one of 0 to 9.
unfoldable pub is_digit : ℕ → Bool
is_digit b = leb 48 b && leb b 57

-- "At most 4,294,967,295."
abbrev pub most_number : ℕ
most_number = 4_294_967_295

-- The rest of a number whose digits so far stand for n: no digit follows a 0, and none makes it too large.
unfoldable pub number_from : ℕ → List ℕ → Front
unfolding is_digit
number_from n [] = value n []
number_from n (d ∷ ds) =
    cond (is_digit d)
    (cond (eqb n 0 || ltb most_number (n * 10 + (d - 48))) (wrong (d ∷ ds)) (number_from (n * 10 + (d - 48)) ds))
    (value n (d ∷ ds))

-- "A number is decimal, no leading zero except 0 itself, at most 4,294,967,295": its value, and what follows its last digit.
unfoldable pub number : List ℕ → Front
unfolding is_digit number_from
number [] = wrong []
number (d ∷ ds) = cond (is_digit d) (number_from (d - 48) ds) (wrong (d ∷ ds))

-- One line with that key: its value, and the text after its LF.
unfoldable pub line_value : List ℕ → List ℕ → Front
unfolding after_bytes number
line_value k t = after_bytes k t (λ u. on_value (number u) (λ v w. after_bytes (lf ∷ []) w (value v)) wrong)

-- Values that were read, with the number of the next line, from 1, and the text from there on.
pub record Taken : Type 0 where
  pub values : List ℕ
  pub next : ℕ
  pub rest : List ℕ

-- The value v before those that were read after it; a refusal stays.
abbrev pub prepend : ℕ → Outcome Taken → Outcome Taken
prepend v (refused f) = refused f
prepend v (gives k) = gives record { values = v ∷ k.values; next = k.next; rest = k.rest }

-- n values from the part's value i on: "1, first wrong line; a missing line counts as the wrong one".
unfoldable pub read_values : Part → ℕ → ℕ → ℕ → List ℕ → Outcome Taken
unfolding line_value key
read_values b zero i at t = gives record { values = []; next = at; rest = t }
read_values b (suc n) i at t =
    on_value (line_value (key_at b i) t) (λ v rest. prepend v (read_values b n (i + 1) (at + 1) rest)) (λ u. refused (fault 1 at))

-- A count and its rows: "a bad count refuses with 2, 3 or 4, here with its line as the place".
unfoldable pub read_part : Part → ℕ → List ℕ → Outcome Taken
unfolding line_value key read_values
read_part b at t =
    on_value (line_value (key b.head) t)
    (λ n rest. cond (b.right n) (read_values b (n * b.width) 0 (at + 1) rest) (refused (fault b.refusal at)))
    (λ u. refused (fault 1 at))

-- "Nothing after the last LF": a line that is not demanded is the first wrong one.
abbrev pub nothing_left : {A : Type 0} → List ℕ → ℕ → A → Outcome A
nothing_left [] at a = gives a
nothing_left (b ∷ bs) at a = refused (fault 1 at)

-- A text is read as the table it stands for, or refused.
unfoldable pub read : List ℕ → Outcome Table
unfolding read_part
read text =
    and_then (read_part job_part 1 text) (λ j.
    and_then (read_part arc_part j.next j.rest) (λ a.
    and_then (read_part section_part a.next a.rest) (λ s.
    nothing_left s.rest s.next (record { jobs = j.values; arcs = a.values; sections = s.values }))))
