-- What the leaves of the reader answer: places of their text, as the rules' functions have what comes after them.
use Rattle.std.specs.Prelude.{◌≡◌, List, [], ◌∷◌, ℕ, ◌≤◌, length, drop, Result, Ok, Err}
use Rattle.rules.specs.Text.{lf, Front, value, wrong, after_bytes, most_number, number_from, number}
use Rattle.lines.specs.declared.leaves.Stopped.{Stopped}
use Rattle.lines.specs.declared.leaves.Found.{Found}

-- how many bytes of a key were taken
abbrev pub match_place : Result ℕ Stopped → ℕ
match_place (Ok n) = n
match_place (Err s) = s.0

-- how many bytes were taken, of a line
abbrev pub found_place : Result (Found ℕ) Stopped → ℕ
found_place (Ok f) = f.end
found_place (Err s) = s.0

-- what comes of a match: go on with the text after it, or wrong there
abbrev pub on_match : Result ℕ Stopped → List ℕ → (List ℕ → Front) → Front
on_match (Ok n) t go = go (drop n t)
on_match (Err s) t go = wrong (drop s.0 t)

-- what was found at the front of t
abbrev pub front_of : List ℕ → Result (Found ℕ) Stopped → Front
front_of t (Ok f) = value f.value (drop f.end t)
front_of t (Err s) = wrong (drop s.0 t)

-- the bytes k were looked for at the front of t
pub record Matched (k t : List ℕ) (r : Result ℕ Stopped) : Type 0 where
  pub within : match_place r ≤ length t
  pub says : (go : List ℕ → Front) → after_bytes k t go ≡ on_match r t go

-- the first i bytes of t are read as n, and what is left to read answers what the whole does
pub record Counting (t : List ℕ) (n i : ℕ) : Type 0 where
  pub small : n ≤ most_number
  pub in_text : i ≤ length t
  pub left : number t ≡ number_from n (drop i t)

-- f is what the rules find at the front of t
pub record Took (f : Front) (t : List ℕ) (r : Result (Found ℕ) Stopped) : Type 0 where
  pub within : found_place r ≤ length t
  pub says : f ≡ front_of t r

-- an LF was looked for after the value v, at the place `at` of t
abbrev pub LineEnds : List ℕ → ℕ → ℕ → Result (Found ℕ) Stopped → Type 0
LineEnds t v at r = Took (after_bytes (lf ∷ []) (drop at t) (value v)) t r
