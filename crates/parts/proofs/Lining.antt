-- The lines of values, one after the other: how long they are, and written.
use mathlib.Core.Path.{◌≡◌, refl, sym, ◌∙◌, ap}
use mathlib.Core.List.{List, [], ◌++◌}
use Prim.Native.Nat.{ℕ, ◌+◌, ◌*◌, ◌%◌, ◌<◌, ◌≤◌}
use native.Mathlib.Numerals.{add-one}
use native.Mathlib.Omega.{arith}
use lib.ListN.{length, get_or, drop, drop_of_length-le, length-append}
use lib.Seq.{drop-cons}
use Rattle.rules.specs.Text.{Part, key, key_at, line, value_lines}
use Rattle.laws.specs.Text.{lines_none, lines_more}
use Rattle.lines.specs.Put.{put, Over}
use Rattle.lines.specs.Pieces.{put-none, put-put}

-- the lines from value i on
abbrev pub lines_from : Part → List ℕ → ℕ → List ℕ
lines_from b vs i = value_lines b i (drop i vs)

lines_next : (b : Part) (vs : List ℕ) (i : ℕ) → i < length vs
    → lines_from b vs i ≡ line (key_at b i) (get_or vs i 0) ++ lines_from b vs (i + 1)
lines_next b vs i h = rw (drop-cons vs i 0 h, lines_more, add-one i)

lines_end : (b : Part) (vs : List ℕ) (i : ℕ) → length vs ≤ i → lines_from b vs i ≡ []
lines_end b vs i h = rw (drop_of_length-le vs h, lines_none)

-- ---- lengths: what is counted, with what is left, is the whole; a line has at most 20 bytes

pub record Measuring (b : Part) (vs : List ℕ) (sum i : ℕ) : Type 0 where
  pub within : i ≤ length vs
  pub small : sum ≤ 20 * i
  pub left : sum + length (lines_from b vs i) ≡ length (value_lines b 0 vs)

module _ {b : Part} {vs : List ℕ} {sum i : ℕ} (g : Measuring b vs sum i) where
  pub measure : {k n : ℕ} → i < length vs → k ≡ b.head + 1 + i % b.width → n ≡ length (line (key k) (get_or vs i 0)) → n ≤ 20
      → Measuring b vs (sum + n) (i + 1)
  measure {k} {n} h e l s =
      record {
        within = omega arith;
        small = omega (arith, g.small);
        left = omega (arith, g.left, simp length-append at (ap length (lines_next b vs i h)), rw e at l);
      }

  pub measured : length vs ≤ i → sum ≡ length (value_lines b 0 vs)
  measured h = omega (arith, g.left, ap length (lines_end b vs i h))

-- ---- written: what is left, put into o at the place `at`, makes the whole

pub record Lining (o₀ : List ℕ) (from : ℕ) (b : Part) (vs o : List ℕ) (i at : ℕ) : Type 0 where
  pub within : i ≤ length vs
  pub same : length o ≡ length o₀
  pub room : from + length (value_lines b 0 vs) ≤ length o₀
  pub place : at + length (lines_from b vs i) ≡ from + length (value_lines b 0 vs)
  pub left : put o at (lines_from b vs i) ≡ put o₀ from (value_lines b 0 vs)

module _ {o₀ : List ℕ} {from : ℕ} {b : Part} {vs o : List ℕ} {i at : ℕ} (g : Lining o₀ from b vs o i at) where
  -- there is room for the next line
  pub fits : {k : ℕ} → i < length vs → k ≡ b.head + 1 + i % b.width → at + length (line (key k) (get_or vs i 0)) ≤ length o
  fits {k} h e = rw e (omega (arith, g.same, g.room, g.place, simp length-append at (ap length (lines_next b vs i h))))

  pub line-put : {k : ℕ} {o' : List ℕ} {r : ℕ} → i < length vs → k ≡ b.head + 1 + i % b.width
      → Over o at (line (key k) (get_or vs i 0)) o' r → length o' ≡ length o → Lining o₀ from b vs o' (i + 1) r
  line-put {k} {o'} {r} h e w s =
      let l : Over o at (line (key_at b i) (get_or vs i 0)) o' r = rw e at w in
      let n = lines_next b vs i h in
      record {
        within = omega arith;
        same = s ∙ g.same;
        room = g.room;
        place = omega (arith, l.end, g.place, simp length-append at (ap length n));
        left = rw (l.list, l.end)
            (put-put o at (line (key_at b i) (get_or vs i 0)) (lines_from b vs (i + 1)) (fits h refl) ∙ rw n at g.left);
      }

  pub lined : length vs ≤ i → Over o₀ from (value_lines b 0 vs) o at
  lined h =
      record {
        end = omega (arith, g.place, ap length (lines_end b vs i h));
        list = sym (put-none o at) ∙ rw (lines_end b vs i h) at g.left;
      }
