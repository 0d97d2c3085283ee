-- One step of matching bytes: index i of the key and of the text.
use mathlib.Core.Path.{◌≡◌, refl, ◌∙◌}
use mathlib.Core.List.{List}
use Prim.Native.Nat.{ℕ, ◌+◌, ◌<◌, ◌≤◌}
use native.Mathlib.Numerals.{add-one}
use native.Mathlib.Omega.{arith}
use borrow.Author.Tests.{eq-eqb, ne_eqb}
use lib.ListN.{length, get_or, drop, drop_of_length-le}
use lib.Seq.{drop-cons}
use Rattle.rules.specs.Text.{Front, after_bytes}
use Rattle.std.specs.Prelude.{Ok, Err}
use Rattle.lines.specs.Leaves.{Matched}

-- what is left to match answers what the whole does
pub record Matching (k t : List ℕ) (i : ℕ) : Type 0 where
  pub in_key : i ≤ length k
  pub in_text : i ≤ length t
  pub left : (go : List ℕ → Front) → after_bytes k t go ≡ after_bytes (drop i k) (drop i t) go

pub begun : (k t : List ℕ) → Matching k t 0
begun k t = record { in_key = omega arith; in_text = omega arith; left = λ go. refl }

module _ {k t : List ℕ} {i : ℕ} (g : Matching k t i) where
  pub all_there : length k ≤ i → Matched k t (Ok i)
  unfolding after_bytes
  all_there h = record { within = g.in_text; says = λ go. rw (drop_of_length-le k h) at (g.left go) }

  pub cut : i < length k → length t ≤ i → Matched k t (Err record { 0 = i })
  unfolding after_bytes
  cut h l =
      record {
        within = g.in_text;
        says = λ go. g.left go ∙ rw (drop-cons k i 0 h, drop_of_length-le t l);
      }

  pub differs : i < length k → i < length t → (get_or t i 0 ≡ get_or k i 0 → ⊥) → Matched k t (Err record { 0 = i })
  unfolding after_bytes
  differs h l n =
      record {
        within = g.in_text;
        says = λ go. g.left go ∙ rw (drop-cons k i 0 h, drop-cons t i 0 l, ne_eqb (get_or t i 0) (get_or k i 0) n);
      }

  pub goes : i < length k → i < length t → get_or t i 0 ≡ get_or k i 0 → Matching k t (i + 1)
  unfolding after_bytes
  goes h l e =
      record {
        in_key = omega arith;
        in_text = omega arith;
        left = λ go. g.left go ∙ rw (add-one i, drop-cons k i 0 h, drop-cons t i 0 l, eq-eqb (get_or t i 0) (get_or k i 0) e);
      }
