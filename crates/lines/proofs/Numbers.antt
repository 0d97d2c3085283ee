-- One step of reading a number: index i of the text, where the digits before it stand for n.
use mathlib.Core.Path.{◌≡◌, refl, sym, ◌∙◌}
use mathlib.Core.Bool.{Bool, true, false}
use mathlib.Core.List.{List, [], ◌∷◌}
use Prim.Native.Nat.{ℕ, suc, ◌+◌, ◌-◌, ◌*◌, ◌^◌, ◌<◌, ◌≤◌}
use native.Mathlib.Numerals.{add-one}
use native.Mathlib.Omega.{arith}
use borrow.Author.Tests.{eq-eqb, ne_eqb, le-ltb, lt-ltb}
use lib.ListN.{length, get_or, drop, drop_of_length-le}
use lib.Seq.{drop-cons}
use Rattle.rules.specs.Text.{lf, value, after_bytes, is_digit, most_number, number_from, number}
use Rattle.laws.specs.Digits.{high}
use Rattle.std.specs.Prelude.{Ok, Err}
use Rattle.std.specs.Char.{is_ascii_digit}
use Rattle.lines.specs.Leaves.{Counting, Took}
use Rattle.lines.proofs.Powers.{power_most}

-- the code's test for a digit is that of the rules
pub digit : (d : ℕ) {b v : Bool} → b ≡ is_ascii_digit d → b ≡ v → is_digit d ≡ v
unfolding is_digit
digit d e t = sym e ∙ t

pub empty : (t : List ℕ) → length t ≡ 0 → Took (number t) t (Err record { 0 = 0 })
unfolding number
empty [] e = record { within = omega arith; says = refl }
empty (d ∷ ds) e = let z : ⊥ = omega arith in absurd z

pub no_digit : (t : List ℕ) → 0 < length t → is_digit (get_or t 0 0) ≡ false → Took (number t) t (Err record { 0 = 0 })
unfolding number
no_digit [] h e = absurd (omega arith)
no_digit (d ∷ ds) h e = record { within = omega arith; says = rw e }

pub begun : (t : List ℕ) → 0 < length t → is_digit (get_or t 0 0) ≡ true → Counting t (get_or t 0 0 - 48) 1
unfolding number
begun [] h e = absurd (omega arith)
begun (d ∷ ds) h e = record { small = omega (arith, high d e); in_text = omega arith; left = rw e }

module _ {t : List ℕ} {n i : ℕ} (g : Counting t n i) where
  pub ended : length t ≤ i → Took (number t) t (Ok record { value = n; end = i })
  unfolding number_from
  ended h = record { within = g.in_text; says = g.left ∙ rw (drop_of_length-le t h) }

  module _ (h : i < length t) where
    pub other : is_digit (get_or t i 0) ≡ false → Took (number t) t (Ok record { value = n; end = i })
    unfolding number_from
    other e = record { within = g.in_text; says = g.left ∙ rw (drop-cons t i 0 h, e) }

    pub leading : is_digit (get_or t i 0) ≡ true → n ≡ 0 → Took (number t) t (Err record { 0 = i })
    unfolding number_from
    leading e z = record { within = g.in_text; says = g.left ∙ rw (drop-cons t i 0 h, e, eq-eqb n 0 z) }

    module _ (e : is_digit (get_or t i 0) ≡ true) (z : n ≡ 0 → ⊥) where
      pub too_large : most_number < n * 10 + (get_or t i 0 - 48) → Took (number t) t (Err record { 0 = i })
      unfolding number_from
      too_large l =
          record {
            within = g.in_text;
            says = g.left ∙ rw (drop-cons t i 0 h, e, ne_eqb n 0 z, lt-ltb most_number (n * 10 + (get_or t i 0 - 48)) l);
          }

      pub longer : n * 10 + (get_or t i 0 - 48) ≤ most_number → Counting t (n * 10 + (get_or t i 0 - 48)) (i + 1)
      unfolding number_from
      longer l =
          record {
            small = l;
            in_text = omega arith;
            left = g.left
                ∙ rw (add-one i, drop-cons t i 0 h, e, ne_eqb n 0 z, le-ltb most_number (n * 10 + (get_or t i 0 - 48)) l);
          }

-- two digits more, of a number of at most seven
module _ {t : List ℕ} {n i : ℕ} (g : Counting t n i) (h : i + 1 < length t) (s : i ≤ 7) (z : 0 < n) (l : n < 10 ^ i)
    (e : is_digit (get_or t i 0) ≡ true) (f : is_digit (get_or t (i + 1) 0) ≡ true) where
  pub pair : Counting t (n * 100 + ((get_or t i 0 - 48) * 10 + (get_or t (i + 1) 0 - 48))) (i + 2)
  pair =
      let m = power_most i 7 s in
      let a = longer g (omega arith) e (λ q. omega arith) (omega (arith, high (get_or t i 0) e)) in
      let b = longer a h f (λ q. omega arith) (omega (arith, high (get_or t i 0) e, high (get_or t (i + 1) 0) f)) in
      let p : (n * 10 + (get_or t i 0 - 48)) * 10 + (get_or t (i + 1) 0 - 48) ≡ n * 100 + ((get_or t i 0 - 48) * 10 + (get_or t (i + 1) 0 - 48)) = omega arith in
      let k : i + 1 + 1 ≡ i + 2 = omega arith in
      rw (p, k) at b

  pub pair_small : n * 100 + ((get_or t i 0 - 48) * 10 + (get_or t (i + 1) 0 - 48)) < 10 ^ (i + 2)
  pair_small =
      let k : i + 2 ≡ suc (suc i) = omega arith in
      rw k (omega (arith, high (get_or t i 0) e, high (get_or t (i + 1) 0) f))

-- an LF after the value, or not
module _ (t : List ℕ) (v at : ℕ) (h : at ≤ length t) where
  pub cut : length t ≤ at → Took (after_bytes (lf ∷ []) (drop at t) (value v)) t (Err record { 0 = at })
  unfolding after_bytes
  cut l = record { within = h; says = rw (drop_of_length-le t l) }

  pub no_lf : at < length t → (get_or t at 0 ≡ lf → ⊥) → Took (after_bytes (lf ∷ []) (drop at t) (value v)) t (Err record { 0 = at })
  unfolding after_bytes
  no_lf l n = record { within = h; says = rw (drop-cons t at 0 l, ne_eqb (get_or t at 0) lf n) }

  pub an_lf : at < length t → get_or t at 0 ≡ lf → Took (after_bytes (lf ∷ []) (drop at t) (value v)) t (Ok record { value = v; end = at + 1 })
  unfolding after_bytes
  an_lf l e = record { within = omega arith; says = rw (drop-cons t at 0 l, eq-eqb (get_or t at 0) lf e, add-one at) }
