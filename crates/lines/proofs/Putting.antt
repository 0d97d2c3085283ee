-- The laws of `put` for the writer's loop: digits, from the last to the first.
use mathlib.Core.Path.{◌≡◌, ◌∙◌, ap}
use mathlib.Core.List.{List, [], ◌∷◌, ◌++◌, append_assoc}
use Prim.Native.Nat.{ℕ, zero, suc, ◌+◌, ◌-◌, ◌/◌, ◌%◌, ◌^◌, ◌<◌, ◌≤◌}
use native.Mathlib.Numerals.{add-one}
use native.Mathlib.Omega.{arith}
use lib.ListN.{length, set, length-append, length-set}
use lib.Seq.{drop-cons, take-set-le, drop-set-lt, get_or-set_same, set_split}
use Rattle.rules.specs.Text.{digits}
use Rattle.laws.specs.Digits.{one-digit, last_digit}
use Rattle.lines.specs.Put.{put}
use Rattle.lines.proofs.Powers.{power_least}

-- the last of what is put may be stored first
put_last : (o : List ℕ) (at : ℕ) (vs : List ℕ) (v : ℕ) → at + length vs < length o
    → put (set o (at + length vs) v) at vs ≡ put o at (vs ++ (v ∷ []))
unfolding put
put_last o at vs v h =
    let l : at + length vs < length (set o (at + length vs) v) = rw length-set h in
    let s : at + (length vs + 1) ≡ suc (at + length vs) = omega arith in
    simp (
      take-set-le at o (at + length vs) v (omega arith),
      drop-cons (set o (at + length vs) v) (at + length vs) 0 l,
      get_or-set_same o (at + length vs) v 0 h,
      drop-set-lt (suc (at + length vs)) o (at + length vs) v (omega arith),
      append_assoc,
      length-append,
      s,
    )

-- ---- digits, from the last to the first: what is left to write, put into o, makes the whole; p is the place after it

pub record Numbering (o₀ : List ℕ) (at n : ℕ) (o : List ℕ) (m p : ℕ) : Type 0 where
  pub same : length o ≡ length o₀
  pub place : p ≡ at + length (digits m)
  pub within : p ≤ length o
  pub left : put o at (digits m) ≡ put o₀ at (digits n)

pub digits_more : (m : ℕ) → 10 ≤ m → length (digits m) ≡ length (digits (m / 10)) + 1
digits_more m h = rw (last_digit m h, length-append)

pub two_digits : (m : ℕ) → 100 ≤ m → 2 ≤ length (digits m)
two_digits m h = omega (arith, digits_more m (omega arith), digits_more (m / 10) (omega arith))

-- how many there are, by the powers of ten
pub digits_sized : (k n : ℕ) → 10 ^ k ≤ n → n < 10 ^ suc k → length (digits n) ≡ suc k
digits_sized zero n h l = ap length (one-digit n (omega arith))
digits_sized (suc k) n h l =
    omega (arith, digits_more n (omega (arith, power_least k)), digits_sized k (n / 10) (omega arith) (omega arith))

module _ {o₀ : List ℕ} {at n : ℕ} {o : List ℕ} {m p : ℕ} (w : Numbering o₀ at n o m p) where
  writes : 10 ≤ m → Numbering o₀ at n (set o (p - 1) (48 + m % 10)) (m / 10) (p - 1)
  writes h =
      let k : length (digits m) ≡ length (digits (m / 10)) + 1 = digits_more m h in
      let q : p - 1 ≡ at + length (digits (m / 10)) = omega arith in
      record {
        same = rw length-set w.same;
        place = q;
        within = rw length-set (omega arith);
        left = rw q (put_last o at (digits (m / 10)) (48 + m % 10) (omega arith) ∙ rw (last_digit m h) at w.left);
      }

  pub written : m < 10 → set o at (48 + m) ≡ put o₀ at (digits n)
  unfolding put
  written h =
      let l : length (digits m) ≡ 1 = ap length (one-digit m h) in
      set_split o at (48 + m) (omega arith) ∙ simp (← add-one) (rw (one-digit m h) at w.left)

-- two digits at a time
module _ {o₀ : List ℕ} {at n : ℕ} {o : List ℕ} {m p : ℕ} (w : Numbering o₀ at n o m p) where
  pub writes_two : 100 ≤ m
      → Numbering o₀ at n (set (set o (p - 2 + 1) (48 + m % 100 % 10)) (p - 2) (48 + m % 100 / 10)) (m / 100) (p - 2)
  writes_two h =
      let second : p - 1 - 1 ≡ p - 2 = omega arith in
      let first : p - 1 ≡ p - 2 + 1 = omega (arith, w.place, two_digits m h) in
      let ones : m % 10 ≡ m % 100 % 10 = omega arith in
      let tens : m / 10 % 10 ≡ m % 100 / 10 = omega arith in
      let rest : m / 10 / 10 ≡ m / 100 = omega arith in
      rw (second, first, ones, tens, rest) at (writes (writes w (omega arith)) (omega arith))

  pub written_two : 10 ≤ m → m < 100 → set (set o (at + 1) (48 + m % 10)) at (48 + m / 10) ≡ put o₀ at (digits n)
  written_two h l =
      let j : length (digits (m / 10)) ≡ 1 = ap length (one-digit (m / 10) (omega arith)) in
      let q : p - 1 ≡ at + 1 = omega (arith, w.place, digits_more m h) in
      rw q at (written (writes w h) (omega arith))
