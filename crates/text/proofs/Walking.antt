-- One line after the other: the values that are done, and what is left to read, make the whole.
use mathlib.Core.Path.{◌≡◌, refl, sym, ◌∙◌, ap}
use mathlib.Core.Bool.{true, false}
use mathlib.Core.List.{List, [], ◌∷◌, ◌++◌}
use Prim.Native.Nat.{ℕ, suc, ◌+◌, ◌-◌, ◌*◌, ◌%◌, ◌<◌, ◌≤◌}
use native.Mathlib.Omega.{arith}
use native.Mathlib.Numerals.{add-one}
use lib.ListN.{length, take, drop, set, length-drop, length-set}
use lib.Seq.{drop-drop, take-suc-set}
use Rattle.rules.specs.Refusals.{Fault, fault, Outcome, refused, gives}
use Rattle.rules.specs.Text.{Part, key, Front, line_value, Taken, prepend, read_values, read_part}
use Rattle.laws.specs.Text.{taken, values_more, values_none, on_line, part_read, on_count}
use Rattle.std.specs.Prelude.{Result, Ok, Err}
use Rattle.lines.specs.declared.leaves.Stopped.{Stopped}
use Rattle.lines.specs.declared.leaves.Found.{Found}
use Rattle.lines.specs.Leaves.{Took}
use Rattle.lines.specs.Pieces.{rest_is}

-- values before what is read
abbrev before : List ℕ → Outcome Taken → Outcome Taken
before [] o = o
before (v ∷ vs) o = prepend v (before vs o)

before-refused : (vs : List ℕ) (f : Fault) → before vs (refused f) ≡ refused f
before-refused [] f = refl
before-refused (v ∷ vs) f = rw (before-refused vs f)

before_end : (vs : List ℕ) (next : ℕ) (rest : List ℕ) → before vs (gives (taken [] next rest)) ≡ gives (taken vs next rest)
before_end [] next rest = refl
before_end (v ∷ vs) next rest = rw (before_end vs next rest)

before_more : (vs : List ℕ) (v : ℕ) (o : Outcome Taken) → before vs (prepend v o) ≡ before (vs ++ (v ∷ [])) o
before_more [] v o = refl
before_more (w ∷ vs) v o = ap (prepend w) (before_more vs v o)

-- a line is read from the rest of the text
pub line_at : (t : List ℕ) (at k : ℕ) {r s : Result (Found ℕ) Stopped}
    → Took (line_value (key k) (take (length t - at) (drop at t))) (take (length t - at) (drop at t)) r → r ≡ s
    → Took (line_value (key k) (drop at t)) (drop at t) s
line_at t at k d e = rw (rest_is at t, e) at d

-- i of n values are done and stand in the front of `out`, and line first + i starts at the place `at`
pub record Walking (b : Part) (n : ℕ) (t : List ℕ) (from first : ℕ) (out : List ℕ) (i at : ℕ) : Type 0 where
  pub few : i ≤ n
  pub room : n ≤ length out
  pub within : at ≤ length t
  pub left : read_values b n 0 first (drop from t) ≡ before (take i out) (read_values b (n - i) i (first + i) (drop at t))

pub begun : (b : Part) (n : ℕ) (t : List ℕ) (from first : ℕ) (out : List ℕ) → from ≤ length t → n ≤ length out
    → Walking b n t from first out 0 from
begun b n t from first out h r =
    let e : first + 0 ≡ first = omega arith in
    let m : n - 0 ≡ n = omega arith in
    record { few = omega arith; room = r; within = h; left = rw (e, m) }

module _ {b : Part} {n : ℕ} {t : List ℕ} {from first : ℕ} {out : List ℕ} {i at : ℕ} (w : Walking b n t from first out i at) where
  pub ended : n ≤ i → read_values b n 0 first (drop from t) ≡ gives (taken (take n out) (first + i) (drop at t))
  ended h =
      let z : n - i ≡ 0 = omega arith in
      let e : n ≡ i = omega (arith, w.few) in
      w.left
      ∙ rw (z, values_none b i (first + i) (drop at t)) (before_end (take i out) (first + i) (drop at t))
      ∙ ap (λ (k : ℕ). gives (taken (take k out) (first + i) (drop at t))) (sym e)

  module _ (h : i < n) where
    step : {k : ℕ} {f : Front} → k ≡ b.head + 1 + i % b.width → line_value (key k) (drop at t) ≡ f
        → read_values b n 0 first (drop from t) ≡ before (take i out) (on_line b (n - (i + 1)) i (first + i) f)
    step q e =
        let m : n - i ≡ suc (n - (i + 1)) = omega arith in
        w.left ∙ rw (m, values_more, ← q, e)

    module _ {k : ℕ} (q : k ≡ b.head + 1 + i % b.width) where
      pub stopped : {s : Stopped} → Took (line_value (key k) (drop at t)) (drop at t) (Err s)
          → read_values b n 0 first (drop from t) ≡ refused (fault 1 (first + i))
      stopped d = step q d.says ∙ before-refused (take i out) (fault 1 (first + i))

      pub walked : {f : Found ℕ} → Took (line_value (key k) (drop at t)) (drop at t) (Ok f)
          → Walking b n t from first (set out i f.value) (i + 1) (at + f.end)
      walked {f} d =
          let a : first + i + 1 ≡ first + (i + 1) = omega arith in
          let s : take (i + 1) (set out i f.value) ≡ take i out ++ (f.value ∷ []) =
          ap (λ (j : ℕ). take j (set out i f.value)) (add-one i) ∙ take-suc-set out i f.value (omega (arith, w.room)) in
          record {
            few = omega arith;
            room = rw length-set w.room;
            within = omega (arith, w.within, d.within, length-drop at t);
            left = step q d.says
                ∙ rw (drop-drop f.end at t, a, s)
                (before_more (take i out) f.value (read_values b (n - (i + 1)) (i + 1) (first + (i + 1)) (drop (at + f.end) t)));
          }

-- ---- a part, by what its first line says

module _ (b : Part) {k : ℕ} (q : k ≡ b.head) (t : List ℕ) (from at : ℕ) where
  pub part_stops : {s : Stopped} → Took (line_value (key k) (drop from t)) (drop from t) (Err s)
      → read_part b at (drop from t) ≡ refused (fault 1 at)
  part_stops d = part_read b at (drop from t) ∙ rw (rw q at d.says)

  module _ {n : Found ℕ} (d : Took (line_value (key k) (drop from t)) (drop from t) (Ok n)) where
    part_counts : read_part b at (drop from t) ≡ on_count b at n.value (drop (from + n.end) t)
    part_counts = part_read b at (drop from t) ∙ rw (rw q at d.says) (ap (on_count b at n.value) (drop-drop n.end from t))

    pub part_wrong : b.right n.value ≡ false → read_part b at (drop from t) ≡ refused (fault b.refusal at)
    part_wrong r = part_counts ∙ rw r

    pub part_rows : b.right n.value ≡ true
        → read_part b at (drop from t) ≡ read_values b (n.value * b.width) 0 (at + 1) (drop (from + n.end) t)
    part_rows r = part_counts ∙ rw r
