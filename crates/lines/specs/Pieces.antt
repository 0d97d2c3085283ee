-- Pieces of lists: what is put in two pieces is put whole, and the rest of a list.
use Rattle.std.specs.Prelude.{◌≡◌, refl, List, [], ◌∷◌, ◌++◌, ℕ, suc, ◌+◌, ◌-◌, ◌<◌, ◌≤◌, length, take, drop, set}
use Rattle.std.proofs.Common.{sym, ◌∙◌, ap, append_assoc, zero-add, add-zero, add_assoc, add-one, arith, take-append-drop, length-append, length-drop, drop-set-lt, take-suc-set, take_at, length-take-le, take_all, drop-drop}
use Rattle.std.proofs.Math.Seq.{drop-append-add}
use Rattle.lines.specs.Put.{put, Over}

-- nothing is put
pub put-none : (o : List ℕ) (at : ℕ) → put o at [] ≡ o
unfolding put
put-none o at = simp (add-zero, take-append-drop)

pub nothing : (o : List ℕ) (at : ℕ) → Over o at [] o at
nothing o at = record { end = sym (add-zero at); list = sym (put-none o at) }

-- at the front
pub put_front : (o vs : List ℕ) → put o 0 vs ≡ vs ++ drop (length vs) o
unfolding put
put_front o vs = rw zero-add

-- the first of what is put may be stored first
pub put_first : (o : List ℕ) (at v : ℕ) (vs : List ℕ) → at < length o → put (set o at v) (at + 1) vs ≡ put o at (v ∷ vs)
unfolding put
put_first o at v vs h =
    let s : suc at + length vs ≡ at + suc (length vs) = omega arith in
    simp (add-one, take-suc-set o at v h, drop-set-lt (at + suc (length vs)) o at v (omega arith), append_assoc, s)

-- one piece after the other
pub put-put : (o : List ℕ) (at : ℕ) (xs ys : List ℕ) → at + length xs ≤ length o
    → put (put o at xs) (at + length xs) ys ≡ put o at (xs ++ ys)
unfolding put
put-put o at xs ys h =
    let n : ℕ = at + length xs in
    let p : List ℕ = take at o ++ xs in
    let q : List ℕ = drop n o in
    let l : length p ≡ n = length-append (take at o) xs ∙ ap (λ (k : ℕ). k + length xs) (length-take-le at o (omega arith)) in
    let s : take at o ++ (xs ++ q) ≡ p ++ q = sym (append_assoc (take at o) xs q) in
    let a : take n (take at o ++ (xs ++ q)) ≡ p = ap (take n) s ∙ take_at p q n l in
    let b : drop (n + length ys) (take at o ++ (xs ++ q)) ≡ drop (n + length ys) o =
    ap (drop (n + length ys)) s
    ∙ ap (λ (k : ℕ). drop (k + length ys) (p ++ q)) (sym l)
    ∙ drop-append-add p q (length ys)
    ∙ drop-drop (length ys) n o in
    rw (a, b) (simp (append_assoc, length-append, add_assoc))

pub two : {o : List ℕ} {at : ℕ} {xs o₁ : List ℕ} {p : ℕ} {ys o₂ : List ℕ} {r : ℕ} → Over o at xs o₁ p → Over o₁ p ys o₂ r
    → at + length xs ≤ length o → Over o at (xs ++ ys) o₂ r
two {o} {at} {xs} {o₁} {p} {ys} a b h =
    record {
      end = rw length-append (omega (arith, a.end, b.end));
      list = b.list ∙ rw (a.end, a.list) (put-put o at xs ys h);
    }

-- what was put at the front stands there
pub front_of_over : {o vs o' : List ℕ} {n : ℕ} → Over o 0 vs o' n → take n o' ≡ vs
front_of_over {o} {vs} {o'} {n} p = rw (p.list, put_front o vs) (take_at vs (drop (length vs) o) n (omega (arith, p.end)))

-- one byte
pub one : (o : List ℕ) (at v : ℕ) → at < length o → Over o at (v ∷ []) (set o at v) (at + 1)
one o at v h = record { end = refl; list = sym (put-none (set o at v) (at + 1)) ∙ put_first o at v [] h }

-- the rest of a list, as the code takes it
pub rest_is : (n : ℕ) (l : List ℕ) → take (length l - n) (drop n l) ≡ drop n l
rest_is n l = take_all (length l - n) (drop n l) (omega (arith, length-drop n l))
