-- A number and its decimal digits, a line and its value: what is written is read back, and what is read is what is written.
use Rattle.std.specs.Prelude.{◌≡◌, refl, Bool, true, false, cond, ◌||◌, List, [], ◌∷◌, ◌++◌, ℕ, zero, suc, ◌+◌, ◌-◌, ◌*◌, ◌/◌, ◌%◌, ◌^◌, ◌<◌, ◌≤◌, leb, ltb, eqb, length}
use Rattle.std.proofs.Common.{sym, ◌∙◌, ap₂, append_assoc, pow-suc, arith, eq-eqb, eqb-true, lt-ltb, le-ltb, le-leb, ne_eqb, leb-true, ltb-true, ltb-false, length-append}
use Rattle.std.proofs.Math.Bool.{and-eq-true_iff}
use Rattle.std.proofs.lemmas.Bool.{eqb-false}
use Rattle.rules.specs.Text.{
  lf,
  digits_by,
  digits,
  line,
  Front,
  value,
  wrong,
  on_value,
  after_bytes,
  is_digit,
  most_number,
  number_from,
  number,
  line_value,
}

-- ---- digits

pub low : (d : ℕ) → is_digit d ≡ true → 48 ≤ d
unfolding is_digit
low d e = leb-true 48 d ((and-eq-true_iff (leb 48 d) (leb d 57)).0 e).0

pub high : (d : ℕ) → is_digit d ≡ true → d ≤ 57
unfolding is_digit
high d e = leb-true d 57 ((and-eq-true_iff (leb 48 d) (leb d 57)).0 e).1

pub is_digit_lem : (d : ℕ) → 48 ≤ d → d ≤ 57 → is_digit d ≡ true
unfolding is_digit
is_digit_lem d h g = rw (le-leb 48 d h, le-leb d 57 g)

-- how many steps are taken does not matter, if they are more than the number
enough : (f g n : ℕ) → n < f → n < g → digits_by f n ≡ digits_by g n
unfolding digits_by
enough zero g n h k = absurd (omega arith)
enough (suc f) zero n h k = absurd (omega arith)
enough (suc f) (suc g) n h k = go (ltb n 10) refl (enough f g (n / 10))
  where
    go : (b : Bool) → ltb n 10 ≡ b → (n / 10 < f → n / 10 < g → digits_by f (n / 10) ≡ digits_by g (n / 10))
        → digits_by (suc f) n ≡ digits_by (suc g) n
    go true e ih = rw e
    go false e ih =
        let l : 10 ≤ n = ltb-false n 10 e in
        rw (e, ih (omega arith) (omega arith))

-- the two laws by which everything else goes
pub one-digit : (n : ℕ) → n < 10 → digits n ≡ (48 + n) ∷ []
unfolding digits
one-digit n h = rw (lt-ltb n 10 h)

pub last_digit : (n : ℕ) → 10 ≤ n → digits n ≡ digits (n / 10) ++ ((48 + n % 10) ∷ [])
unfolding digits
last_digit n h = rw (le-ltb n 10 h, enough n (suc (n / 10)) (n / 10) (omega arith) (omega arith))

-- one digit more at the end
pub push_digit : (n d : ℕ) → 0 < n → is_digit d ≡ true → digits (n * 10 + (d - 48)) ≡ digits n ++ (d ∷ [])
push_digit n d h e =
    let l : 48 ≤ d = low d e in
    let g : d ≤ 57 = high d e in
    let q : (n * 10 + (d - 48)) / 10 ≡ n = omega arith in
    let m : 48 + (n * 10 + (d - 48)) % 10 ≡ d = omega arith in
    last_digit (n * 10 + (d - 48)) (omega arith) ∙ rw (q, m)

-- how to recurse on a number by its digits
pub data ByTens : ℕ → Type 0 where
  small : {n : ℕ} → n < 10 → ByTens n
  big : {n : ℕ} → 10 ≤ n → ByTens (n / 10) → ByTens n

by_tens_below : (f n : ℕ) → n < f → ByTens n
by_tens_below zero n h = absurd (omega arith)
by_tens_below (suc f) n h = go (ltb n 10) refl (by_tens_below f (n / 10))
  where
    go : (b : Bool) → ltb n 10 ≡ b → (n / 10 < f → ByTens (n / 10)) → ByTens n
    go true e ih = small (ltb-true n 10 e)
    go false e ih = let l : 10 ≤ n = ltb-false n 10 e in big l (ih (omega arith))

pub by_tens : (n : ℕ) → ByTens n
by_tens n = by_tens_below (n + 1) n (omega arith)

-- a number below 10 ^ k has at most k digits
digits-below : (k n : ℕ) → n < 10 ^ suc k → length (digits n) ≤ suc k
digits-below zero n h = rw (one-digit n h) (omega arith)
digits-below (suc k) n h = go (ltb n 10) refl (digits-below k (n / 10))
  where
    go : (b : Bool) → ltb n 10 ≡ b → (n / 10 < 10 ^ suc k → length (digits (n / 10)) ≤ suc k) → length (digits n) ≤ suc (suc k)
    go true e ih = rw (one-digit n (ltb-true n 10 e)) (omega arith)
    go false e ih =
        rw (last_digit n (ltb-false n 10 e), length-append)
        (omega (arith, ih (omega (arith, rw (pow-suc 10 (suc k)) at h))))

pub digits_most : (n : ℕ) → n ≤ most_number → length (digits n) ≤ 10
digits_most n h = digits-below 9 n (omega arith)

-- ---- what is written is read back

-- no digit comes next
abbrev pub Ends : List ℕ → Type 0
Ends [] = Unit {0}
Ends (d ∷ ds) = is_digit d ≡ false

-- after the digits of n, reading goes on with the value n
reads_by : {n : ℕ} → ByTens n → (ys : List ℕ) → n ≤ most_number → number (digits n ++ ys) ≡ number_from n ys
unfolding number
reads_by {n} (small h) ys k =
    let s : 48 + n - 48 ≡ n = omega arith in
    rw (one-digit n h, is_digit_lem (48 + n) (omega arith) (omega arith), s)
reads_by {n} (big h t) ys k =
    let v : n / 10 * 10 + (48 + n % 10 - 48) ≡ n = omega arith in
    let z : eqb (n / 10) 0 ≡ false = ne_eqb (n / 10) 0 (omega arith) in
    rw (last_digit n h, append_assoc)
    (reads_by t ((48 + n % 10) ∷ ys) (omega arith)
    ∙ rw (is_digit_lem (48 + n % 10) (omega arith) (omega arith), z, v, le-ltb most_number n k))

pub number_back : (n : ℕ) (rest : List ℕ) → n ≤ most_number → Ends rest → number (digits n ++ rest) ≡ value n rest
unfolding number_from
number_back n rest k e = reads_by (by_tens n) rest k ∙ stops rest e
  where
    stops : (zs : List ℕ) → Ends zs → number_from n zs ≡ value n zs
    stops [] t = refl
    stops (d ∷ ds) t = rw t

-- ---- what is read is what is written

-- t begins with the digits of n, and rest comes after them
pub record NumberFirst (n : ℕ) (t rest : List ℕ) : Type 0 where
  pub text : t ≡ digits n ++ rest
  pub small : n ≤ most_number
  pub ends : Ends rest

-- the three ways in which `number_from` goes at a byte
data Way (n d : ℕ) (ds : List ℕ) : Front → Type 0 where
  ends : is_digit d ≡ false → Way n d ds (value n (d ∷ ds))
  stops : Way n d ds (wrong (d ∷ ds))
  goes : is_digit d ≡ true → 0 < n → n * 10 + (d - 48) ≤ most_number → Way n d ds (number_from (n * 10 + (d - 48)) ds)

way : (n d : ℕ) (ds : List ℕ) → Way n d ds (number_from n (d ∷ ds))
unfolding number_from
way n d ds = go (is_digit d) (eqb n 0) (ltb most_number (n * 10 + (d - 48))) refl refl refl
  where
    go : (b z l : Bool) → is_digit d ≡ b → eqb n 0 ≡ z → ltb most_number (n * 10 + (d - 48)) ≡ l
        → Way n d ds (cond b (cond (z || l) (wrong (d ∷ ds)) (number_from (n * 10 + (d - 48)) ds)) (value n (d ∷ ds)))
    go false z l p q r = ends p
    go true true l p q r = stops
    go true false true p q r = stops
    go true false false p q r = let e : n ≡ 0 → ⊥ = eqb-false n 0 q in goes p (omega arith) (ltb-false _ _ r)

-- the rest of a number, after digits that stand for m
took : (ds : List ℕ) (m n : ℕ) (rest : List ℕ) → m ≤ most_number → number_from m ds ≡ value n rest → NumberFirst n (digits m ++ ds) rest
unfolding number_from
took [] m n rest k q =
    let e : m ≡ n = cc in
    let r : [] ≡ rest = cc in
    record { text = rw (e, r); small = omega arith; ends = rw (← r) tt }
took (d ∷ ds) m n rest k q = by (way m d ds) q (took ds (m * 10 + (d - 48)) n rest)
  where
    by : {r : Front} → Way m d ds r → r ≡ value n rest
        → (m * 10 + (d - 48) ≤ most_number → number_from (m * 10 + (d - 48)) ds ≡ value n rest
        → NumberFirst n (digits (m * 10 + (d - 48)) ++ ds) rest)
        → NumberFirst n (digits m ++ (d ∷ ds)) rest
    by (ends p) w ih =
        let e : m ≡ n = cc in
        let r : d ∷ ds ≡ rest = cc in
        record { text = rw (e, r); small = omega arith; ends = rw (← r) p }
    by stops w ih = let z : ◌≡◌ {A = ℕ} 0 1 = cc in absurd (omega arith)
    by (goes p z l) w ih =
        let g : NumberFirst n (digits (m * 10 + (d - 48)) ++ ds) rest = ih l w in
        record { text = rw (push_digit m d z p, append_assoc) at g.text; small = g.small; ends = g.ends }

pub number_is : (t : List ℕ) (n : ℕ) (rest : List ℕ) → number t ≡ value n rest → NumberFirst n t rest
unfolding number
number_is [] n rest q = let z : ◌≡◌ {A = ℕ} 0 1 = cc in absurd (omega arith)
number_is (d ∷ ds) n rest q = by (is_digit d) refl q
  where
    by : (b : Bool) → is_digit d ≡ b → cond b (number_from (d - 48) ds) (wrong (d ∷ ds)) ≡ value n rest → NumberFirst n (d ∷ ds) rest
    by false p w = let z : ◌≡◌ {A = ℕ} 0 1 = cc in absurd (omega arith)
    by true p w =
        let l : 48 ≤ d = low d p in
        let g : d ≤ 57 = high d p in
        let i : 48 + (d - 48) ≡ d = omega arith in
        rw (one-digit (d - 48) (omega arith), i) at (took ds (d - 48) n rest (omega arith) w)

-- ---- lines

-- the bytes k go before u, and go is asked of u
pub after_back : (k u : List ℕ) (go : List ℕ → Front) → after_bytes k (k ++ u) go ≡ go u
unfolding after_bytes
after_back [] u go = refl
after_back (x ∷ xs) u go = rw (eq-eqb x x refl) (after_back xs u go)

pub after_is : (k t : List ℕ) (go : List ℕ → Front) (v : ℕ) (rest : List ℕ) → after_bytes k t go ≡ value v rest
    → (u : List ℕ) × (t ≡ k ++ u) × (go u ≡ value v rest)
unfolding after_bytes
after_is [] t go v rest q = (t, refl, q)
after_is (x ∷ xs) [] go v rest q = let z : ◌≡◌ {A = ℕ} 0 1 = cc in absurd (omega arith)
after_is (x ∷ xs) (y ∷ ys) go v rest q = by (eqb y x) refl q (after_is xs ys go v rest)
  where
    by : (b : Bool) → eqb y x ≡ b → cond b (after_bytes xs ys go) (wrong (y ∷ ys)) ≡ value v rest
        → (after_bytes xs ys go ≡ value v rest → (u : List ℕ) × (ys ≡ xs ++ u) × (go u ≡ value v rest))
        → (u : List ℕ) × (y ∷ ys ≡ x ∷ (xs ++ u)) × (go u ≡ value v rest)
    by false p w ih = let z : ◌≡◌ {A = ℕ} 0 1 = cc in absurd (omega arith)
    by true p w ih =
        let g : (u : List ℕ) × (ys ≡ xs ++ u) × (go u ≡ value v rest) = ih w in
        (g.0, ap₂ ◌∷◌ (eqb-true y x p) g.1, g.2)

-- what is asked after the key
after_key : List ℕ → Front
after_key u = on_value (number u) (λ v w. after_bytes (lf ∷ []) w (value v)) wrong

after-key_back : (v : ℕ) (rest : List ℕ) → v ≤ most_number → after_key (digits v ++ (lf ∷ rest)) ≡ value v rest
unfolding after_key is_digit
after-key_back v rest h = rw (number_back v (lf ∷ rest) h refl) (after_back (lf ∷ []) rest (value v))

pub line-bytes : (k : List ℕ) (v : ℕ) → line k v ≡ (k ++ digits v) ++ (lf ∷ [])
unfolding line
line-bytes k v = sym (append_assoc k (digits v) (lf ∷ []))

pub line-length : (k : List ℕ) (v : ℕ) → length (line k v) ≡ length k + length (digits v) + 1
line-length k v = rw line-bytes (simp length-append)

line_text : (k : List ℕ) (v : ℕ) (rest : List ℕ) → line k v ++ rest ≡ k ++ (digits v ++ (lf ∷ rest))
line_text k v rest = rw line-bytes (simp append_assoc)

pub line_back : (k : List ℕ) (v : ℕ) (rest : List ℕ) → v ≤ most_number → line_value k (line k v ++ rest) ≡ value v rest
unfolding line_value after_key
line_back k v rest h = rw (line_text k v rest) (after_back k (digits v ++ (lf ∷ rest)) after_key ∙ after-key_back v rest h)

-- t begins with the line of k and v, and rest comes after it
pub record LineFirst (k : List ℕ) (v : ℕ) (t rest : List ℕ) : Type 0 where
  pub text : t ≡ line k v ++ rest
  pub small : v ≤ most_number

after-key-is : (u : List ℕ) (v : ℕ) (rest : List ℕ) → after_key u ≡ value v rest → (u ≡ digits v ++ (lf ∷ rest)) × (v ≤ most_number)
unfolding after_key
after-key-is u v rest q = by (number u) refl q
  where
    by : (f : Front) → number u ≡ f → on_value f (λ n w. after_bytes (lf ∷ []) w (value n)) wrong ≡ value v rest
        → (u ≡ digits v ++ (lf ∷ rest)) × (v ≤ most_number)
    by (wrong w) e p = let z : ◌≡◌ {A = ℕ} 0 1 = cc in absurd (omega arith)
    by (value n w) e p =
        let g = number_is u n w e in
        let a = after_is (lf ∷ []) w (value n) v rest p in
        let m : n ≡ v = cc in
        let r : a.0 ≡ rest = cc in
        (g.text ∙ rw (m, a.1, r), rw (← m) g.small)

pub line-is : (k t : List ℕ) (v : ℕ) (rest : List ℕ) → line_value k t ≡ value v rest → LineFirst k v t rest
unfolding line_value after_key
line-is k t v rest q =
    let a = after_is k t after_key v rest q in
    let b = after-key-is a.0 v rest a.2 in
    record { text = a.1 ∙ rw b.0 (sym (line_text k v rest)); small = b.1 }
