-- The lines of a text, and the first wrong one: a refusal's place is the first line with which no right text goes on.
use Rattle.std.specs.Prelude.{◌≡◌, Bool, true, false, cond, not, ◌&&◌, eqb, length, get_or, take, drop, replicate}
use Rattle.std.proofs.Math.Path.{refl}
use Rattle.std.proofs.Common.{sym, ◌∙◌, ap, mul-div_cancel, arith, ne_eqb, take-append-drop, length-append, take-take, take-add, take_at, drop_at}
use Rattle.std.proofs.Math.Bool.{and-eq-true_iff}
use mathlib.Core.List.{List, [], ◌∷◌, ◌++◌, append_assoc, append-nil}
use Prim.Native.Nat.{ℕ, zero, suc, ◌+◌, ◌-◌, ◌*◌, ◌/◌, ◌%◌, ◌<◌, ◌≤◌}
use Rattle.std.proofs.Math.Decide.{dec_lt}
use Rattle.std.proofs.lemmas.List.{length-replicate, get_or-replicate}
use Rattle.std.proofs.Math.Seq.{take-append-add}
use Rattle.rules.specs.Table.{Table}
use Rattle.rules.specs.Refusals.{Fault, fault, Outcome, refused, gives}
use Rattle.rules.specs.Text.{
  lf,
  keys,
  key,
  Part,
  job_part,
  arc_part,
  section_part,
  key_at,
  digits,
  line,
  value_lines,
  part_text,
  text_of,
  Front,
  value,
  wrong,
  on_value,
  line_value,
  Taken,
  prepend,
  read_values,
  read_part,
  read,
}
use Rattle.laws.specs.Tests.{clash}
use Rattle.laws.specs.Digits.{LineFirst, line-bytes, line_back, line-is, ByTens, small, big, by_tens, one-digit, last_digit}
use Rattle.laws.specs.Answers.{not_both}
use Rattle.laws.specs.Text.{
  Words,
  words_none,
  words_more,
  lines_none as no_lines,
  lines_more,
  part_text_lem,
  on_line,
  values_more,
  values_none,
  on_count,
  part_read,
  Sound,
  jobs_sound,
  arcs_sound,
  sections_sound,
  Counted,
  taken,
  part_back,
  PartFirst,
  counts_back,
  Right,
  text_of_lem,
  read_parts,
  on_jobs,
  on_arcs,
  Way,
  in_jobs,
  in_arcs,
  in_sections,
  left_over,
  whole,
  way,
  TextOf,
  read_back,
}

-- ---- cutting a text into lines

-- a byte before the first line
abbrev attach : ℕ → List (List ℕ) → List (List ℕ)
attach b [] = (b ∷ []) ∷ []
attach b (l ∷ ls) = (b ∷ l) ∷ ls

-- A text is cut after each LF. What comes after the last LF, if there is anything, is a line too, and has no LF.
unfoldable pub lines_of : List ℕ → List (List ℕ)
lines_of [] = []
lines_of (b ∷ bs) = cond (eqb b lf) ((b ∷ []) ∷ lines_of bs) (attach b (lines_of bs))

-- the lines one after the other
abbrev joined : List (List ℕ) → List ℕ
joined [] = []
joined (l ∷ ls) = l ++ joined ls

lines_joined : (t : List ℕ) → joined (lines_of t) ≡ t
unfolding lines_of
lines_joined [] = refl
lines_joined (b ∷ bs) = by (eqb b lf) (lines_of bs) (lines_joined bs)
  where
    by : (e : Bool) (ls : List (List ℕ)) → joined ls ≡ bs → joined (cond e ((b ∷ []) ∷ ls) (attach b ls)) ≡ b ∷ bs
    by true ls h = ap (◌∷◌ b) h
    by false [] h = ap (◌∷◌ b) h
    by false (l ∷ ls) h = ap (◌∷◌ b) h

joined_append : (ls ms : List (List ℕ)) → joined (ls ++ ms) ≡ joined ls ++ joined ms
joined_append [] ms = refl
joined_append (l ∷ ls) ms = rw (joined_append ls ms) (sym (append_assoc l (joined ls) (joined ms)))

-- ---- whole lines

-- front is n whole lines: whatever follows starts a new one
pub record Whole (n : ℕ) (front : List ℕ) : Type 0 where
  pub apart : (rest : List ℕ) → lines_of (front ++ rest) ≡ lines_of front ++ lines_of rest
  pub many : length (lines_of front) ≡ n

pub whole-none : Whole 0 []
unfolding lines_of
whole-none = record { apart = λ rest. refl; many = refl }

pub whole_append : {m n : ℕ} {a b : List ℕ} → Whole m a → Whole n b → Whole (m + n) (a ++ b)
whole_append {m} {n} {a} {b} v w =
    record {
      apart = λ rest. rw (append_assoc, v.apart (b ++ rest), w.apart rest, v.apart b, append_assoc);
      many = rw (v.apart b, length-append) (omega (arith, v.many, w.many));
    }

-- bytes with no LF among them
abbrev plain : List ℕ → Bool
plain [] = true
plain (b ∷ bs) = not (eqb b lf) && plain bs

plain_append : (a b : List ℕ) → plain a ≡ true → plain b ≡ true → plain (a ++ b) ≡ true
plain_append [] b p q = q
plain_append (x ∷ xs) b p q = by (eqb x lf) p (plain_append xs b)
  where
    by : (e : Bool) → (not e && plain xs) ≡ true
        → (plain xs ≡ true → plain b ≡ true → plain (xs ++ b) ≡ true) → (not e && plain (xs ++ b)) ≡ true
    by true p ih = clash p refl
    by false p ih = ih p q

plain_lines : (w rest : List ℕ) → plain w ≡ true → lines_of (w ++ (lf ∷ rest)) ≡ (w ++ (lf ∷ [])) ∷ lines_of rest
unfolding lines_of
plain_lines [] rest p = refl
plain_lines (b ∷ bs) rest p = by (eqb b lf) p (plain_lines bs rest)
  where
    by : (e : Bool) → (not e && plain bs) ≡ true
        → (plain bs ≡ true → lines_of (bs ++ (lf ∷ rest)) ≡ (bs ++ (lf ∷ [])) ∷ lines_of rest)
        → cond e ((b ∷ []) ∷ lines_of (bs ++ (lf ∷ rest))) (attach b (lines_of (bs ++ (lf ∷ rest))))
        ≡ (b ∷ (bs ++ (lf ∷ []))) ∷ lines_of rest
    by true p ih = clash p refl
    by false p ih = rw (ih p)

digits-plain : {n : ℕ} → ByTens n → plain (digits n) ≡ true
digits-plain {n} (small h) = rw (one-digit n h, ne_eqb (48 + n) lf (omega arith))
digits-plain {n} (big h t) =
    rw (last_digit n h)
    (plain_append (digits (n / 10)) ((48 + n % 10) ∷ []) (digits-plain t) (rw (ne_eqb (48 + n % 10) lf (omega arith))))

key-plain : (k : ℕ) → plain (key k) ≡ true
unfolding key
key-plain k = at keys refl k
  where
    all_plain : List (List ℕ) → Bool
    all_plain [] = true
    all_plain (w ∷ ws) = plain w && all_plain ws

    at : (ws : List (List ℕ)) → all_plain ws ≡ true → (k : ℕ) → plain (get_or ws k []) ≡ true
    at [] e k = refl
    at (w ∷ ws) e zero = ((and-eq-true_iff (plain w) (all_plain ws)).0 e).0
    at (w ∷ ws) e (suc k) = at ws ((and-eq-true_iff (plain w) (all_plain ws)).0 e).1 k

lines_none : lines_of [] ≡ []
unfolding lines_of
lines_none = refl

whole_ended : (w : List ℕ) → plain w ≡ true → Whole 1 (w ++ (lf ∷ []))
whole_ended w p =
    record {
      apart = λ rest. rw (append_assoc w (lf ∷ []) rest, plain_lines w rest p, plain_lines w [] p, lines_none);
      many = rw (plain_lines w [] p, lines_none);
    }

pub whole-line : (k v : ℕ) → Whole 1 (line (key k) v)
whole-line k v =
    rw (line-bytes (key k) v)
    (whole_ended (key k ++ digits v) (plain_append (key k) (digits v) (key-plain k) (digits-plain (by_tens v))))

pub whole_values : (b : Part) (i : ℕ) (vs : List ℕ) → Whole (length vs) (value_lines b i vs)
whole_values b i [] = rw (no_lines b i) whole-none
whole_values b i (v ∷ vs) =
    let e : suc (length vs) ≡ 1 + length vs = omega arith in
    rw (lines_more b i v vs, e) (whole_append (whole-line (b.head + 1 + i % b.width) v) (whole_values b (i + 1) vs))

pub whole_part : (b : Part) (vs : List ℕ) → Whole (1 + length vs) (part_text b vs)
whole_part b vs = rw (part_text_lem b vs) (whole_append (whole-line b.head (length vs / b.width)) (whole_values b 0 vs))

-- ---- texts whose first lines are the same

-- the first n lines of two texts are the same; a missing line equals only a missing one
pub record SameLines (n : ℕ) (t u : List ℕ) : Type 0 where
  pub same : take n (lines_of t) ≡ take n (lines_of u)

pub same_none : (t u : List ℕ) → SameLines 0 t u
same_none t u = record { same = refl }

pub same_sym : {n : ℕ} {t u : List ℕ} → SameLines n t u → SameLines n u t
same_sym s = record { same = sym s.same }

-- fewer lines are the same too
pub same_fewer : {m n : ℕ} {t u : List ℕ} → m ≤ n → SameLines n t u → SameLines m t u
same_fewer {m} {n} {t} {u} h s =
    record { same = sym (take-take m n (lines_of t) h) ∙ ap (take m) s.same ∙ take-take m n (lines_of u) h }

-- whole lines may be put before both, or taken off
pub same_after : {n m : ℕ} {front rest rest' : List ℕ} → Whole n front → SameLines m rest rest'
    → SameLines (n + m) (front ++ rest) (front ++ rest')
same_after {n} {m} {front} {rest} {rest'} w s =
    record {
      same = rw (w.apart rest, w.apart rest', ← w.many, take-append-add (lines_of front) (lines_of rest) m, take-append-add (lines_of front) (lines_of rest') m, s.same);
    }

pub same_split : {n m : ℕ} {front rest : List ℕ} (u : List ℕ) → Whole n front → SameLines (n + m) (front ++ rest) u
    → (rest' : List ℕ) × (u ≡ front ++ rest') × SameLines m rest rest'
same_split {n} {m} {front} {rest} u w s =
    let f : List (List ℕ) = lines_of front in
    let ls : List (List ℕ) = lines_of u in
    let rest' : List ℕ = joined (drop n ls) in
    let x : take (n + m) (f ++ lines_of rest) ≡ take (n + m) ls = rw (w.apart rest) at s.same in
    let a : take n ls ≡ f =
    sym (take-take n (n + m) ls (omega arith))
    ∙ ap (take n) (sym x)
    ∙ take-take n (n + m) (f ++ lines_of rest) (omega arith)
    ∙ take_at f (lines_of rest) n w.many in
    let j : joined f ++ rest' ≡ u =
    ap (λ (g : List (List ℕ)). joined g ++ rest') (sym a)
    ∙ sym (joined_append (take n ls) (drop n ls))
    ∙ ap joined (take-append-drop n ls)
    ∙ lines_joined u in
    let e : u ≡ front ++ rest' = sym j ∙ ap (λ (g : List ℕ). g ++ rest') (lines_joined front) in
    let d : drop n ls ≡ lines_of rest' = ap (drop n) (ap lines_of e ∙ w.apart rest') ∙ drop_at f (lines_of rest') n w.many in
    let y : f ++ take m (lines_of rest) ≡ f ++ take m (drop n ls) =
    sym (rw w.many at (take-append-add f (lines_of rest) m))
    ∙ x
    ∙ take-add n m ls
    ∙ ap (λ (g : List (List ℕ)). g ++ take m (drop n ls)) a in (
      rest',
      e,
      record {
        same = sym (drop_at f (take m (lines_of rest)) n w.many)
            ∙ ap (drop n) y
            ∙ drop_at f (take m (drop n ls)) n w.many
            ∙ ap (take m) d;
      },
    )

-- ---- where reading stops

-- A text t, from line `at` on, is refused after whole lines: something right begins with them, and with the line that comes
-- next the refusal is the same, whatever follows.
pub record Stop (Begins : List ℕ → Type 0) (Refuses : List ℕ → Type 0) (at : ℕ) (t : List ℕ) (f : Fault) : Type 0 where
  pub lines : ℕ
  pub place : f.place ≡ at + lines
  pub front : List ℕ
  pub rest : List ℕ
  pub text : t ≡ front ++ rest
  pub whole : Whole lines front
  pub begins : Begins front
  pub stays : (u : List ℕ) → SameLines 1 rest u → Refuses (front ++ u)

-- whole lines that are right may be put before it
stop_after : {B C Q R : List ℕ → Type 0} {at n m : ℕ} {t : List ℕ} {f : Fault} (first : List ℕ) → Whole n first → m ≡ at + n
    → Stop B Q m t f → ((x : List ℕ) → B x → C (first ++ x)) → ((x : List ℕ) → Q x → R (first ++ x))
    → Stop C R at (first ++ t) f
stop_after {B} {C} {Q} {R} {at} {n} {m} {t} {f} first w e s b r =
    record {
      lines = n + s.lines;
      place = omega (arith, s.place);
      front = first ++ s.front;
      rest = s.rest;
      text = rw (append_assoc, ← s.text);
      whole = whole_append w s.whole;
      begins = b s.front s.begins;
      stays = λ u e. rw append_assoc (r (s.front ++ u) (s.stays u e));
    }

-- it stops at once
stop_here : {B Q : List ℕ → Type 0} {at : ℕ} {t : List ℕ} {f : Fault} → f.place ≡ at → B [] → ((u : List ℕ) → SameLines 1 t u → Q u)
    → Stop B Q at t f
stop_here {B} {Q} {at} {t} e b q =
    record { lines = 0; place = omega arith; front = []; rest = t; text = refl; whole = whole-none; begins = b; stays = q }

-- a line that is read is read whatever follows
value_stays : (k v : ℕ) (t rest u : List ℕ) → LineFirst (key k) v t rest → SameLines 1 t u → (x : List ℕ) × (line_value (key k) u ≡ value v x)
value_stays k v t rest u l s =
    let g = same_split {m = 0} u (whole-line k v) (rw l.text at s) in
    (g.0, ap (line_value (key k)) g.1 ∙ line_back (key k) v g.0 l.small)

-- and a wrong one is wrong
wrong_stays : (k : ℕ) (t w u : List ℕ) → line_value (key k) t ≡ wrong w → SameLines 1 t u → (x : List ℕ) × (line_value (key k) u ≡ wrong x)
wrong_stays k t w u e s = by (line_value (key k) u) refl
  where
    by : (f : Front) → line_value (key k) u ≡ f → (x : List ℕ) × (line_value (key k) u ≡ wrong x)
    by (wrong x) p = (x, p)
    by (value v rest) p =
        let g = value_stays k v u rest t (line-is (key k) u v rest p) (same_sym s) in
        let q : wrong w ≡ value v g.0 = sym e ∙ g.1 in
        let z : ◌≡◌ {A = ℕ} 0 1 = cc in
        absurd (omega arith)

-- n values, all 0
abbrev zeros : ℕ → List ℕ
zeros n = replicate n 0

zeros_words : (n : ℕ) → Words (zeros n)
zeros_words n = record { small = λ i l. omega (arith, get_or-replicate {A = ℕ} n i 0 0 (rw length-replicate at l)) }

-- some n values begin so
abbrev BeginsValues : Part → ℕ → ℕ → List ℕ → Type 0
BeginsValues b n i front = (vs : List ℕ) × (more : List ℕ) × (length vs ≡ n) × Words vs × (value_lines b i vs ≡ front ++ more)

-- the lines of n values are refused so
abbrev RefusesValues : Part → ℕ → ℕ → ℕ → Fault → List ℕ → Type 0
RefusesValues b n i at f u = read_values b n i at u ≡ refused f

module _ (b : Part) (n i at : ℕ) (f : Fault) where
  values_stop_here : (t w : List ℕ) → line_value (key_at b i) t ≡ wrong w → fault 1 at ≡ f
      → Stop (BeginsValues b (suc n) i) (RefusesValues b (suc n) i at f) at t f
  values_stop_here t w e p =
      stop_here (ap (λ (g : Fault). g.place) (sym p))
      (zeros (suc n), value_lines b i (zeros (suc n)), length-replicate (suc n) 0, zeros_words (suc n), refl)
      (λ u s. values_more b n i at u ∙ ap (on_line b n i at) (wrong_stays (b.head + 1 + i % b.width) t w u e s).1 ∙ ap refused p)

  values_stop_later : (v : ℕ) (t rest : List ℕ) → LineFirst (key_at b i) v t rest
      → Stop (BeginsValues b n (i + 1)) (RefusesValues b n (i + 1) (at + 1) f) (at + 1) rest f
      → Stop (BeginsValues b (suc n) i) (RefusesValues b (suc n) i at f) at t f
  values_stop_later v t rest l s =
      rw l.text
      (stop_after (line (key_at b i) v) (whole-line (b.head + 1 + i % b.width) v) refl s
      (λ x g. (v ∷ g.0, g.1, ap suc g.2, words_more l.small g.3, rw (lines_more b i v g.0, g.4, append_assoc)))
      (λ x q. values_more b n i at (line (key_at b i) v ++ x) ∙ rw (line_back (key_at b i) v x l.small) (ap (prepend v) q)))

values_stop : (b : Part) (n i at : ℕ) (t : List ℕ) (f : Fault) → read_values b n i at t ≡ refused f
    → Stop (BeginsValues b n i) (RefusesValues b n i at f) at t f
values_stop b zero i at t f q = not_both (values_none b i at t) q
values_stop b (suc n) i at t f q =
    by (line_value (key_at b i) t) refl (sym (values_more b n i at t) ∙ q) (values_stop b n (i + 1) (at + 1))
  where
    more : (v : ℕ) (o : Outcome Taken) → prepend v o ≡ refused f → o ≡ refused f
    more v (refused g) p = cc
    more v (gives k) p = not_both refl p

    by : (l : Front) → line_value (key_at b i) t ≡ l → on_line b n i at l ≡ refused f
        → ((u : List ℕ) (g : Fault) → read_values b n (i + 1) (at + 1) u ≡ refused g
        → Stop (BeginsValues b n (i + 1)) (RefusesValues b n (i + 1) (at + 1) g) (at + 1) u g)
        → Stop (BeginsValues b (suc n) i) (RefusesValues b (suc n) i at f) at t f
    by (wrong w) e p ih = values_stop_here b n i at f t w e (cc)
    by (value v rest) e p ih =
        values_stop_later b n i at f v t rest (line-is (key_at b i) t v rest e)
        (ih rest f (more v (read_values b n (i + 1) (at + 1) rest) p))

-- some part begins so
abbrev BeginsPart : Part → List ℕ → Type 0
BeginsPart b front = (vs : List ℕ) × (more : List ℕ) × Words vs × Counted b vs × (part_text b vs ≡ front ++ more)

-- a part that starts so is refused
abbrev RefusesPart : Part → ℕ → Fault → List ℕ → Type 0
RefusesPart b at f u = read_part b at u ≡ refused f

-- what a part's text leads to, once its count is read
abbrev on_head : Part → ℕ → Front → Outcome Taken
on_head b at l = on_value l (on_count b at) (λ u. refused (fault 1 at))

module _ (b : Part) (s : Sound b) (at : ℕ) (f : Fault) where
  -- n rows are counted
  rows_counted : (n : ℕ) (vs : List ℕ) → b.right n ≡ true → length vs ≡ n * b.width → (length vs / b.width ≡ n) × Counted b vs
  rows_counted n vs r e =
      let q : length vs / b.width ≡ n = rw e (mul-div_cancel n s.wide) in
      (q, record { whole = rw q (sym e); right = rw q r })

  zeros_begin : BeginsPart b []
  zeros_begin =
      let vs : List ℕ = zeros (1 * b.width) in
      (vs, part_text b vs, zeros_words (1 * b.width), (rows_counted 1 vs s.one (length-replicate (1 * b.width) 0)).1, refl)

  head_stops : (t w : List ℕ) → line_value (key b.head) t ≡ wrong w → fault 1 at ≡ f → Stop (BeginsPart b) (RefusesPart b at f) at t f
  head_stops t w e p =
      stop_here (ap (λ (g : Fault). g.place) (sym p)) zeros_begin
      (λ u g. part_read b at u ∙ ap (on_head b at) (wrong_stays b.head t w u e g).1 ∙ ap refused p)

  count-stops : (n : ℕ) (t rest : List ℕ) → LineFirst (key b.head) n t rest → b.right n ≡ false → fault b.refusal at ≡ f
      → Stop (BeginsPart b) (RefusesPart b at f) at t f
  count-stops n t rest l r p =
      stop_here (ap (λ (g : Fault). g.place) (sym p)) zeros_begin
      (λ u g. part_read b at u ∙ rw ((value_stays b.head n t rest u l g).1, r) (ap refused p))

  rows_stop : (n : ℕ) (t rest : List ℕ) → LineFirst (key b.head) n t rest → b.right n ≡ true
      → Stop (BeginsValues b (n * b.width) 0) (RefusesValues b (n * b.width) 0 (at + 1) f) (at + 1) rest f
      → Stop (BeginsPart b) (RefusesPart b at f) at t f
  rows_stop n t rest l r v =
      rw l.text
      (stop_after (line (key b.head) n) (whole-line b.head n) refl v
      (λ x g.
      let c = rows_counted n g.0 r g.2 in
      (g.0, g.1, g.3, c.1, rw (part_text_lem b g.0, c.0, g.4, append_assoc)))
      (λ x q. part_read b at (line (key b.head) n ++ x) ∙ rw (line_back (key b.head) n x l.small, r) q))

part_stop : (b : Part) → Sound b → (at : ℕ) (t : List ℕ) (f : Fault) → read_part b at t ≡ refused f
    → Stop (BeginsPart b) (RefusesPart b at f) at t f
part_stop b s at t f q = by (line_value (key b.head) t) refl (sym (part_read b at t) ∙ q)
  where
    judged : (n : ℕ) (rest : List ℕ) (r : Bool) → b.right n ≡ r → LineFirst (key b.head) n t rest
        → cond r (read_values b (n * b.width) 0 (at + 1) rest) (refused (fault b.refusal at)) ≡ refused f
        → Stop (BeginsPart b) (RefusesPart b at f) at t f
    judged n rest true r l p = rows_stop b s at f n t rest l r (values_stop b (n * b.width) 0 (at + 1) rest f p)
    judged n rest false r l p = count-stops b s at f n t rest l r (cc)

    by : (l : Front) → line_value (key b.head) t ≡ l → on_head b at l ≡ refused f
        → Stop (BeginsPart b) (RefusesPart b at f) at t f
    by (wrong w) e p = head_stops b s at f t w e (cc)
    by (value n rest) e p = judged n rest (b.right n) refl (line-is (key b.head) t n rest e) p

-- some right text begins so
abbrev BeginsText : List ℕ → Type 0
BeginsText front = (t : Table) × (more : List ℕ) × Right t × (text_of t ≡ front ++ more)

-- the text is refused so
abbrev RefusesText : Fault → List ℕ → Type 0
RefusesText f u = read u ≡ refused f

-- lists that make a right table
makes : (j a s : List ℕ) → Words j → Words a → Words s → Counted job_part j → Counted arc_part a → Counted section_part s
    → Right record { jobs = j; arcs = a; sections = s }
makes j a s x y z c d e =
    record { counts = counts_back _ (record { jobs = c; arcs = d; sections = e }); jobs = x; arcs = y; sections = z }

no_arcs : Counted arc_part []
no_arcs = record { whole = refl; right = refl }

no_sections : Counted section_part []
no_sections = record { whole = refl; right = refl }

-- something comes next
abbrev NotEmpty : List ℕ → Type 0
NotEmpty u = (y : ℕ) × (ys : List ℕ) × (u ≡ y ∷ ys)

goes_on : (x : ℕ) (xs u : List ℕ) → SameLines 1 (x ∷ xs) u → NotEmpty u
unfolding lines_of
goes_on x xs (y ∷ ys) s = (y, ys, refl)
goes_on x xs [] s = by (eqb x lf) (lines_of xs) s.same
  where
    by : (e : Bool) (ls : List (List ℕ)) → take 1 (cond e ((x ∷ []) ∷ ls) (attach x ls)) ≡ [] → NotEmpty []
    by true ls q = let z : ◌≡◌ {A = ℕ} 0 1 = cc in absurd (omega arith)
    by false [] q = let z : ◌≡◌ {A = ℕ} 0 1 = cc in absurd (omega arith)
    by false (l ∷ ls) q = let z : ◌≡◌ {A = ℕ} 0 1 = cc in absurd (omega arith)

module _ (text : List ℕ) (f : Fault) where
  jobs_stop : read_part job_part 1 text ≡ refused f → Stop BeginsText (RefusesText f) 1 text f
  jobs_stop e =
      stop_after [] whole-none refl (part_stop job_part jobs_sound 1 text f e)
      (λ x g. (
        record { jobs = g.0; arcs = []; sections = [] },
        g.1 ++ (part_text arc_part [] ++ part_text section_part []),
        makes g.0 [] [] g.2 words_none words_none g.3 no_arcs no_sections,
        rw (text_of_lem, g.4, append_assoc),
      ))
      (λ x q. read_parts x ∙ rw q)

  module _ (j : Taken) (J : PartFirst job_part 1 text j) where
    -- after the jobs
    read_jobs : (x : List ℕ) → read (part_text job_part j.values ++ x) ≡ on_jobs (taken j.values j.next x)
    read_jobs x =
        read_parts (part_text job_part j.values ++ x)
        ∙ rw (part_back job_part jobs_sound j.values 1 x J.words J.counted, ← J.next)

    arcs_stop : read_part arc_part j.next j.rest ≡ refused f → Stop BeginsText (RefusesText f) 1 text f
    arcs_stop e =
        rw J.text
        (stop_after (part_text job_part j.values) (whole_part job_part j.values) (omega (arith, J.next))
        (part_stop arc_part arcs_sound j.next j.rest f e)
        (λ x g. (
          record { jobs = j.values; arcs = g.0; sections = [] },
          g.1 ++ part_text section_part [],
          makes j.values g.0 [] J.words g.2 words_none J.counted g.3 no_sections,
          rw (text_of_lem, g.4, append_assoc, append_assoc),
        ))
        (λ x q. read_jobs x ∙ rw q))

    module _ (a : Taken) (A : PartFirst arc_part j.next j.rest a) where
      -- after the arcs
      first_parts : List ℕ
      first_parts = part_text job_part j.values ++ part_text arc_part a.values

      parts_whole : Whole (1 + length j.values + (1 + length a.values)) first_parts
      unfolding first_parts
      parts_whole = whole_append (whole_part job_part j.values) (whole_part arc_part a.values)

      parts_text : text ≡ first_parts ++ a.rest
      unfolding first_parts
      parts_text = rw (append_assoc, ← A.text) J.text

      read_arcs : (x : List ℕ)
          → read (first_parts ++ x)
          ≡ on_arcs (taken j.values j.next (part_text arc_part a.values ++ x)) (taken a.values a.next x)
      unfolding first_parts
      read_arcs x =
          rw append_assoc
          (read_jobs (part_text arc_part a.values ++ x)
          ∙ rw (part_back arc_part arcs_sound a.values j.next x A.words A.counted, ← A.next))

      sections_stop : read_part section_part a.next a.rest ≡ refused f → Stop BeginsText (RefusesText f) 1 text f
      unfolding first_parts
      sections_stop e =
          rw parts_text
          (stop_after first_parts parts_whole (omega (arith, J.next, A.next))
          (part_stop section_part sections_sound a.next a.rest f e)
          (λ x g. (
            record { jobs = j.values; arcs = a.values; sections = g.0 },
            g.1,
            makes j.values a.values g.0 J.words A.words g.2 J.counted A.counted g.3,
            rw (text_of_lem, g.4) (simp append_assoc),
          ))
          (λ x q. read_arcs x ∙ rw q))

      -- a text that goes on after its last line
      end_stop : (s : Taken) → PartFirst section_part a.next a.rest s → (x : ℕ) (xs : List ℕ) → s.rest ≡ x ∷ xs
          → fault 1 s.next ≡ f → Stop BeginsText (RefusesText f) 1 text f
      unfolding first_parts
      end_stop s S x xs r e =
          let p : List ℕ = part_text section_part s.values in
          rw (parts_text, S.text, ← append_assoc first_parts p s.rest)
          (stop_after {B = λ u. u ≡ []} {Q = NotEmpty} (first_parts ++ p)
          (whole_append parts_whole (whole_part section_part s.values))
          (omega (arith, J.next, A.next, S.next))
          (stop_here (ap (λ (g : Fault). g.place) (sym e)) refl (λ u g. goes_on x xs u (rw r at g)))
          (λ u g. (
            record { jobs = j.values; arcs = a.values; sections = s.values },
            [],
            makes j.values a.values s.values J.words A.words S.words J.counted A.counted S.counted,
            rw (text_of_lem, g) (simp (append_assoc, append-nil)),
          ))
          (λ u q.
          rw append_assoc
          (read_arcs (p ++ u)
          ∙ rw (part_back section_part sections_sound s.values a.next u S.words S.counted, ← S.next, q.2)
          (ap refused e))))

read_stop : (text : List ℕ) (f : Fault) → read text ≡ refused f → Stop BeginsText (RefusesText f) 1 text f
read_stop text f q = by (way text) q
  where
    by : {o : Outcome Table} → Way text o → o ≡ refused f → Stop BeginsText (RefusesText f) 1 text f
    by (in_jobs e) q = jobs_stop text f (e ∙ cc)
    by (in_arcs {j = j} J e) q = arcs_stop text f j J (e ∙ cc)
    by (in_sections {j = j} {a = a} J A e) q = sections_stop text f j J a A (e ∙ cc)
    by (left_over {j} {a} {s} {x} {xs} J A S e) q = end_stop text f j J a A s S x xs e (cc)
    by (whole J A S e) q = not_both refl q

-- ---- the first wrong line

-- The text of a table that has right counts and 32-bit numbers.
abbrev pub RightText : List ℕ → Type 0
RightText u = (t : Table) × TextOf u t

-- Line n, from 1, is the first wrong one: a right text has the same lines before it, and none has the same lines up to it.
-- A line that is missing is the same as one that is missing.
pub record FirstWrong (text : List ℕ) (n : ℕ) : Type 0 where
  pub before : (u : List ℕ) × RightText u × SameLines (n - 1) text u
  pub none : (u : List ℕ) → RightText u → SameLines n text u → ⊥

stop_wrong : {text : List ℕ} {f : Fault} → Stop BeginsText (RefusesText f) 1 text f → FirstWrong text f.place
stop_wrong {text} {f} s =
    let b = s.begins in
    let l : f.place - 1 ≡ s.lines + 0 = omega (arith, s.place) in
    let m : f.place ≡ s.lines + 1 = omega (arith, s.place) in
    record {
      before = (
        s.front ++ b.1,
        (b.0, record { same = sym b.3; right = b.2 }),
        rw (l, s.text) (same_after s.whole (same_none s.rest b.1)),
      );
      none = λ u r e.
          let g = same_split u s.whole (rw (m, s.text) at e) in
          let w : read u ≡ refused f = ap read g.1 ∙ s.stays g.0 g.2 in
          not_both (ap read r.1.same ∙ read_back r.0 r.1.right) w;
    }

-- a text is refused at its first wrong line
pub refused-at : (text : List ℕ) (f : Fault) → read text ≡ refused f → FirstWrong text f.place
refused-at text f q = stop_wrong (read_stop text f q)

-- a right text has none
pub right_none : (text : List ℕ) (n : ℕ) → RightText text → FirstWrong text n → ⊥
right_none text n r w = w.none text r (record { same = refl })

-- lines are counted from 1
pub from_one : {text : List ℕ} → FirstWrong text 0 → ⊥
from_one {text} w = w.none w.before.0 w.before.1 (same_none text w.before.0)

-- no text has two
not-later : {text : List ℕ} {m n : ℕ} → FirstWrong text m → FirstWrong text n → m < n → ⊥
not-later v w h = v.none w.before.0 w.before.1 (same_fewer (omega arith) w.before.2)

pub one-first : {text : List ℕ} {m n : ℕ} → FirstWrong text m → FirstWrong text n → m ≡ n
one-first {text} {m} {n} v w =
    elim (dec_lt m n) [
      | yes h ↦ absurd (not-later v w h)
      | no h ↦ elim (dec_lt n m) [ yes k ↦ absurd (not-later w v k) | no k ↦ omega arith ]
    ]
