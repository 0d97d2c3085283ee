-- A table and its text: what is written is read back, and what is read is what is written, values by values and part by part.
use Rattle.std.specs.Prelude.{◌≡◌, Bool, true, false, cond, ◌&&◌, List, [], ◌∷◌, ◌++◌, ℕ, zero, suc, ◌+◌, ◌*◌, ◌/◌, ◌%◌, ◌<◌, ◌≤◌, leb, eqb, length, get_or, Option, None}
use Rattle.std.proofs.Math.Path.{refl}
use Rattle.std.proofs.Common.{sym, ◌∙◌, ap, append_assoc, append-nil, mul-div_cancel, div-add-mod', arith, leb-true, eq-eqb, eqb-true}
use Rattle.std.proofs.Math.Bool.{and-eq-true_iff}
use Rattle.rules.specs.Table.{Table, most_jobs, most_arcs, most_sections}
use Rattle.rules.specs.Refusals.{Fault, fault, Outcome, refused, gives, and_then, first_of, demand, count_faults}
use Rattle.rules.specs.Text.{
  key,
  Part,
  job_part,
  arc_part,
  section_part,
  key_at,
  line,
  value_lines,
  part_text,
  text_of,
  Front,
  value,
  wrong,
  on_value,
  most_number,
  line_value,
  Taken,
  prepend,
  read_values,
  read_part,
  nothing_left,
  read,
}
use Rattle.laws.specs.Answers.{not_both}
use Rattle.laws.specs.Digits.{LineFirst, line_back, line-is}

-- each value is a 32-bit number
pub record Words (vs : List ℕ) : Type 0 where
  pub small : (i : ℕ) → i < length vs → get_or vs i 0 ≤ most_number

pub words_none : Words []
words_none = record { small = λ i l. absurd (omega arith) }

pub words_more : {v : ℕ} {vs : List ℕ} → v ≤ most_number → Words vs → Words (v ∷ vs)
words_more {v} {vs} h w = record { small = go }
  where
    go : (i : ℕ) → i < suc (length vs) → get_or (v ∷ vs) i 0 ≤ most_number
    go zero l = h
    go (suc i) l = w.small i (omega arith)

words_rest : {v : ℕ} {vs : List ℕ} → Words (v ∷ vs) → Words vs
words_rest w = record { small = λ i l. w.small (suc i) (omega arith) }

-- values that were read, the next line and what is left of the text
abbrev pub taken : List ℕ → ℕ → List ℕ → Taken
taken vs next rest = record { values = vs; next = next; rest = rest }

-- ---- the definitions, a step each: opened here, they stay shut below

module _ (b : Part) where
  pub lines_more : (i v : ℕ) (vs : List ℕ) → value_lines b i (v ∷ vs) ≡ line (key_at b i) v ++ value_lines b (i + 1) vs
  unfolding value_lines
  lines_more i v vs = refl

  pub lines_none : (i : ℕ) → value_lines b i [] ≡ []
  unfolding value_lines
  lines_none i = refl

  pub part_text_lem : (vs : List ℕ) → part_text b vs ≡ line (key b.head) (length vs / b.width) ++ value_lines b 0 vs
  unfolding part_text
  part_text_lem vs = refl

  -- what is read of a line leads to: one value more, or a refusal
  abbrev pub on_line : ℕ → ℕ → ℕ → Front → Outcome Taken
  on_line n i at f = on_value f (λ v rest. prepend v (read_values b n (i + 1) (at + 1) rest)) (λ u. refused (fault 1 at))

  pub values_more : (n i at : ℕ) (t : List ℕ) → read_values b (suc n) i at t ≡ on_line n i at (line_value (key_at b i) t)
  unfolding read_values
  values_more n i at t = refl

  pub values_none : (i at : ℕ) (t : List ℕ) → read_values b zero i at t ≡ gives (taken [] at t)
  unfolding read_values
  values_none i at t = refl

  -- what is made of a count: its rows, or a refusal
  abbrev pub on_count : ℕ → ℕ → List ℕ → Outcome Taken
  on_count at n rest = cond (b.right n) (read_values b (n * b.width) 0 (at + 1) rest) (refused (fault b.refusal at))

  pub part_read : (at : ℕ) (t : List ℕ)
      → read_part b at t ≡ on_value (line_value (key b.head) t) (on_count at) (λ u. refused (fault 1 at))
  unfolding read_part
  part_read at t = refl

pub text_of_lem : (t : Table)
    → text_of t ≡ part_text job_part t.jobs ++ (part_text arc_part t.arcs ++ part_text section_part t.sections)
unfolding text_of
text_of_lem t = refl

-- what comes after the jobs, the arcs and the sections
abbrev pub on_sections : Taken → Taken → Taken → Outcome Table
on_sections j a s = nothing_left s.rest s.next (record { jobs = j.values; arcs = a.values; sections = s.values })

-- what comes after the jobs and the arcs
abbrev pub on_arcs : Taken → Taken → Outcome Table
on_arcs j a = and_then (read_part section_part a.next a.rest) (on_sections j a)

-- what comes after the jobs
abbrev pub on_jobs : Taken → Outcome Table
on_jobs j = and_then (read_part arc_part j.next j.rest) (on_arcs j)

pub read_parts : (text : List ℕ) → read text ≡ and_then (read_part job_part 1 text) on_jobs
unfolding read
read_parts text = refl

-- ---- values

pub values_back : (b : Part) (vs : List ℕ) (i at : ℕ) (rest : List ℕ) → Words vs
    → read_values b (length vs) i at (value_lines b i vs ++ rest) ≡ gives (taken vs (at + length vs) rest)
values_back b [] i at rest w = let e : at + 0 ≡ at = omega arith in rw (lines_none b i, values_none, e)
values_back b (v ∷ vs) i at rest w =
    let e : at + 1 + length vs ≡ at + suc (length vs) = omega arith in
    rw (
      lines_more b i v vs,
      append_assoc,
      values_more,
      line_back (key_at b i) v (value_lines b (i + 1) vs ++ rest) (w.small 0 (omega arith)),
      values_back b vs (i + 1) (at + 1) rest (words_rest w),
      e,
    )

-- t begins with the lines of values, n of them, and what was taken says so
pub record ValuesFirst (b : Part) (n i at : ℕ) (t : List ℕ) (k : Taken) : Type 0 where
  pub text : t ≡ value_lines b i k.values ++ k.rest
  pub many : length k.values ≡ n
  pub next : k.next ≡ at + n
  pub words : Words k.values

pub values_is : (b : Part) (n i at : ℕ) (t : List ℕ) (k : Taken) → read_values b n i at t ≡ gives k → ValuesFirst b n i at t k
values_is b zero i at t k q =
    let e : taken [] at t ≡ k = cc (values_none b i at t) in
    rw (← e) (record { text = rw (lines_none b i); many = refl; next = omega arith; words = words_none })
values_is b (suc n) i at t k q =
    by (line_value (key_at b i) t) refl (sym (values_more b n i at t) ∙ q) (values_is b n (i + 1) (at + 1))
  where
    more : (v : ℕ) (rest : List ℕ) (o : Outcome Taken) → LineFirst (key_at b i) v t rest → prepend v o ≡ gives k
        → ((m : Taken) → o ≡ gives m → ValuesFirst b n (i + 1) (at + 1) rest m) → ValuesFirst b (suc n) i at t k
    more v rest (refused f) l p ih = let z : ◌≡◌ {A = ℕ} 0 1 = cc in absurd (omega arith)
    more v rest (gives m) l p ih =
        let g = ih m refl in
        let q : taken (v ∷ m.values) m.next m.rest ≡ k = cc in
        rw (← q)
        (record {
          text = rw (lines_more b i v m.values, append_assoc, ← g.text) l.text;
          many = ap suc g.many;
          next = omega (arith, g.next);
          words = words_more l.small g.words;
        })

    by : (f : Front) → line_value (key_at b i) t ≡ f → on_line b n i at f ≡ gives k
        → ((rest : List ℕ) (m : Taken) → read_values b n (i + 1) (at + 1) rest ≡ gives m → ValuesFirst b n (i + 1) (at + 1) rest m)
        → ValuesFirst b (suc n) i at t k
    by (wrong u) e p ih = let z : ◌≡◌ {A = ℕ} 0 1 = cc in absurd (omega arith)
    by (value v rest) e p ih =
        more v rest (read_values b n (i + 1) (at + 1) rest) (line-is (key_at b i) t v rest e) p (ih rest)

-- ---- a part

-- what the laws ask of a part, and each of the three has
pub record Sound (b : Part) : Type 0 where
  pub wide : 0 < b.width
  pub keys : b.head + b.width < 12
  pub one : b.right 1 ≡ true
  pub few : (n : ℕ) → b.right n ≡ true → n ≤ most_arcs

pub jobs_sound : Sound job_part
jobs_sound = record {
  wide = omega arith;
  keys = omega arith;
  one = refl;
  few = λ n e. omega (arith, leb-true n most_jobs ((and-eq-true_iff (leb 1 n) (leb n most_jobs)).0 e).1);
}

pub arcs_sound : Sound arc_part
arcs_sound = record { wide = omega arith; keys = omega arith; one = refl; few = λ n e. leb-true n most_arcs e }

pub sections_sound : Sound section_part
sections_sound = record {
  wide = omega arith;
  keys = omega arith;
  one = refl;
  few = λ n e. omega (arith, leb-true n most_sections e);
}

-- the count of rows is right, and no value is left over
pub record Counted (b : Part) (vs : List ℕ) : Type 0 where
  pub whole : length vs / b.width * b.width ≡ length vs
  pub right : b.right (length vs / b.width) ≡ true

pub part_back : (b : Part) → Sound b → (vs : List ℕ) (at : ℕ) (rest : List ℕ) → Words vs → Counted b vs
    → read_part b at (part_text b vs ++ rest) ≡ gives (taken vs (at + 1 + length vs) rest)
part_back b s vs at rest w c =
    let h : length vs / b.width ≤ most_number = omega (arith, s.few (length vs / b.width) c.right) in
    rw (part_text_lem, append_assoc, part_read, line_back (key b.head) (length vs / b.width) (value_lines b 0 vs ++ rest) h, c.right, c.whole)
    (values_back b vs 0 (at + 1) rest w)

-- t begins with a part's text, and what was taken says so
pub record PartFirst (b : Part) (at : ℕ) (t : List ℕ) (k : Taken) : Type 0 where
  pub text : t ≡ part_text b k.values ++ k.rest
  pub next : k.next ≡ at + 1 + length k.values
  pub words : Words k.values
  pub counted : Counted b k.values

pub part_is : (b : Part) → Sound b → (at : ℕ) (t : List ℕ) (k : Taken) → read_part b at t ≡ gives k → PartFirst b at t k
part_is b s at t k q = by (line_value (key b.head) t) refl (sym (part_read b at t) ∙ q)
  where
    rows : (n : ℕ) (rest : List ℕ) → LineFirst (key b.head) n t rest → b.right n ≡ true
        → ValuesFirst b (n * b.width) 0 (at + 1) rest k → PartFirst b at t k
    rows n rest l r v =
        let e : length k.values / b.width ≡ n = rw v.many (mul-div_cancel n s.wide) in
        record {
          text = rw (part_text_lem, e, append_assoc, ← v.text) l.text;
          next = omega (arith, v.next, v.many);
          words = v.words;
          counted = record { whole = rw e (sym v.many); right = rw e r };
        }

    judged : (n : ℕ) (rest : List ℕ) (r : Bool) → LineFirst (key b.head) n t rest → b.right n ≡ r
        → cond r (read_values b (n * b.width) 0 (at + 1) rest) (refused (fault b.refusal at)) ≡ gives k → PartFirst b at t k
    judged n rest false l r p = let z : ◌≡◌ {A = ℕ} 0 1 = cc in absurd (omega arith)
    judged n rest true l r p = rows n rest l r (values_is b (n * b.width) 0 (at + 1) rest k p)

    by : (f : Front) → line_value (key b.head) t ≡ f → on_value f (on_count b at) (λ u. refused (fault 1 at)) ≡ gives k
        → PartFirst b at t k
    by (wrong u) e p = let z : ◌≡◌ {A = ℕ} 0 1 = cc in absurd (omega arith)
    by (value n rest) e p = judged n rest (b.right n) (line-is (key b.head) t n rest e) refl p

-- ---- counts

-- a part's demand as `count_faults` has it
abbrev pub length_right : Part → ℕ → Bool
length_right b n = eqb (n % b.width) 0 && b.right (n / b.width)

pub counted_is : (b : Part) (vs : List ℕ) → length_right b (length vs) ≡ true → Counted b vs
counted_is b vs e =
    let g = (and-eq-true_iff (eqb (length vs % b.width) 0) (b.right (length vs / b.width))).0 e in
    record {
      whole = omega (arith, div-add-mod' (length vs) b.width, eqb-true (length vs % b.width) 0 g.0);
      right = g.1;
    }

pub counted_back : (b : Part) (vs : List ℕ) → Counted b vs → length_right b (length vs) ≡ true
counted_back b vs c =
    let z : length vs % b.width ≡ 0 = omega (arith, div-add-mod' (length vs) b.width, c.whole) in
    rw (eq-eqb (length vs % b.width) 0 z, c.right)

-- the three demands in their order
abbrev pub count_fault : Bool → Bool → Bool → Option Fault
count_fault a b c = first_of (demand a 2 ∷ demand b 3 ∷ demand c 4 ∷ [])

pub count-fault : (t : Table)
    → first_of (count_faults t)
    ≡ count_fault
    (length_right job_part (length t.jobs))
    (length_right arc_part (length t.arcs))
    (length_right section_part (length t.sections))
unfolding count_faults
count-fault t = refl

demands_met : (a b c : Bool) → count_fault a b c ≡ None → (a ≡ true) × (b ≡ true) × (c ≡ true)
demands_met true true true e = (refl, refl, refl)
demands_met false b c e = let z : ◌≡◌ {A = ℕ} 0 1 = cc in absurd (omega arith)
demands_met true false c e = let z : ◌≡◌ {A = ℕ} 0 1 = cc in absurd (omega arith)
demands_met true true false e = let z : ◌≡◌ {A = ℕ} 0 1 = cc in absurd (omega arith)

-- the lengths of the three lists are right
pub record AllCounted (t : Table) : Type 0 where
  pub jobs : Counted job_part t.jobs
  pub arcs : Counted arc_part t.arcs
  pub sections : Counted section_part t.sections

pub counts-is : (t : Table) → first_of (count_faults t) ≡ None → AllCounted t
counts-is t e =
    let d = demands_met
    (length_right job_part (length t.jobs))
    (length_right arc_part (length t.arcs))
    (length_right section_part (length t.sections))
    (sym (count-fault t) ∙ e) in
    record {
      jobs = counted_is job_part t.jobs d.0;
      arcs = counted_is arc_part t.arcs d.1;
      sections = counted_is section_part t.sections d.2;
    }

pub counts_back : (t : Table) → AllCounted t → first_of (count_faults t) ≡ None
counts_back t c =
    rw (
      count-fault t,
      counted_back job_part t.jobs c.jobs,
      counted_back arc_part t.arcs c.arcs,
      counted_back section_part t.sections c.sections,
    )

-- ---- a table

-- a table that a text can stand for: right counts, and 32-bit numbers
pub record Right (t : Table) : Type 0 where
  pub counts : first_of (count_faults t) ≡ None
  pub jobs : Words t.jobs
  pub arcs : Words t.arcs
  pub sections : Words t.sections

pub read_back : (t : Table) → Right t → read (text_of t) ≡ gives t
read_back t r =
    let c = counts-is t r.counts in
    let s : List ℕ = part_text section_part t.sections in
    let a : List ℕ = part_text arc_part t.arcs ++ s in
    rw (
      read_parts,
      text_of_lem t,
      part_back job_part jobs_sound t.jobs 1 a r.jobs c.jobs,
      part_back arc_part arcs_sound t.arcs (1 + 1 + length t.jobs) s r.arcs c.arcs,
      ← append-nil s,
      part_back section_part sections_sound t.sections (1 + 1 + length t.jobs + 1 + length t.arcs) [] r.sections c.sections,
    )

-- the ways in which a text is read: refused in one of the parts, or for what comes after them, or given
pub data Way (text : List ℕ) : Outcome Table → Type 0 where
  in_jobs : {f : Fault} → read_part job_part 1 text ≡ refused f → Way text (refused f)
  in_arcs : {f : Fault} {j : Taken} → PartFirst job_part 1 text j → read_part arc_part j.next j.rest ≡ refused f
      → Way text (refused f)
  in_sections : {f : Fault} {j a : Taken} → PartFirst job_part 1 text j → PartFirst arc_part j.next j.rest a
      → read_part section_part a.next a.rest ≡ refused f → Way text (refused f)
  left_over : {j a s : Taken} {x : ℕ} {xs : List ℕ} → PartFirst job_part 1 text j → PartFirst arc_part j.next j.rest a
      → PartFirst section_part a.next a.rest s → s.rest ≡ x ∷ xs → Way text (refused (fault 1 s.next))
  whole : {j a s : Taken} → PartFirst job_part 1 text j → PartFirst arc_part j.next j.rest a
      → PartFirst section_part a.next a.rest s → s.rest ≡ []
      → Way text (gives record { jobs = j.values; arcs = a.values; sections = s.values })

pub way : (text : List ℕ) → Way text (read text)
way text = rw (read_parts text) (jobs (read_part job_part 1 text) refl)
  where
    end : (j a s : Taken) (rest : List ℕ) → s.rest ≡ rest → PartFirst job_part 1 text j
        → PartFirst arc_part j.next j.rest a → PartFirst section_part a.next a.rest s → Way text (on_sections j a s)
    end j a s [] e p q r = rw e (whole p q r e)
    end j a s (x ∷ xs) e p q r = rw e (left_over p q r e)

    sections : (j a : Taken) (o : Outcome Taken) → read_part section_part a.next a.rest ≡ o → PartFirst job_part 1 text j
        → PartFirst arc_part j.next j.rest a → Way text (and_then o (on_sections j a))
    sections j a (refused f) e p q = in_sections p q e
    sections j a (gives s) e p q =
        end j a s s.rest refl p q (part_is section_part sections_sound a.next a.rest s e)

    arcs : (j : Taken) (o : Outcome Taken) → read_part arc_part j.next j.rest ≡ o → PartFirst job_part 1 text j
        → Way text (and_then o (on_arcs j))
    arcs j (refused f) e p = in_arcs p e
    arcs j (gives a) e p =
        sections j a (read_part section_part a.next a.rest) refl p (part_is arc_part arcs_sound j.next j.rest a e)

    jobs : (o : Outcome Taken) → read_part job_part 1 text ≡ o → Way text (and_then o on_jobs)
    jobs (refused f) e = in_jobs e
    jobs (gives j) e = arcs j (read_part arc_part j.next j.rest) refl (part_is job_part jobs_sound 1 text j e)

-- a text that is read as a table is that table's text
pub record TextOf (text : List ℕ) (t : Table) : Type 0 where
  pub same : text ≡ text_of t
  pub right : Right t

pub read_is : (text : List ℕ) (t : Table) → read text ≡ gives t → TextOf text t
read_is text t q = by (way text) q
  where
    by : {o : Outcome Table} → Way text o → o ≡ gives t → TextOf text t
    by (in_jobs e) q = not_both q refl
    by (in_arcs p e) q = not_both q refl
    by (in_sections p r e) q = not_both q refl
    by (left_over p r s e) q = not_both q refl
    by (whole {j} {a} {s} J A S e) q =
        let u : Table = record { jobs = j.values; arcs = a.values; sections = s.values } in
        let w : u ≡ t = cc in
        rw (← w)
        (record {
          same = rw text_of_lem (J.text ∙ rw (A.text, S.text, e, append-nil));
          right = record {
            counts = counts_back u (record { jobs = J.counted; arcs = A.counted; sections = S.counted });
            jobs = J.words;
            arcs = A.words;
            sections = S.words;
          };
        })
