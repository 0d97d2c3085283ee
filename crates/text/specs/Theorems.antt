-- What follows from the promises of `read` and `write`: they leave nothing open, undo one another, and a refusal of a text
-- is at its first wrong line.
use Rattle.std.specs.Prelude.{◌≡◌, refl, List, [], ◌∷◌, ◌++◌, Bool, true, false, ℕ, ◌*◌, ◌≤◌, leb, length, take, drop, Option, None, Some, Result, Ok, Err}
use Rattle.std.proofs.Common.{sym, ◌∙◌, ap, arith, le-leb, take_at}
use Rattle.std.proofs.Math.Seq.{take-append_seam}
use Rattle.rules.specs.Table.{Table}
use Rattle.rules.specs.Refusals.{
  Fault,
  fault_of,
  number_of,
  place_of,
  Outcome,
  refused,
  gives,
  and_then,
  unless,
  demand,
  fault,
  first_of,
  count_faults,
}
use Rattle.rules.specs.Lists.{table}
use Rattle.rules.specs.Text.{text_of}
use Rattle.rules.specs.Text as rules
use Rattle.rules.specs.declared.Refusal.{Refusal}
use Rattle.rules.specs.declared.Refusal.TheVariants.{Room}
use Rattle.laws.specs.Answers.{not_both, said_settles}
use Rattle.laws.specs.Text.{Right, counts-is, TextOf, read_back, read_is}
use Rattle.laws.specs.Lines.{RightText, FirstWrong, refused-at, right_none, from_one, one-first}
use Rattle.text.specs.declared.Counts.{Counts}
use Rattle.text.specs.Promises.{room_fault, read_into, counts_of, counted, Reads, write_into, Writes}

-- ---- nothing is left open

-- Any two results of `read` that its promise allows are equal: the answer and all of the three lists.
pub read_settled : {text jobs arcs sections jobs₁ arcs₁ sections₁ jobs₂ arcs₂ sections₂ : List ℕ} {r₁ r₂ : Result Counts Refusal}
    → Reads text jobs arcs sections jobs₁ arcs₁ sections₁ r₁ → Reads text jobs arcs sections jobs₂ arcs₂ sections₂ r₂
    → (r₁ ≡ r₂) × (jobs₁ ≡ jobs₂) × (arcs₁ ≡ arcs₂) × (sections₁ ≡ sections₂)
read_settled {r₁ = r₁} {r₂ = r₂} u v = (
  said_settles r₁ r₂ (u.answer ∙ sym v.answer),
  u.jobs_left ∙ sym v.jobs_left,
  u.arcs_left ∙ sym v.arcs_left,
  u.sections_left ∙ sym v.sections_left,
)

-- And so for `write`: the answer and all of the bytes.
pub write_settled : {t : Table} {out out₁ out₂ : List ℕ} {r₁ r₂ : Result ℕ Refusal}
    → Writes t out out₁ r₁ → Writes t out out₂ r₂ → (r₁ ≡ r₂) × (out₁ ≡ out₂)
write_settled {r₁ = r₁} {r₂ = r₂} u v =
    (said_settles r₁ r₂ (u.answer ∙ sym v.answer), u.out_left ∙ sym v.out_left)

-- ---- they undo one another

-- where counts are right and there is room, the text is written
write_gives : (t : Table) (out : List ℕ) → first_of (count_faults t) ≡ None → length (text_of t) ≤ length out → write_into t out ≡ gives (text_of t)
unfolding write_into
write_gives t out c h = rw (c, le-leb (length (text_of t)) (length out) h)

-- and what is so promised of the answer and of the bytes
written : (t : Table) {out out' : List ℕ} {w : Result ℕ Refusal} → first_of (count_faults t) ≡ None → length (text_of t) ≤ length out
    → Writes t out out' w
    → (w ≡ Ok (length (text_of t))) × (out' ≡ text_of t ++ drop (length (text_of t)) out)
written t {out} {out'} {w} c h p =
    let e = write_gives t out c h in
    (said_settles w (Ok (length (text_of t))) (p.answer ∙ rw e), p.out_left ∙ rw e)

-- where a text is read and there is room, its table is given
read-gives : (text : List ℕ) {t : Table} (jobs arcs sections : List ℕ) → rules.read text ≡ gives t → length t.jobs ≤ length jobs
    → length t.arcs ≤ length arcs → length t.sections ≤ length sections → read_into text jobs arcs sections ≡ gives t
unfolding read_into
read-gives text {t} jobs arcs sections e p q r =
    rw (
      e,
      le-leb (length t.jobs) (length jobs) p,
      le-leb (length t.arcs) (length arcs) q,
      le-leb (length t.sections) (length sections) r,
    )

-- Any lists with right counts, given room: written, and read back from the bytes that were written, they are the same lists.
pub written_then_read : (t : Table) → Right t → {out out' jobs arcs sections jobs' arcs' sections' : List ℕ} {w : Result ℕ Refusal} {r : Result Counts Refusal}
    → length (text_of t) ≤ length out → length t.jobs ≤ length jobs → length t.arcs ≤ length arcs
    → length t.sections ≤ length sections → Writes t out out' w
    → Reads (take (length (text_of t)) out') jobs arcs sections jobs' arcs' sections' r
    → (w ≡ Ok (length (text_of t)))
    × (r ≡ Ok (counts_of t))
    × (jobs' ≡ t.jobs ++ drop (length t.jobs) jobs)
    × (arcs' ≡ t.arcs ++ drop (length t.arcs) arcs)
    × (sections' ≡ t.sections ++ drop (length t.sections) sections)
written_then_read t c {out} {out'} {jobs} {arcs} {sections} {r = r} h x y z p q =
    let v = written t c.counts h p in
    let b : take (length (text_of t)) out' ≡ text_of t =
    ap (take (length (text_of t))) v.1 ∙ take-append_seam (text_of t) (drop (length (text_of t)) out) in
    let e = read-gives (take (length (text_of t)) out') jobs arcs sections (ap rules.read b ∙ read_back t c) x y z in (
      v.0,
      said_settles r (Ok (counts_of t)) (q.answer ∙ rw e),
      q.jobs_left ∙ rw e,
      q.arcs_left ∙ rw e,
      q.sections_left ∙ rw e,
    )

-- what a promise of counts comes from
counted-gives : (o : Outcome Table) (c : Counts) → gives c ≡ counted o → (t : Table) × (o ≡ gives t) × (c ≡ counts_of t)
counted-gives (refused f) c e = not_both refl e
counted-gives (gives t) c e = (t, refl, cc)

into_gives : (text jobs arcs sections : List ℕ) (t : Table) → read_into text jobs arcs sections ≡ gives t → rules.read text ≡ gives t
unfolding read_into
into_gives text jobs arcs sections t e = by (rules.read text) e
  where
    roomy : (u : Table) (f : Option Fault) → unless f u ≡ gives t → gives u ≡ gives t
    roomy u None q = q
    roomy u (Some f) q = not_both q refl

    by : (o : Outcome Table) → and_then o (λ u. unless (room_fault u jobs arcs sections) u) ≡ gives t → o ≡ gives t
    by (refused f) q = not_both q refl
    by (gives u) q = roomy u (room_fault u jobs arcs sections) q

-- the front that a list is left with
front_left : (vs old left : List ℕ) (n : ℕ) → length vs ≡ n → left ≡ vs ++ drop (length vs) old → take n left ≡ vs
front_left vs old left n e q = ap (take n) q ∙ take_at vs (drop (length vs) old) n e

-- the table that was read, and that the lists are left with it
record Left (text jobs' arcs' sections' : List ℕ) (c : Counts) (t : Table) : Type 0 where
  pub is_text : TextOf text t
  pub jobs : take (3 * c.jobs) jobs' ≡ t.jobs
  pub arcs : take (2 * c.arcs) arcs' ≡ t.arcs
  pub sections : take (4 * c.sections) sections' ≡ t.sections

left_with : {text jobs arcs sections jobs' arcs' sections' : List ℕ} {c : Counts} (t : Table)
    → Reads text jobs arcs sections jobs' arcs' sections' (Ok c) → read_into text jobs arcs sections ≡ gives t → c ≡ counts_of t
    → Left text jobs' arcs' sections' c t
left_with {text} {jobs} {arcs} {sections} {jobs'} {arcs'} {sections'} {c} t p g r =
    let f = read_is text t (into_gives text jobs arcs sections t g) in
    let n = counts-is t f.right.counts in
    record {
      is_text = f;
      jobs = front_left t.jobs jobs jobs' (3 * c.jobs)
          (omega (arith, n.jobs.whole, ap (λ (x : Counts). x.jobs) r)) (p.jobs_left ∙ rw g);
      arcs = front_left t.arcs arcs arcs' (2 * c.arcs)
          (omega (arith, n.arcs.whole, ap (λ (x : Counts). x.arcs) r)) (p.arcs_left ∙ rw g);
      sections = front_left t.sections sections sections' (4 * c.sections)
          (omega (arith, n.sections.whole, ap (λ (x : Counts). x.sections) r)) (p.sections_left ∙ rw g);
    }

-- Any text that is read, given room: the lists that were read, written, are the same bytes.
pub read_then_written : {text jobs arcs sections jobs' arcs' sections' : List ℕ} {c : Counts} {out out' : List ℕ} {w : Result ℕ Refusal}
    → Reads text jobs arcs sections jobs' arcs' sections' (Ok c) → length text ≤ length out
    → Writes (table (take (3 * c.jobs) jobs') (take (2 * c.arcs) arcs') (take (4 * c.sections) sections')) out out' w
    → (w ≡ Ok (length text)) × (out' ≡ text ++ drop (length text) out)
read_then_written {text} {jobs} {arcs} {sections} {jobs'} {arcs'} {sections'} {c} {out} {out'} {w} p h q =
    let g = counted-gives (read_into text jobs arcs sections) c p.answer in
    again g.0 (left_with g.0 p g.1 g.2)
  where
    again : (t : Table) → Left text jobs' arcs' sections' c t → (w ≡ Ok (length text)) × (out' ≡ text ++ drop (length text) out)
    again t l =
        rw l.is_text.same
        (written t l.is_text.right.counts (rw l.is_text.same at h) (rw (l.jobs, l.arcs, l.sections) at q))

-- ---- the first wrong line

-- a refusal that is none of room is the text's
into_refused : (text jobs arcs sections : List ℕ) (f : Fault) → read_into text jobs arcs sections ≡ refused f → (f.number ≡ 11 → ⊥)
    → rules.read text ≡ refused f
unfolding read_into
into_refused text jobs arcs sections f e n = by (rules.read text) e
  where
    full : (x y z : Bool) (t : Table) → unless (first_of (demand x 11 ∷ demand y 11 ∷ demand z 11 ∷ [])) t ≡ refused f → f ≡ fault 11 0
    full false y z t q = cc
    full true false z t q = cc
    full true true false t q = cc
    full true true true t q = not_both refl q

    by : (o : Outcome Table) → and_then o (λ t. unless (room_fault t jobs arcs sections) t) ≡ refused f → o ≡ refused f
    by (refused g) q = q
    by (gives t) q = absurd (n (ap (λ (g : Fault). g.number) (full
        (leb (length t.jobs) (length jobs))
        (leb (length t.arcs) (length arcs))
        (leb (length t.sections) (length sections))
        t q)))

counted-refused : (o : Outcome Table) (f : Fault) → refused f ≡ counted o → o ≡ refused f
counted-refused (refused g) f e = cc
counted-refused (gives t) f e = not_both e refl

-- A text that is refused, and not for room, is refused at its first wrong line.
pub refused-at-first-wrong : {text jobs arcs sections jobs' arcs' sections' : List ℕ} {r : Refusal}
    → Reads text jobs arcs sections jobs' arcs' sections' (Err r) → (number_of r ≡ 11 → ⊥) → FirstWrong text (place_of r)
refused-at-first-wrong {text} {jobs} {arcs} {sections} {r = r} p n =
    let e = counted-refused (read_into text jobs arcs sections) (fault_of r) p.answer in
    refused-at text (fault_of r) (into_refused text jobs arcs sections (fault_of r) e n)

-- A text that is read has no wrong line.
pub read-has-none : {text jobs arcs sections jobs' arcs' sections' : List ℕ} {c : Counts}
    → Reads text jobs arcs sections jobs' arcs' sections' (Ok c) → (n : ℕ) → FirstWrong text n → ⊥
read-has-none {text} {jobs} {arcs} {sections} {c = c} p n w =
    let g = counted-gives (read_into text jobs arcs sections) c p.answer in
    right_none text n (g.0, read_is text g.0 (into_gives text jobs arcs sections g.0 g.1)) w

text_refused : (text jobs arcs sections : List ℕ) (f : Fault) → rules.read text ≡ refused f → read_into text jobs arcs sections ≡ refused f
unfolding read_into
text_refused text jobs arcs sections f e = rw e

-- And neither has one for which only room is wanting: "11 comes last".
pub room_comes_last : {text jobs arcs sections jobs' arcs' sections' : List ℕ}
    → Reads text jobs arcs sections jobs' arcs' sections' (Err Room) → RightText text
room_comes_last {text} {jobs} {arcs} {sections} p =
    by (rules.read text) refl (counted-refused (read_into text jobs arcs sections) (fault 11 0) p.answer)
  where
    by : (o : Outcome Table) → rules.read text ≡ o → read_into text jobs arcs sections ≡ refused (fault 11 0) → RightText text
    by (gives t) e q = (t, read_is text t e)
    by (refused f) e q =
        let g : f ≡ fault 11 0 = cc (text_refused text jobs arcs sections f e) in
        absurd (from_one (refused-at text (fault 11 0) (e ∙ ap refused g)))

-- Where a line is the first wrong one, the text is refused there: not for room, whose place is 0.
pub wrong-is-refused : {text jobs arcs sections jobs' arcs' sections' : List ℕ} {n : ℕ} (r : Result Counts Refusal)
    → Reads text jobs arcs sections jobs' arcs' sections' r → FirstWrong text n → (f : Refusal) × (r ≡ Err f) × (place_of f ≡ n)
wrong-is-refused {n = n} (Ok c) p w = absurd (read-has-none p n w)
wrong-is-refused {text} {jobs} {arcs} {sections} {n = n} (Err f) p w = (f, refl, by (rules.read text) refl)
  where
    by : (o : Outcome Table) → rules.read text ≡ o → place_of f ≡ n
    by (gives t) e = absurd (right_none text n (t, read_is text t e) w)
    by (refused g) e =
        let q : g ≡ fault_of f =
        cc (text_refused text jobs arcs sections g e, counted-refused (read_into text jobs arcs sections) (fault_of f) p.answer) in
        one-first (rw q at (refused-at text g e)) w
