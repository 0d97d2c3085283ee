-- The answers of `read` and `write`, one for each way out of the code.
use mathlib.Core.Path.{◌≡◌, refl, sym, ◌∙◌, ap}
use mathlib.Core.Bool.{Bool, true, false, ◌&&◌, and-eq-true_iff}
use mathlib.Core.List.{List, [], ◌∷◌, ◌++◌}
use Prim.Native.Nat.{ℕ, ◌*◌, ◌/◌, ◌≤◌, ◌<◌}
use native.Mathlib.Omega.{arith}
use borrow.Author.Tests.{le-leb, lt-leb}
use lib.Dec.{leb}
use lib.ListN.{length, take, drop}
use lib.Seq.{length-take-le}
use Rattle.rules.specs.Table.{Table}
use Rattle.rules.specs.Refusals.{fault_of, refused, gives, and_then, first_of, demand, unless, room}
use Rattle.rules.specs.Text.{job_part, arc_part, section_part, text_of, read}
use Rattle.rules.specs.declared.Refusal.{Refusal}
use Rattle.rules.specs.declared.Refusal.TheVariants.{Room}
use Rattle.laws.specs.Text.{length_right, count_fault, count-fault, AllCounted, counted_back}
use Rattle.lines.specs.Put.{Over}
use Rattle.text.specs.Passes.{fronts, Fronts, roomy, Judged}
use Rattle.text.specs.declared.Counts.{Counts}
use Rattle.std.specs.Prelude.{Ok, Err}
use Rattle.text.specs.Promises.{read_into, counts_of, Reads, write_into, Writes}
use Rattle.lines.specs.Pieces.{put_front}

-- ---- write

module _ (t : Table) (out : List ℕ) where
  -- by the three tests of lengths
  write_into_lem : (a b c : Bool) → length_right job_part (length t.jobs) ≡ a → length_right arc_part (length t.arcs) ≡ b
      → length_right section_part (length t.sections) ≡ c
      → write_into t out
      ≡ and_then (unless (count_fault a b c) (text_of t)) (λ text. unless (room (length text) (length out)) text)
  unfolding write_into
  write_into_lem a b c p q r = rw (count-fault t, p, q, r)

  refuses : (r : Refusal) → write_into t out ≡ refused (fault_of r) → Writes t out out (Err r)
  refuses r e = record { answer = rw e; out_left = rw e }

  module _ {r : Refusal} where
    pub no_jobs : Judged job_part (length t.jobs) (Err r) → Writes t out out (Err r)
    no_jobs p = refuses r (write_into_lem false _ _ p.0 refl refl ∙ ap refused (sym p.1))

    pub no_arcs : length_right job_part (length t.jobs) ≡ true → Judged arc_part (length t.arcs) (Err r) → Writes t out out (Err r)
    no_arcs p q = refuses r (write_into_lem true false _ p q.0 refl ∙ ap refused (sym q.1))

    pub no_sections : length_right job_part (length t.jobs) ≡ true → length_right arc_part (length t.arcs) ≡ true
        → Judged section_part (length t.sections) (Err r) → Writes t out out (Err r)
    no_sections p q o = refuses r (write_into_lem true true false p q o.0 ∙ ap refused (sym o.1))

  module _ (c : AllCounted t) where
    written : write_into t out ≡ unless (room (length (text_of t)) (length out)) (text_of t)
    written =
        write_into_lem true true true
        (counted_back job_part t.jobs c.jobs)
        (counted_back arc_part t.arcs c.arcs)
        (counted_back section_part t.sections c.sections)

    pub no_room : {n : ℕ} → n ≡ length (text_of t) → length out < n → Writes t out out (Err Room)
    no_room e h = refuses Room (written ∙ rw (lt-leb (length (text_of t)) (length out) (rw e at h)))

    pub writes : {n m : ℕ} {out' : List ℕ} → n ≡ length (text_of t) → n ≤ length out → Over out 0 (text_of t) out' m
        → Writes t out out' (Ok m)
    writes {m = m} e h o =
        let w : write_into t out ≡ gives (text_of t) = written ∙ rw (le-leb (length (text_of t)) (length out) (rw e at h)) in
        let k : m ≡ length (text_of t) = omega (arith, o.end) in
        record { answer = rw (w, k); out_left = rw w (o.list ∙ put_front out (text_of t)) }

-- ---- read

module _ (text jobs arcs sections : List ℕ) where
  refuses_text : (r : Refusal) → read_into text jobs arcs sections ≡ refused (fault_of r)
      → Reads text jobs arcs sections jobs arcs sections (Err r)
  refuses_text r e = record { answer = rw e; jobs_left = rw e; arcs_left = rw e; sections_left = rw e }

  -- what is refused before room is asked for
  pub text_refused : (r : Refusal) → read text ≡ refused (fault_of r) → Reads text jobs arcs sections jobs arcs sections (Err r)
  unfolding read_into
  text_refused r e = refuses_text r (rw e)

  module _ {own-jobs own-arcs own-sections : List ℕ} {c : Counts} (f : Fronts text own-jobs own-arcs own-sections c) where
    many_jobs : length (take (c.jobs * 3) own-jobs) ≡ c.jobs * 3
    many_jobs = length-take-le (c.jobs * 3) own-jobs f.jobs_room

    many_arcs : length (take (c.arcs * 2) own-arcs) ≡ c.arcs * 2
    many_arcs = length-take-le (c.arcs * 2) own-arcs f.arcs_room

    many_sections : length (take (c.sections * 4) own-sections) ≡ c.sections * 4
    many_sections = length-take-le (c.sections * 4) own-sections f.sections_room

    -- by the three tests of room
    read_into_lem : (x y z : Bool) → leb (c.jobs * 3) (length jobs) ≡ x → leb (c.arcs * 2) (length arcs) ≡ y
        → leb (c.sections * 4) (length sections) ≡ z
        → read_into text jobs arcs sections
        ≡ unless (first_of (demand x 11 ∷ demand y 11 ∷ demand z 11 ∷ [])) (fronts own-jobs own-arcs own-sections c)
    unfolding read_into
    read_into_lem x y z p q r = rw (f.given, many_jobs, many_arcs, many_sections, p, q, r)

    pub lacks : roomy c (length jobs) (length arcs) (length sections) ≡ false → Reads text jobs arcs sections jobs arcs sections (Err Room)
    lacks h = refuses_text Room (by _ _ _ refl refl refl h)
      where
        by : (x y z : Bool) → leb (c.jobs * 3) (length jobs) ≡ x → leb (c.arcs * 2) (length arcs) ≡ y → leb (c.sections * 4) (length sections) ≡ z
            → (leb (c.jobs * 3) (length jobs) && (leb (c.arcs * 2) (length arcs) && leb (c.sections * 4) (length sections))) ≡ false
            → read_into text jobs arcs sections ≡ refused (fault_of Room)
        by false y z p q r e = read_into_lem false y z p q r
        by true false z p q r e = read_into_lem true false z p q r
        by true true false p q r e = read_into_lem true true false p q r
        by true true true p q r e = let f : true ≡ false = rw (p, q, r) at e in cc

    -- the fronts, copied
    pub reads : {jobs' arcs' sections' : List ℕ} → roomy c (length jobs) (length arcs) (length sections) ≡ true
        → jobs' ≡ take (c.jobs * 3) own-jobs ++ drop (c.jobs * 3) jobs
        → arcs' ≡ take (c.arcs * 2) own-arcs ++ drop (c.arcs * 2) arcs
        → sections' ≡ take (c.sections * 4) own-sections ++ drop (c.sections * 4) sections
        → Reads text jobs arcs sections jobs' arcs' sections' (Ok c)
    reads h x y z =
        let a = (and-eq-true_iff (leb (c.jobs * 3) (length jobs)) (leb (c.arcs * 2) (length arcs) && leb (c.sections * 4) (length sections))).0 h in
        let b = (and-eq-true_iff (leb (c.arcs * 2) (length arcs)) (leb (c.sections * 4) (length sections))).0 a.1 in
        let w = read_into_lem true true true a.0 b.0 b.1 in
        let k : c ≡ counts_of (fronts own-jobs own-arcs own-sections c) =
        let u : c.jobs ≡ length (take (c.jobs * 3) own-jobs) / 3 = omega (arith, many_jobs) in
        let v : c.arcs ≡ length (take (c.arcs * 2) own-arcs) / 2 = omega (arith, many_arcs) in
        let t : c.sections ≡ length (take (c.sections * 4) own-sections) / 4 = omega (arith, many_sections) in
        rw (← u, ← v, ← t) refl in
        record {
          answer = rw w (ap gives k);
          jobs_left = rw (w, many_jobs) x;
          arcs_left = rw (w, many_arcs) y;
          sections_left = rw (w, many_sections) z;
        }
