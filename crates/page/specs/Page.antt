-- Words on a page, and what each line of an answer is.
use Rattle.std.specs.Prelude.{◌≡◌, length, take}
use Rattle.std.proofs.Math.Path.{refl}
use Rattle.std.proofs.Common.{sym, ◌∙◌, ap, add-one, append-nil, append_assoc, arith, take_at, length-append, length-take-le, le-ltb, lt-ltb, eq-eqb, ne_eqb}
use mathlib.Core.List.{List, [], ◌++◌}
use Prim.Native.Nat.{ℕ, zero, suc, ◌+◌, ◌*◌, ◌/◌, ◌-◌, ◌<◌, ◌≤◌}
use Rattle.std.proofs.Math.IntN.{sub_ℕ}
use Rattle.rules.specs.Table.{Plan, State, job_count}
use Rattle.rules.specs.Text.{bytes_of, digits}
use Rattle.rules.specs.Run.{lateness}
use Rattle.rules.specs.Output.{signed, mark_word, job_lines, jobs_lines, report}
use Rattle.rules.specs.Lists.{plan, timed, state}
use Rattle.lines.specs.Put.{put, Over}

-- ---- what is written

-- the page had `old` on it, and has xs behind it now
pub record Adds (old xs new : List ℕ) : Type 0 where
  pub list : new ≡ old ++ xs
  pub long : length new ≡ length old + length xs

adds : (old xs new : List ℕ) → new ≡ old ++ xs → Adds old xs new
adds old xs new e = record { list = e; long = rw e (length-append old xs) }

pub nothing : (old : List ℕ) → Adds old [] old
nothing old = adds old [] old (sym (append-nil old))

-- one after the other
pub next : {a xs b ys d : List ℕ} → Adds a xs b → Adds b ys d → Adds a (xs ++ ys) d
next {a} {xs} {b} {ys} {d} p q = adds a (xs ++ ys) d (q.list ∙ ap (λ (l : List ℕ). l ++ ys) p.list ∙ append_assoc a xs ys)

-- what stands in the front of some bytes
module _ (bytes : List ℕ) {now : List ℕ} {len : ℕ} (h : len ≤ length bytes) (e : take len bytes ≡ now) where
  pub filled : length now ≡ len
  filled = rw (← e) (length-take-le len bytes h)

  -- what goes over the bytes behind it is added to it
  pub longer : {vs bytes' : List ℕ} {r : ℕ} → Over bytes len vs bytes' r → Adds now vs (take r bytes')
  unfolding put
  longer {vs} {bytes'} {r} o =
      adds now vs (take r bytes')
      (rw (o.list, ← append_assoc, e) (take_at (now ++ vs) _ r (rw length-append (omega (arith, o.end, filled)))))

-- ---- lateness and marks in words

pub early : (f d : ℕ) → f < d → signed (sub_ℕ f d) ≡ bytes_of "-" ++ digits (d - f)
early f d h =
    let e : d - suc f + 1 ≡ d - f = omega arith in
    rw (lt-ltb f d h, ← e) refl

pub not-early : (f d : ℕ) → d ≤ f → signed (sub_ℕ f d) ≡ digits (f - d)
not-early f d h = rw (le-ltb f d h) refl

pub stale_word : (m : ℕ) → m ≡ 2 → mark_word m ≡ bytes_of "stale"
unfolding mark_word
stale_word m e = rw (eq-eqb m 2 e) refl

pub fresh_word : (m : ℕ) → (m ≡ 2 → ⊥) → mark_word m ≡ bytes_of "fresh"
unfolding mark_word
fresh_word m n = rw (ne_eqb m 2 n) refl

-- ---- the lines of the jobs

-- a plan and a state have what a report tells of each job, and there are no more than 64
pub record Reported (p : Plan) (st : State) : Type 0 where
  pub few : job_count p.table ≤ 64
  pub times : 2 * job_count p.table ≤ length p.times
  pub marks : job_count p.table ≤ length st.marks
  pub finish : job_count p.table ≤ length st.finish

module _ (p : Plan) (st : State) where
  pub jobs_none : jobs_lines p st 0 ≡ []
  unfolding jobs_lines
  jobs_none = refl

  pub jobs_more : (n : ℕ) → jobs_lines p st (n + 1) ≡ jobs_lines p st n ++ job_lines p st n
  unfolding jobs_lines
  jobs_more n = rw (add-one n) refl

-- ---- a report needs neither arcs nor sections nor the executed ticks

module _ (jobs arcs sections times : List ℕ) (tick : ℕ) (executed marks finish : List ℕ) where
  pub jobs_same : (n : ℕ)
      → jobs_lines (timed jobs times) (state 0 [] marks finish) n
      ≡ jobs_lines (plan jobs arcs sections times) (state tick executed marks finish) n
  unfolding jobs_lines job_lines lateness
  jobs_same zero = refl
  jobs_same (suc n) = ap (λ l. l ++ job_lines (timed jobs times) (state 0 [] marks finish) n) (jobs_same n)

pub report_same : (jobs arcs sections times : List ℕ) (tick : ℕ) (executed marks finish : List ℕ)
    → report (timed jobs times) (state tick [] marks finish) ≡ report (plan jobs arcs sections times) (state tick executed marks finish)
unfolding report
report_same jobs arcs sections times tick executed marks finish =
    rw (
      ← jobs_same jobs [] [] times tick [] marks finish (length jobs / 3),
      ← jobs_same jobs arcs sections times tick executed marks finish (length jobs / 3),
    )
    refl
