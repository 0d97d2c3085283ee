-- What the stages of an answer hand on: the lists have room for every table, so reading, planning and running come to what
-- the rules give.
use Rattle.std.proofs.Math.Path.{◌≡◌, refl}
use Rattle.std.proofs.Common.{sym, ◌∙◌, ap, arith, take_at, length-append}
use Rattle.std.specs.Prelude.{true, List, ℕ, zero, suc, ◌*◌, ◌≤◌, take, drop, Option, None, Some, Ok, Err}
use Rattle.std.proofs.Math.ListN.{length}
use Rattle.std.proofs.lemmas.List.{get_or-take}
use borrow.Author.Tests.{le-leb}
use Rattle.rules.specs.Table.{Table, Plan, State, job_count, arc_count, section_count}
use Rattle.rules.specs.Refusals.{Fault, fault_of, Outcome, refused, gives, and_then, unless, check_fault, plan_of, check, plan_in_bounds}
use Rattle.rules.specs.Text as rules
use Rattle.rules.specs.Times.{times_to}
use Rattle.rules.specs.Run.{end_state, lateness}
use Rattle.rules.specs.Output.{job_lines, jobs_lines, report, refusal_lines, printed, answer}
use Rattle.rules.specs.declared.Refusal.{Refusal}
use Rattle.laws.specs.Tests.{le_says, says_and, yes_says}
use Rattle.laws.specs.Text.{counts-is, read_is}
use Rattle.laws.specs.Times.{times_length}
use Rattle.laws.specs.Refusals.{accepted_facts}
use Rattle.laws.specs.Accepted.{plan_in_bounds_lem}
use Rattle.text.specs.Promises.{read_into, counts_of, counted, afterwards, Reads}
use Rattle.text.specs.declared.Counts.{Counts}
use Rattle.plan.specs.Promise.{planned, Plans}
use Rattle.plan.specs.Promise as planning
use Rattle.dispatch.specs.Theorems.{end_good}
use Rattle.dispatch.specs.Promise.{Lists, Reach, fault_for, Runs, start_ready, refused-kept, holding}
use Rattle.rules.specs.Lists.{state}

-- ---- reading

-- how long the lists of a table that was read are
pub record Long (t : Table) : Type 0 where
  pub jobs : length t.jobs ≡ 3 * job_count t
  pub few_jobs : job_count t ≤ 64
  pub arcs : length t.arcs ≡ 2 * arc_count t
  pub few_arcs : arc_count t ≤ 256
  pub sections : length t.sections ≡ 4 * section_count t
  pub few_sections : section_count t ≤ 128

read_long : (text : List ℕ) (t : Table) → rules.read text ≡ gives t → Long t
read_long text t e =
    let c = counts-is t (read_is text t e).right.counts in
    record {
      jobs = omega (arith, c.jobs.whole);
      few_jobs = (yes_says (says_and (le_says 1 (job_count t)) (le_says (job_count t) 64)) c.jobs.right).1;
      arcs = omega (arith, c.arcs.whole);
      few_arcs = yes_says (le_says (arc_count t) 256) c.arcs.right;
      sections = omega (arith, c.sections.whole);
      few_sections = yes_says (le_says (section_count t) 128) c.sections.right;
    }

-- the table that was read stands in the fronts of the lists
pub record Fronts (text jobs arcs sections : List ℕ) (c : Counts) : Type 0 where
  pub table : Table
  pub read : rules.read text ≡ gives table
  pub counts : (c.jobs ≤ 64) × (c.arcs ≤ 256) × (c.sections ≤ 128)
  pub jobs_front : take (c.jobs * 3) jobs ≡ table.jobs
  pub arcs_front : take (c.arcs * 2) arcs ≡ table.arcs
  pub sections_front : take (c.sections * 4) sections ≡ table.sections

module _ (text jobs arcs sections : List ℕ) (j : length jobs ≡ 192) (a : length arcs ≡ 512) (s : length sections ≡ 512) where
  -- there is room for every table
  roomy : read_into text jobs arcs sections ≡ rules.read text
  unfolding read_into
  roomy = go (rules.read text) refl
    where
      go : (o : Outcome Table) → rules.read text ≡ o → read_into text jobs arcs sections ≡ o
      go (refused f) e = rw e refl
      go (gives t) e =
          let l = read_long text t e in
          rw (
            e,
            le-leb (length t.jobs) (length jobs) (omega (arith, l.jobs, l.few_jobs)),
            le-leb (length t.arcs) (length arcs) (omega (arith, l.arcs, l.few_arcs)),
            le-leb (length t.sections) (length sections) (omega (arith, l.sections, l.few_sections)),
          )
          refl

  module _ (jobs' arcs' sections' : List ℕ) where
    pub not-read : (r : Refusal) → Reads text jobs arcs sections jobs' arcs' sections' (Err r) → rules.read text ≡ refused (fault_of r)
    not-read r p = go (rules.read text) (rw roomy at p.answer)
      where
        go : (o : Outcome Table) → refused (fault_of r) ≡ counted o → o ≡ refused (fault_of r)
        go (refused f) e = let q : f ≡ fault_of r = cc in ap refused q
        go (gives t) e = let z : ◌≡◌ {A = ℕ} 0 1 = cc in absurd (omega arith)

    pub was_read : (c : Counts) → Reads text jobs arcs sections jobs' arcs' sections' (Ok c) → Fronts text jobs' arcs' sections' c
    was_read c p =
        go (rules.read text) refl (rw roomy at p.answer) (rw roomy at p.jobs_left) (rw roomy at p.arcs_left) (rw roomy at p.sections_left)
      where
        go : (r : Outcome Table) → rules.read text ≡ r → gives c ≡ counted r
            → jobs' ≡ afterwards r (λ t. t.jobs) jobs → arcs' ≡ afterwards r (λ t. t.arcs) arcs
            → sections' ≡ afterwards r (λ t. t.sections) sections → Fronts text jobs' arcs' sections' c
        go (refused f) e q x y z = let w : ◌≡◌ {A = ℕ} 0 1 = cc in absurd (omega arith)
        go (gives t) e q x y z =
            let l = read_long text t e in
            let k : c ≡ counts_of t = cc in
            let mi : c.jobs ≡ job_count t = ap (λ (w : Counts). w.jobs) k in
            let ni : c.arcs ≡ arc_count t = ap (λ (w : Counts). w.arcs) k in
            let oi : c.sections ≡ section_count t = ap (λ (w : Counts). w.sections) k in
            record {
              table = t;
              read = e;
              counts = (omega (arith, l.few_jobs), omega (arith, l.few_arcs), omega (arith, l.few_sections));
              jobs_front = rw x (take_at t.jobs _ (c.jobs * 3) (omega (arith, l.jobs)));
              arcs_front = rw y (take_at t.arcs _ (c.arcs * 2) (omega (arith, l.arcs)));
              sections_front = rw z (take_at t.sections _ (c.sections * 4) (omega (arith, l.sections)));
            }

-- ---- planning

module _ (t : Table) (lent left : List ℕ) (long : length lent ≡ 128) where
  -- an accepted table has no more than 64 jobs, so there is room for its times
  planned-is : planned t lent ≡ and_then (check t) (λ p. gives p.times)
  unfolding planned check plan_of
  planned-is = go (check_fault t) refl
    where
      go : (o : Option Fault) → check_fault t ≡ o → planned t lent ≡ and_then (unless o (plan_of t)) (λ p. gives p.times)
      go (Some f) e = rw e refl
      go None e = rw (e, le-leb (length (times_to t (job_count t))) (length lent) (omega (arith, times_length t (job_count t), (accepted_facts t e).rows.few_jobs))) refl

  pub not-planned : (r : Refusal) → Plans t lent (Err r) left → check t ≡ refused (fault_of r)
  not-planned r p = go (check t) (rw planned-is at p.answer-is)
    where
      go : (o : Outcome Plan) → refused (fault_of r) ≡ planning.counted (and_then o (λ p. gives p.times)) → o ≡ refused (fault_of r)
      go (refused f) e = let q : f ≡ fault_of r = cc in ap refused q
      go (gives p) e = let z : ◌≡◌ {A = ℕ} 0 1 = cc in absurd (omega arith)

  pub was_planned : (n : ℕ) → Plans t lent (Ok n) left
      → (check t ≡ gives (plan_of t)) × (n ≤ 128) × (take n left ≡ (plan_of t).times) × (plan_in_bounds (plan_of t) ≡ true)
  unfolding check plan_of
  was_planned n p = go (check_fault t) refl (rw planned-is at p.answer-is) (rw planned-is at p.left_is)
    where
      go : (o : Option Fault) → check_fault t ≡ o
          → gives n ≡ planning.counted (and_then (unless o (plan_of t)) (λ p. gives p.times))
          → left ≡ planning.written (and_then (unless o (plan_of t)) (λ p. gives p.times)) lent
          → (check t ≡ gives (plan_of t)) × (n ≤ 128) × (take n left ≡ (plan_of t).times) × (plan_in_bounds (plan_of t) ≡ true)
      go (Some f) e a l = let z : ◌≡◌ {A = ℕ} 0 1 = cc in absurd (omega arith)
      go None e a l =
          let q : n ≡ length (times_to t (job_count t)) = cc in (
            rw e refl,
            omega (arith, times_length t (job_count t), (accepted_facts t e).rows.few_jobs),
            rw l (take_at (times_to t (job_count t)) _ n (sym q)),
            plan_in_bounds_lem t e,
          )

-- ---- running

module _ (p : Plan) (l l' : Lists) (b : plan_in_bounds p ≡ true) (few : job_count p.table ≤ 64)
    (e : length l.executed ≡ 64) (m : length l.marks ≡ 64) (f : length l.finish ≡ 64) where
  ready : fault_for p l ≡ None
  ready = sym (start_ready p _ _ _ b (omega arith) (omega arith) (omega arith))

  pub never_refused : {A : Type 0} (r : Refusal) → Runs p l (Err r) l' → A
  never_refused r h =
      let q : None ≡ Some (fault_of r) = sym ready ∙ (refused-kept (end_state p) l l' (fault_for p l) r h.is).0 in
      let z : ◌≡◌ {A = ℕ} 0 1 = cc in
      absurd (omega arith)

  -- the end state stands in the fronts of the lists
  pub was_run : (t : ℕ) → Runs p l (Ok t) l'
      → state t (take (job_count p.table) l'.executed) (take (job_count p.table) l'.marks) (take (job_count p.table) l'.finish) ≡ end_state p
  was_run t h =
      let g = (end_good p b).1 in
      let k = rw ready at h.is in
      let d : l' ≡ holding (end_state p) l = ap (λ (r : Reach). r.lent) k in
      let w : gives t ≡ gives (end_state p).tick = ap (λ (r : Reach). r.tick) k in
      let u : t ≡ (end_state p).tick = cc in
      rw (
        u,
        d,
        take_at (end_state p).executed (drop (length (end_state p).executed) l.executed) (job_count p.table) g.executed_long,
        take_at (end_state p).marks (drop (length (end_state p).marks) l.marks) (job_count p.table) g.marks_long,
        take_at (end_state p).finish (drop (length (end_state p).finish) l.finish) (job_count p.table) g.finish_long,
      )
      refl

  -- and the lists are as long as the jobs at least
  pub run_long : (t : ℕ) → Runs p l (Ok t) l' → (job_count p.table ≤ length l'.marks) × (job_count p.table ≤ length l'.finish)
  run_long t h =
      let g = (end_good p b).1 in
      let k = rw ready at h.is in
      let d : l' ≡ holding (end_state p) l = ap (λ (r : Reach). r.lent) k in
      rw d (
        simp length-append (omega (arith, g.marks_long)),
        simp length-append (omega (arith, g.finish_long)),
      )

-- ---- what is printed

-- a report reads of the lists no more than a number for each job
module _ (p : Plan) (t : ℕ) (e m f : List ℕ) where
  abbrev pub front : ℕ → State
  front n = state t (take n e) (take n m) (take n f)

  jobs_front : (k n : ℕ) → k ≤ n → jobs_lines p (state t e m f) k ≡ jobs_lines p (front n) k
  unfolding jobs_lines job_lines lateness
  jobs_front zero n h = refl
  jobs_front (suc k) n h =
      rw (jobs_front k n (omega arith), get_or-take n m k 0 (omega arith), get_or-take n f k 0 (omega arith)) refl

  pub report_front : report p (state t e m f) ≡ report p (front (job_count p.table))
  unfolding report
  report_front = rw (jobs_front (job_count p.table) (job_count p.table) (omega arith)) refl

pub refusal_printed : (text : List ℕ) (f : Fault) → rules.read text ≡ refused f → answer text ≡ refusal_lines f
unfolding answer
refusal_printed text f e = rw e refl

pub table-printed : (text : List ℕ) (t : Table) → rules.read text ≡ gives t → answer text ≡ printed (λ p. report p (end_state p)) (check t)
unfolding answer
table-printed text t e = rw e refl
