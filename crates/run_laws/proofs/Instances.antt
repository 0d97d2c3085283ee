-- The seven theorems at P1, and at P3 where the step at tick 5 is silent, with 01's numbers: none of them asks what can't be met.
use Rattle.std.specs.Prelude.{◌≡◌, refl, ◌⊎◌, true, false, [], ◌∷◌, ℕ, ◌-◌, ◌≤◌, take}
use Rattle.std.proofs.Common.{sym, ◌∙◌, inl, inr, arith, None, Some}
use Rattle.rules.specs.Table.{precedes, modified_deadline, mark, finish}
use Rattle.rules.specs.Refusals.{gives, refused, fault, check, plan_in_bounds, finished, step_fault}
use Rattle.rules.specs.Tick.{holds, covers, chosen, ends}
use Rattle.rules.specs.Run.{start, after_reports, all_end_by, end_state, waited, longest_later}
use Rattle.rules.specs.Examples.{p1, p1-plan, all-answered, tick_5_silent}
use Rattle.laws.specs.Tests.{clash}
use Rattle.laws.specs.Reach.{Ancestor, direct}
use Rattle.run_laws.specs.Statement.{state_at, Inside, while_held, EndedSilent, WaitsOnlyFor, steps}
use Rattle.run_laws.proofs.Theorems.{
  ancestors-first,
  one_inside,
  marks_right,
  waits_bounded,
  never_idle,
  all_end,
  steps_are_ticks,
  quasi_normal,
  end_reached,
}

pub p1_in_bounds : plan_in_bounds p1-plan ≡ true
unfolding plan_in_bounds p1-plan
p1_in_bounds = refl

-- P1 is accepted.
pub p1-accepted : check p1 ≡ gives p1-plan
unfolding check p1 p1-plan
p1-accepted = refl

arc_1_2 : Ancestor p1 1 2
unfolding precedes p1
arc_1_2 = direct refl

-- What each theorem says at P1, all reports answered, and at P3.
pub record AtP1 : Type 0 where
  -- (a) tick 6 goes to job 2, and job 1, its ancestor, has finished
  pub tick_6_of_2 : chosen p1-plan (state_at p1-plan all-answered 6) ≡ Some 2
  pub job_1_before : finished p1-plan (state_at p1-plan all-answered 6) 1 ≡ true
  -- (b) at tick 2 job 0 holds its section on resource 0, and job 1 is not inside its own
  pub job_0_inside : Inside p1-plan (state_at p1-plan all-answered 2) 0
  pub job_1_outside : Inside p1-plan (state_at p1-plan all-answered 2) 1 → ⊥
  -- (c) all answered: jobs are fresh, and neither job 2 nor an ancestor ended silent
  pub all_fresh : (after_reports p1-plan all-answered).marks ≡ 1 ∷ 1 ∷ 1 ∷ []
  pub none_silent : (i : ℕ) × ((i ≡ 2) ⊎ Ancestor p1 i 2) × EndedSilent p1-plan all-answered i → ⊥
  -- P3: job 1 ended silent, so it and job 2 are stale, and job 0 is fresh
  pub job_1_silent : EndedSilent p1-plan tick_5_silent 1
  pub job_1_stale : mark (after_reports p1-plan tick_5_silent) 1 ≡ 2
  pub job_2_stale : mark (after_reports p1-plan tick_5_silent) 2 ≡ 2
  pub job_0_fresh : mark (after_reports p1-plan tick_5_silent) 0 ≡ 1
  -- (d) job 1 waits two ticks, all for job 0: section 3 less one
  pub waits_for_0 : WaitsOnlyFor p1-plan all-answered 1 0
  pub waits_two : waited p1-plan (start p1-plan) all-answered 1 ≡ 2
  pub section_3 : longest_later p1-plan 1 ≡ 3
  pub two_at_most : 2 ≤ longest_later p1-plan 1 - 1
  -- (e) tick 2, at which jobs 1 and 2 are released, is not idle; tick 7 is, and all have finished
  pub tick_2_busy : chosen p1-plan (state_at p1-plan all-answered 2) ≡ None → ⊥
  pub tick_7_idle : chosen p1-plan (after_reports p1-plan all-answered) ≡ None
  pub job_2_done : finished p1-plan (after_reports p1-plan all-answered) 2 ≡ true
  -- (f) all end by 2 + 7; they end at 4, 6 and 7
  pub end_by_9 : all_end_by p1-plan ≡ 9
  pub finishes : (after_reports p1-plan all-answered).finish ≡ 4 ∷ 6 ∷ 7 ∷ []
  pub in_time : (j : ℕ) → finish (after_reports p1-plan all-answered) j ≤ 9
  -- the seven steps are taken, and an eighth is refused with 13
  pub seven_steps : steps p1-plan (start p1-plan) all-answered ≡ gives (after_reports p1-plan all-answered)
  pub eighth_step : step_fault p1-plan (after_reports p1-plan all-answered) ≡ Some (fault 13 0)
  pub eight_steps : steps p1-plan (start p1-plan) (false ∷ all-answered) ≡ refused (fault 13 0)
  -- the program's end state is the one after these seven
  pub end_at_7 : end_state p1-plan ≡ after_reports p1-plan all-answered
  pub end_in_time : (end_reached p1-plan p1_in_bounds).0 ≤ 9
  -- 003, definition 3.3: job 1 has a tick before job 2, released with it, and an earlier deadline
  pub tick_4_of_1 : chosen p1-plan (state_at p1-plan all-answered 4) ≡ Some 1
  pub due_before : modified_deadline p1-plan 1 ≤ modified_deadline p1-plan 2

silent_at_5 : EndedSilent p1-plan tick_5_silent 1
unfolding p1-plan tick_5_silent after_reports chosen ends
silent_at_5 = record { place = 5; reported = omega arith; its_tick = refl; its_last = refl; silent = refl }

pub at-p1 : AtP1
unfolding p1 p1-plan all-answered tick_5_silent after_reports chosen holds covers waited longest_later all_end_by start end_state step_fault
at-p1 =
    record {
      tick_6_of_2 = refl;
      job_1_before = ancestors-first p1 p1-plan p1-accepted (take 6 all-answered) 1 2 refl arc_1_2;
      job_0_inside = while_held refl;
      job_1_outside = λ b. omega (arith, one_inside p1 p1-plan p1-accepted (take 2 all-answered) 0 1 refl (while_held refl) b);
      all_fresh = refl;
      none_silent = λ w. omega (arith, (marks_right p1 p1-plan p1-accepted all-answered 2 (omega arith) refl).1.1 w);
      job_1_silent = silent_at_5;
      job_1_stale = (marks_right p1 p1-plan p1-accepted tick_5_silent 1 (omega arith) refl).1.1 (1, inl refl, silent_at_5);
      job_2_stale = (marks_right p1 p1-plan p1-accepted tick_5_silent 2 (omega arith) refl).1.1 (1, inr arc_1_2, silent_at_5);
      job_0_fresh = refl;
      waits_for_0 = (
          let w : (who : ℕ) × WaitsOnlyFor p1-plan all-answered 1 who = (waits_bounded p1 p1-plan p1-accepted all-answered 1).0 in
          let e : Some 0 ≡ Some w.0 = w.1 2 (omega arith) refl in
          λ n l h. w.1 n l h ∙ sym e
          );
      waits_two = refl;
      section_3 = refl;
      two_at_most = (waits_bounded p1 p1-plan p1-accepted all-answered 1).1;
      tick_2_busy = λ e. clash ((never_idle p1 p1-plan p1-accepted (take 2 all-answered)).0 e 1 (omega arith)) refl;
      tick_7_idle = refl;
      job_2_done = (never_idle p1 p1-plan p1-accepted all-answered).0 refl 2 (omega arith);
      end_by_9 = refl;
      finishes = refl;
      in_time = (all_end p1 p1-plan p1-accepted all-answered).1;
      seven_steps = (steps_are_ticks p1 p1-plan p1-accepted all-answered).1;
      eighth_step = (steps_are_ticks p1 p1-plan p1-accepted all-answered).0 (omega arith);
      eight_steps = (steps_are_ticks p1 p1-plan p1-accepted (false ∷ all-answered)).1;
      end_at_7 = refl;
      end_in_time = (end_reached p1-plan p1_in_bounds).1;
      tick_4_of_1 = refl;
      due_before = quasi_normal p1 p1-plan p1-accepted all-answered 4 6 2 1 (omega arith) (omega arith) refl refl (omega arith);
    }
