-- Whether a state's lists are as long as a table's jobs.
use Rattle.std.specs.Prelude.{◌≡◌, refl, Bool, true, false, ◌&&◌, [], length, leb, eqb}
use Rattle.rules.specs.Lists.{with_times}
use Rattle.rules.specs.Refusals.{job_state_right, state_in_bounds}
use Rattle.rules.specs.Rows.{all}
use Rattle.rules.specs.Table.{Table, State, last_tick, job_count}
use Rattle.laws.specs.Tests.{eq_says, says_and, yes_says}
use Rattle.ticks.specs.Fits.{Same}

-- the state's lists are as long as the table's jobs
unfoldable pub lengths_right : Table → State → Bool
lengths_right t st =
    eqb (length st.executed) (job_count t) && (eqb (length st.marks) (job_count t) && eqb (length st.finish) (job_count t))

module _ (t : Table) (st : State) where
  pub same_lengths : lengths_right t st ≡ true → Same t st
  unfolding lengths_right
  same_lengths e =
      let (x, w) =
      yes_says
      (says_and
      (eq_says (length st.executed) (job_count t))
      (says_and (eq_says (length st.marks) (job_count t)) (eq_says (length st.finish) (job_count t))))
      e in
      record { by_job = x; marked = record { by_job = w.0 }; finished = w.1 }

  pub lengths_first : ((lengths_right t st && leb st.tick last_tick) && all (job_state_right (with_times t []) st) (job_count t))
      ≡ state_in_bounds (with_times t []) st
  unfolding lengths_right state_in_bounds
  lengths_first =
      go (eqb (length st.executed) (job_count t)) (eqb (length st.marks) (job_count t)) (eqb (length st.finish) (job_count t)) _ _
    where
      go : (a b c d e : Bool) → (((a && (b && c)) && d) && e) ≡ (a && (b && (c && (d && e))))
      go true true true d e = refl
      go true true false d e = refl
      go true false c d e = refl
      go false b c d e = refl
