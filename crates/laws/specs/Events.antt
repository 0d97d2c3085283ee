-- From one event to the next the same choice is made, so many ticks are taken at once. An event is that a modified release is
-- reached, that the running job passes the `to` of one of its sections, or that it finishes. A section's start is none: by it
-- only more is held, and who may not start at what is held may not start at more.
use Rattle.std.specs.Prelude.{◌≡◌, Bool, cond, eqb, set}
use Prim.Native.Nat.{ℕ, ◌+◌, ◌≤◌, ◌<◌}
use Rattle.rules.specs.Table.{Plan, State, job_count, cost, section_count, owner, to, modified_release, executed}
use Rattle.rules.specs.Tick.{ends_stale, mark_for}

-- st' is no earlier than st, and from st to st' nobody in the table is released, nobody finishes, and nobody passes the end of
-- a section.
pub record NoEvent (p : Plan) (st st' : State) : Type 0 where
  pub later : st.tick ≤ st'.tick
  pub no_release : (i : ℕ) → i < job_count p.table → st.tick < modified_release p i → st'.tick < modified_release p i
  pub grows : (i : ℕ) → executed st i ≤ executed st' i
  pub no_finish : (i : ℕ) → executed st i < cost p.table i → executed st' i < cost p.table i
  pub no_end : (s : ℕ) → s < section_count p.table
      → executed st (owner p.table s) < to p.table s → executed st' (owner p.table s) < to p.table s

-- Nobody in the table is released in the n ticks from st: at their end, at the earliest.
abbrev pub Unreleased : Plan → State → ℕ → Type 0
Unreleased p st n = (i : ℕ) → i < job_count p.table → st.tick < modified_release p i → st.tick + n ≤ modified_release p i

-- From st job j can be given n ticks before there is an event.
pub record Quiet (p : Plan) (st : State) (j n : ℕ) : Type 0 where
  pub room : executed st j + n ≤ cost p.table j
  pub no_release : Unreleased p st n
  pub no_end : (s : ℕ) → s < section_count p.table → owner p.table s ≡ j → executed st j < to p.table s
      → executed st j + n ≤ to p.table s

-- job j was given k ticks and has not finished
abbrev pub given : State → ℕ → ℕ → State
given st j k =
    record { tick = st.tick + k; executed = set st.executed j (executed st j + k); marks = st.marks; finish = st.finish }

-- k idle ticks later
abbrev pub idled : State → ℕ → State
idled st k = record { tick = st.tick + k; executed = st.executed; marks = st.marks; finish = st.finish }

-- What n ticks that job j is given come to, the last of them with this report; `advance`, where n is 1.
unfoldable pub advance_by : Plan → State → Bool → ℕ → ℕ → State
unfolding ends_stale
advance_by p st silent j n =
    let last = eqb (executed st j + n) (cost p.table j) in
    record {
      tick = st.tick + n;
      executed = set st.executed j (executed st j + n);
      marks = cond last (set st.marks j (mark_for (ends_stale p st j silent))) st.marks;
      finish = cond last (set st.finish j (st.tick + n)) st.finish;
    }
