-- 01, "Shelf examples": those marked P, every fact stated of each, proved of the rules by computation.
use Rattle.std.specs.Prelude.{refl, Bool, true, false, List, [], ◌∷◌, ℕ, pos, negsuc, None, Some}
use Rattle.rules.specs.Claims.{Claim, ◌is◌, AllHold, ◌&◌}
use Rattle.rules.specs.Table.{Table, Plan}
use Rattle.rules.specs.Times.{new_release, new_deadline}
use Rattle.rules.specs.Refusals.{refused, gives, fault, check, plan_of}
use Rattle.rules.specs.Text.{bytes_of, text_of, read}
use Rattle.rules.specs.Run.{start, after_reports, schedule, end_state, lateness, waited, longest_later}
use Rattle.rules.specs.Density.{place_of_job, multiple, density_sum, density}
use Rattle.rules.specs.Output.{answer}

-- ---- the tables

-- "Jobs (release, cost, deadline): 0 (0, 4, 20), 1 (2, 2, 10), 2 (0, 1, 12); arc 1 to 2; sections: job 0 resource 0 from 1
-- to 4, job 1 resource 0 from 0 to 1."
unfoldable pub p1 : Table
p1 = record {
  jobs = 0 ∷ 4 ∷ 20 ∷ 2 ∷ 2 ∷ 10 ∷ 0 ∷ 1 ∷ 12 ∷ [];
  arcs = 1 ∷ 2 ∷ [];
  sections = 0 ∷ 0 ∷ 1 ∷ 4 ∷ 1 ∷ 0 ∷ 0 ∷ 1 ∷ [];
}

-- "Modified releases 0, 2, 2; deadlines 20, 10, 12."
unfoldable pub p1-plan : Plan
unfolding p1
p1-plan = record { table = p1; times = 0 ∷ 20 ∷ 2 ∷ 10 ∷ 2 ∷ 12 ∷ [] }

-- "Arcs 0 to 1 and 1 to 0."
unfoldable pub p4 : Table
p4 = record { jobs = 0 ∷ 1 ∷ 10 ∷ 0 ∷ 1 ∷ 10 ∷ []; arcs = 0 ∷ 1 ∷ 1 ∷ 0 ∷ []; sections = [] }

-- "One job (0, 5, 5)", and with another deadline.
unfoldable pub p5 : ℕ → Table
p5 due = record { jobs = 0 ∷ 5 ∷ due ∷ []; arcs = []; sections = [] }

-- "Jobs (0, 3, 10), (0, 4, 6), arc 0 to 1."
unfoldable pub p6 : Table
p6 = record { jobs = 0 ∷ 3 ∷ 10 ∷ 0 ∷ 4 ∷ 6 ∷ []; arcs = 0 ∷ 1 ∷ []; sections = [] }

-- "Jobs (0, 1, 100), (0, 5, 3), arc 0 to 1."
unfoldable pub p7 : Table
p7 = record { jobs = 0 ∷ 1 ∷ 100 ∷ 0 ∷ 5 ∷ 3 ∷ []; arcs = 0 ∷ 1 ∷ []; sections = [] }

-- "One job (3, 1, 4)."
unfoldable pub p8 : Table
p8 = record { jobs = 3 ∷ 1 ∷ 4 ∷ []; arcs = []; sections = [] }

-- one job with two sections on resource 0
unfoldable pub p9 : ℕ → ℕ → ℕ → ℕ → Table
p9 from₁ to₁ from₂ to₂ = record
    { jobs = 0 ∷ 5 ∷ 9 ∷ []; arcs = []; sections = 0 ∷ 0 ∷ from₁ ∷ to₁ ∷ 0 ∷ 0 ∷ from₂ ∷ to₂ ∷ [] }

-- "Jobs (0, 3, 3), (0, 3, 5), no arcs."
unfoldable pub p10 : Table
p10 = record { jobs = 0 ∷ 3 ∷ 3 ∷ 0 ∷ 3 ∷ 5 ∷ []; arcs = []; sections = [] }

-- ---- the reports

-- seven ticks, none silent
unfoldable pub all-answered : List Bool
all-answered = false ∷ false ∷ false ∷ false ∷ false ∷ false ∷ false ∷ []

-- "with the step at tick 5 silent"
unfoldable pub tick_5_silent : List Bool
tick_5_silent = false ∷ false ∷ false ∷ false ∷ false ∷ true ∷ false ∷ []

-- ---- the examples

-- What 01 states of each example, beside what the rules compute.
unfoldable pub examples : List Claim
unfolding p1 p1-plan p4 p5 p6 p7 p8 p9 p10 all-answered tick_5_silent
examples =
    -- P1
    (new_release p1 0 is 0)
    ∷ (new_release p1 1 is 2)
    ∷ (new_release p1 2 is 2)
    ∷ (new_deadline p1 0 is pos 20)
    ∷ (new_deadline p1 1 is pos 10)
    ∷ (new_deadline p1 2 is pos 12)
    ∷ (check p1 is gives p1-plan)
    ∷ (schedule p1-plan (start p1-plan) all-answered
    is (Some 0 ∷ Some 0 ∷ Some 0 ∷ Some 0 ∷ Some 1 ∷ Some 1 ∷ Some 2 ∷ []))
    ∷ (waited p1-plan (start p1-plan) all-answered 1 is 2)
    ∷ (longest_later p1-plan 1 is 3)
    ∷ (read (text_of p1) is gives p1)
    ∷ (answer (text_of p1)
    is bytes_of "jobs=3\nrelease=0\ndeadline=20\nfinish=4\nlateness=-16\nmark=fresh\nrelease=2\ndeadline=10\nfinish=6\nlateness=-4\nmark=fresh\nrelease=2\ndeadline=12\nfinish=7\nlateness=-5\nmark=fresh\nticks=7\n")
    -- P2: job 1 has place 1, job 2 place 2, job 0 place 3
    ∷ (multiple p1-plan is 40)
    ∷ (place_of_job p1-plan 1 is 1)
    ∷ (place_of_job p1-plan 2 is 2)
    ∷ (place_of_job p1-plan 0 is 3)
    ∷ (density_sum p1-plan 40 1 is 25)
    ∷ (density_sum p1-plan 40 2 is 26)
    ∷ (density_sum p1-plan 40 0 is 22)
    ∷ (density p1-plan is gives 0)
    -- P3
    ∷ ((after_reports p1-plan tick_5_silent).marks is (1 ∷ 2 ∷ 2 ∷ []))
    -- P4
    ∷ (check p4 is refused (fault 9 0))
    -- P5
    ∷ (check (p5 5) is gives record { table = p5 5; times = 0 ∷ 5 ∷ [] })
    ∷ (check (p5 4) is refused (fault 10 0))
    -- P6
    ∷ (new_deadline p6 0 is pos 2)
    ∷ (check p6 is refused (fault 10 0))
    -- P7: -2
    ∷ (new_deadline p7 0 is negsuc 1)
    ∷ (check p7 is refused (fault 10 0))
    -- P8
    ∷ (schedule (plan_of p8) (start (plan_of p8)) (false ∷ false ∷ false ∷ false ∷ []) is (None ∷ None ∷ None ∷ Some 0 ∷ []))
    ∷ ((end_state (plan_of p8)).finish is (4 ∷ []))
    ∷ (lateness (plan_of p8) (end_state (plan_of p8)) 0 is pos 0)
    -- P9
    ∷ (check (p9 0 3 2 5) is refused (fault 8 1))
    ∷ (check (p9 0 2 2 4) is gives record { table = p9 0 2 2 4; times = 0 ∷ 9 ∷ [] })
    -- P10
    ∷ (check p10 is gives record { table = p10; times = 0 ∷ 3 ∷ 0 ∷ 5 ∷ [] })
    ∷ (lateness (plan_of p10) (end_state (plan_of p10)) 0 is pos 0)
    ∷ (lateness (plan_of p10) (end_state (plan_of p10)) 1 is pos 1)
    ∷ (multiple (plan_of p10) is 15)
    ∷ (place_of_job (plan_of p10) 0 is 1)
    ∷ (place_of_job (plan_of p10) 1 is 2)
    ∷ (density_sum (plan_of p10) 15 0 is 15)
    ∷ (density_sum (plan_of p10) 15 1 is 24)
    ∷ (density (plan_of p10) is gives 2)
    ∷ []

-- Each holds by computation.
pub examples_hold : AllHold examples
unfolding
    examples
    new_release
    new_deadline
    check
    plan_of
    read
    text_of
    answer
    schedule
    start
    after_reports
    end_state
    lateness
    waited
    longest_later
    place_of_job
    multiple
    density_sum
    density
    bytes_of
examples_hold =
    -- P1
    refl & refl & refl & refl & refl & refl & refl & refl & refl & refl & refl & refl
    -- P2
    & refl & refl & refl & refl & refl & refl & refl & refl
    -- P3
    & refl
    -- P4
    & refl
    -- P5
    & refl & refl
    -- P6
    & refl & refl
    -- P7
    & refl & refl
    -- P8
    & refl & refl & refl
    -- P9
    & refl & refl
    -- P10
    & refl & refl & refl & refl & refl & refl & refl & refl & refl
    & tt
