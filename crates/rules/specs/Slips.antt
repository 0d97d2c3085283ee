-- The smallest tables on which slips show that no P example of 01 catches: what the rules say of each.
use Rattle.std.specs.Prelude.{refl, false, List, [], ◌∷◌, pos, negsuc, Some}
use Rattle.rules.specs.Claims.{Claim, ◌is◌, AllHold, ◌&◌}
use Rattle.rules.specs.Table.{Table}
use Rattle.rules.specs.Times.{new_deadline}
use Rattle.rules.specs.Refusals.{refused, gives, fault, check, plan_of}
use Rattle.rules.specs.Text.{bytes_of, read}
use Rattle.rules.specs.Run.{start, schedule, end_state, lateness}
use Rattle.rules.specs.Density.{density}

-- A slip starts the best job that passes the ceiling test when the first pending one fails it: job 1 would overtake job 2.
unfoldable pub overtaking : Table
overtaking = record {
  jobs = 0 ∷ 4 ∷ 5 ∷ 3 ∷ 1 ∷ 4 ∷ 1 ∷ 1 ∷ 3 ∷ [];
  arcs = 2 ∷ 1 ∷ [];
  sections = 0 ∷ 0 ∷ 0 ∷ 4 ∷ 2 ∷ 0 ∷ 0 ∷ 1 ∷ [];
}

-- A slip modifies deadlines in table order: job 0 would not hear of job 2.
unfoldable pub chain : Table
chain = record { jobs = 0 ∷ 1 ∷ 20 ∷ 0 ∷ 1 ∷ 20 ∷ 0 ∷ 5 ∷ 10 ∷ []; arcs = 0 ∷ 1 ∷ 1 ∷ 2 ∷ []; sections = [] }

-- A slip takes lateness against the modified deadline, here 4, and not the given one, 10.
unfoldable pub early : Table
early = record { jobs = 0 ∷ 1 ∷ 10 ∷ 0 ∷ 1 ∷ 5 ∷ []; arcs = 0 ∷ 1 ∷ []; sections = [] }

-- A slip takes a section as held before its first tick: job 1 would wait.
unfoldable pub standing : Table
standing = record
    { jobs = 0 ∷ 2 ∷ 3 ∷ 1 ∷ 1 ∷ 2 ∷ []; arcs = []; sections = 0 ∷ 0 ∷ 1 ∷ 2 ∷ 1 ∷ 0 ∷ 0 ∷ 1 ∷ [] }

-- A slip counts sections of jobs with equal relative deadlines into b.
unfoldable pub equals : Table
equals = record
    { jobs = 0 ∷ 2 ∷ 4 ∷ 0 ∷ 2 ∷ 4 ∷ []; arcs = []; sections = 0 ∷ 0 ∷ 0 ∷ 1 ∷ 1 ∷ 0 ∷ 0 ∷ 2 ∷ [] }

-- A slip gives the lowest job left over by sorting, 0, and not the lowest on the cycle.
unfoldable pub behind_cycle : Table
behind_cycle = record
    { jobs = 0 ∷ 1 ∷ 9 ∷ 0 ∷ 1 ∷ 9 ∷ 0 ∷ 1 ∷ 9 ∷ []; arcs = 1 ∷ 2 ∷ 2 ∷ 1 ∷ 2 ∷ 0 ∷ []; sections = [] }

-- What the rules say of each table, and of texts that a slip of the reader would take otherwise.
unfoldable pub slips : List Claim
unfolding overtaking chain early standing equals behind_cycle
slips =
    (schedule (plan_of overtaking) (start (plan_of overtaking)) (false ∷ false ∷ false ∷ false ∷ false ∷ false ∷ [])
    is (Some 0 ∷ Some 0 ∷ Some 0 ∷ Some 0 ∷ Some 2 ∷ Some 1 ∷ []))
    ∷ (new_deadline chain 0 is pos 4)
    ∷ (lateness (plan_of early) (end_state (plan_of early)) 0 is negsuc 8)
    ∷ (schedule (plan_of standing) (start (plan_of standing)) (false ∷ false ∷ false ∷ []) is (Some 0 ∷ Some 1 ∷ Some 0 ∷ []))
    ∷ (density (plan_of equals) is gives 0)
    ∷ (check behind_cycle is refused (fault 9 1))
    -- the text: a leading zero, the largest number and the next, a blank, a missing line, bytes after the last line
    ∷ (read (bytes_of "jobs=01\n") is refused (fault 1 1))
    ∷ (read (bytes_of "jobs=4294967295\n") is refused (fault 2 1))
    ∷ (read (bytes_of "jobs=4294967296\n") is refused (fault 1 1))
    ∷ (read (bytes_of "jobs=65") is refused (fault 1 1))
    ∷ (read (bytes_of "jobs=1\nrelease= 0\n") is refused (fault 1 2))
    ∷ (read (bytes_of "jobs=1\nrelease=0\ncost=1\n") is refused (fault 1 4))
    ∷ (read (bytes_of "jobs=1\nrelease=0\ncost=1\ndeadline=1\narcs=0\nsections=0\n")
    is gives record { jobs = 0 ∷ 1 ∷ 1 ∷ []; arcs = []; sections = [] })
    ∷ (read (bytes_of "jobs=1\nrelease=0\ncost=1\ndeadline=1\narcs=0\nsections=0\n\n") is refused (fault 1 7))
    ∷ []

-- Each holds by computation.
pub slips_hold : AllHold slips
unfolding slips new_deadline check plan_of read schedule start end_state lateness density bytes_of
slips_hold = refl & refl & refl & refl & refl & refl & refl & refl & refl & refl & refl & refl & refl & refl & tt
