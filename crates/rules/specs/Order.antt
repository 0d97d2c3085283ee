-- 01, "Modified times", its last sentence: the order of jobs.
use Rattle.std.specs.Prelude.{Bool, ◌&&◌, ◌||◌, ℕ, ltb, eqb}
use Rattle.rules.specs.Table.{Plan, modified_release, modified_deadline}

-- The last key of the order: a job's number.
abbrev pub rank : Plan → ℕ → ℕ
rank p j = j

-- "Earlier modified deadline first, then earlier modified release, then lower number."
unfoldable pub comes_before : Plan → ℕ → ℕ → Bool
comes_before p i j =
    ltb (modified_deadline p i) (modified_deadline p j)
    || (eqb (modified_deadline p i) (modified_deadline p j)
    && (ltb (modified_release p i) (modified_release p j)
    || (eqb (modified_release p i) (modified_release p j) && ltb (rank p i) (rank p j))))
