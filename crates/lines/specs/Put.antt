-- Values written into a lent list.
use Rattle.std.specs.Prelude.{◌≡◌, List, ◌++◌, ℕ, ◌+◌, length, take, drop}

-- the list o with vs over its places from `at` on
unfoldable pub put : List ℕ → ℕ → List ℕ → List ℕ
put o at vs = take at o ++ (vs ++ drop (at + length vs) o)

-- vs went over o from `at` on, which made it o', and r is the place after them
pub record Over (o : List ℕ) (at : ℕ) (vs o' : List ℕ) (r : ℕ) : Type 0 where
  pub end : r ≡ at + length vs
  pub list : o' ≡ put o at vs
