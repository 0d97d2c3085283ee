-- What is said of rows: of all below a bound, of some, how many, their sum, the largest, the lowest, the first in an order.
use Rattle.std.specs.Prelude.{Bool, true, false, cond, ◌&&◌, ◌||◌, ℕ, zero, suc, ◌+◌, min, max, Option, None, Some}

-- every row below n passes
unfoldable pub all : (ℕ → Bool) → ℕ → Bool
all f zero = true
all f (suc n) = all f n && f n

-- some row below n passes
unfoldable pub any : (ℕ → Bool) → ℕ → Bool
any f zero = false
any f (suc n) = any f n || f n

-- how many rows below n pass
unfoldable pub count : (ℕ → Bool) → ℕ → ℕ
count f zero = 0
count f (suc n) = count f n + cond (f n) 1 0

-- the sum of the rows below n
unfoldable pub sum : (ℕ → ℕ) → ℕ → ℕ
sum f zero = 0
sum f (suc n) = sum f n + f n

-- the largest of the rows below n that pass, and of `least`
unfoldable pub largest : (ℕ → Bool) → (ℕ → ℕ) → ℕ → ℕ → ℕ
largest passes f least zero = least
largest passes f least (suc n) = cond (passes n) (max (largest passes f least n) (f n)) (largest passes f least n)

-- the smallest of the rows below n that pass, and of `most`
unfoldable pub smallest : (ℕ → Bool) → (ℕ → ℕ) → ℕ → ℕ → ℕ
smallest passes f most zero = most
smallest passes f most (suc n) = cond (passes n) (min (smallest passes f most n) (f n)) (smallest passes f most n)

-- what was found so far, or else row n where it passes
unfoldable pub or_else : Option ℕ → Bool → ℕ → Option ℕ
or_else (Some k) b n = Some k
or_else None true n = Some n
or_else None false n = None

-- the lowest row below n that passes
unfoldable pub lowest : (ℕ → Bool) → ℕ → Option ℕ
unfolding or_else
lowest f zero = None
lowest f (suc n) = or_else (lowest f n) (f n) n

-- the row `new` where it passes and comes before the best so far; else the best so far
unfoldable pub better : (ℕ → ℕ → Bool) → Bool → ℕ → Option ℕ → Option ℕ
better before false new best = best
better before true new None = Some new
better before true new (Some old) = cond (before new old) (Some new) (Some old)

-- the first in the order of those rows below n that pass
unfoldable pub first : (ℕ → ℕ → Bool) → (ℕ → Bool) → ℕ → Option ℕ
unfolding better
first before passes zero = None
first before passes (suc n) = better before (passes n) n (first before passes n)
