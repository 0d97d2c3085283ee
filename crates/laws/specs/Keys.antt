-- The order of a plan's jobs as one number, with no bound on their number, their times or their ranks.
use Rattle.std.specs.Prelude.{◌≡◌, true, ℕ, ◌≤◌, ◌<◌, ltb}
use Rattle.std.proofs.Math.Path.{refl}
use Rattle.std.proofs.Common.{ap, ⊎_elim, arith}
use Rattle.std.proofs.Math.Decide.{ℕ_discrete}
use Rattle.rules.specs.Rows.{largest}
use Rattle.rules.specs.Table.{Plan, job_count, modified_release, modified_deadline, span}
use Rattle.rules.specs.Order.{rank, comes_before}
use Rattle.laws.specs.Tests.{lt_says, says_map, says_same, yes_says, yes_of}
use Rattle.laws.specs.Rows.{largest-at}
use Rattle.laws.specs.Order.{before_says, before_total, key, key_earlier, key-deadline}

module _ (p : Plan) where
  -- the largest release and the largest rank
  last_release : ℕ
  last_release = largest (λ j. true) (modified_release p) 0 (job_count p.table)

  last_rank : ℕ
  last_rank = largest (λ j. true) (rank p) 0 (job_count p.table)

  -- a job's place in the order
  pub key_of : ℕ → ℕ
  key_of j = key last_release last_rank (modified_deadline p j) (modified_release p j) (rank p j)

  release_most : (j : ℕ) → j < job_count p.table → modified_release p j ≤ last_release
  unfolding last_release
  release_most j l = largest-at (λ j. true) (modified_release p) 0 (job_count p.table) j l refl

  rank_most : (j : ℕ) → j < job_count p.table → rank p j ≤ last_rank
  unfolding last_rank
  rank_most j l = largest-at (λ j. true) (rank p) 0 (job_count p.table) j l refl

  module _ (i j : ℕ) (li : i < job_count p.table) (lj : j < job_count p.table) where
    pub before-key : comes_before p i j ≡ true → key_of i < key_of j
    unfolding key_of
    before-key e =
        key_earlier last_release last_rank (release_most i li) (rank_most i li) (release_most j lj) (rank_most j lj)
        (yes_says (before_says p i j) e)

    -- of two jobs with smaller and larger key the first has no later deadline
    pub key_due : key_of i ≤ key_of j → modified_deadline p i ≤ modified_deadline p j
    unfolding key_of
    key_due = key-deadline last_release last_rank (release_most i li) (rank_most i li) (release_most j lj) (rank_most j lj)

    -- so, released no earlier, it has no larger span
    pub key-span : key_of i < key_of j → modified_release p j ≤ modified_release p i → span p i ≤ span p j
    key-span l r = let d = key_due (omega arith) in omega arith

  -- no two jobs have one rank, so no two have one key
  pub rank_apart : (i j : ℕ) → rank p i ≡ rank p j → i ≡ j
  rank_apart i j e = e

  pub key_apart : (i j : ℕ) → i < job_count p.table → j < job_count p.table → key_of i ≡ key_of j → i ≡ j
  key_apart i j li lj e =
      elim (ℕ_discrete (rank p i) (rank p j)) [
        | yes q ↦ rank_apart i j q
        | no n ↦
            ⊎_elim
            (λ b. absurd (omega (arith, before-key i j li lj b)))
            (λ b. absurd (omega (arith, before-key j i lj li b)))
            (before_total p i j n)
      ]

  -- The order of jobs is that of the keys.
  pub key-before : (i j : ℕ) → i < job_count p.table → j < job_count p.table → key_of i < key_of j → comes_before p i j ≡ true
  key-before i j li lj l =
      ⊎_elim
      (λ b. b)
      (λ b. absurd (omega (arith, before-key j i lj li b)))
      (before_total p i j (λ q. omega (arith, ap key_of (rank_apart i j q))))

  pub before-is : (i j : ℕ) → i < job_count p.table → j < job_count p.table → comes_before p i j ≡ ltb (key_of i) (key_of j)
  before-is i j li lj =
      says_same
      (before_says p i j)
      (says_map (λ h. h) (λ h g. omega arith) (lt_says (key_of i) (key_of j)))
      (λ h. before-key i j li lj (yes_of (before_says p i j) (λ n. n h)))
      (λ l. yes_says (before_says p i j) (key-before i j li lj l))
