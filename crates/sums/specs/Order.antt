-- The order by relative deadline, ties by number: what it says, and that it is strict and total.
use Rattle.std.specs.Prelude.{◌≡◌, ◌≢◌, ◌⊎◌, ℕ, ◌≤◌, ◌<◌}
use Rattle.std.proofs.Common.{inl, inr, ⊎_elim, arith}
use Rattle.rules.specs.Table.{Plan, span}
use Rattle.rules.specs.Density.{sorts_before}
use Rattle.laws.specs.Tests.{Says, lt_says, eq_says, says_map, says_and, says_or, yes_says, yes_of, no_of}
use Rattle.laws.specs.First.{Order}

module _ (p : Plan) where
  -- ---- what it says

  -- i comes before j: by the shorter span, then by the lower number
  pub data Sooner (i j : ℕ) : Type 0 where
    shorter : span p i < span p j → Sooner i j
    lower : span p i ≡ span p j → i < j → Sooner i j

  sooner_not : {i j : ℕ} → (span p j ≤ span p i) × ((span p i ≢ span p j) ⊎ (j ≤ i)) → Sooner i j → ⊥
  sooner_not (l, w) (shorter h) = omega arith
  sooner_not (l, inl n) (lower e h) = n e
  sooner_not (l, inr m) (lower e h) = omega arith

  pub sorts_says : (i j : ℕ) → Says (Sooner i j) (Sooner i j → ⊥) (sorts_before p i j)
  unfolding sorts_before
  sorts_says i j =
      says_map
      (⊎_elim shorter (λ w. lower w.0 w.1))
      sooner_not
      (says_or (lt_says (span p i) (span p j)) (says_and (eq_says (span p i) (span p j)) (lt_says i j)))

  sooner_trans : {i j k : ℕ} → Sooner i j → Sooner j k → Sooner i k
  sooner_trans (shorter h) (shorter g) = shorter (omega arith)
  sooner_trans (shorter h) (lower e g) = shorter (omega arith)
  sooner_trans (lower e h) (shorter g) = shorter (omega arith)
  sooner_trans (lower e h) (lower f g) = lower (omega arith) (omega arith)

  sooner_irrefl : {i : ℕ} → Sooner i i → ⊥
  sooner_irrefl (shorter h) = omega arith
  sooner_irrefl (lower e h) = omega arith

  pub sorts_order : Order (sorts_before p)
  sorts_order =
      record {
        irrefl = λ i. no_of (sorts_says i i) sooner_irrefl;
        trans = λ i j k h g.
            yes_of (sorts_says i k) (λ n. n (sooner_trans (yes_says (sorts_says i j) h) (yes_says (sorts_says j k) g)));
      }
