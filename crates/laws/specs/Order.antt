-- The order of jobs is a strict total one, and is that of one number, for any bounds on releases and ranks.
use Rattle.std.specs.Prelude.{◌≡◌, ◌≢◌, ◌⊎◌, true}
use Rattle.std.proofs.Common.{sym, inl, inr, ⊎_elim, mul-le-mul_right, arith}
use Rattle.std.proofs.Math.Path.{ap}
use Prim.Native.Nat.{ℕ, suc, ◌+◌, ◌*◌, ◌≤◌, ◌<◌}
use Rattle.std.proofs.Math.Decide.{ℕ_discrete, dec_lt, dec_le}
use Rattle.rules.specs.Table.{Plan, modified_release, modified_deadline}
use Rattle.rules.specs.Order.{rank, comes_before}
use Rattle.laws.specs.Tests.{Says, lt_says, eq_says, says_map, says_and, says_or, yes_says, yes_of, no_of}
use Rattle.laws.specs.First.{Order}

-- ---- by the three keys

-- how a job comes before another
pub data Earlier (d r k d' r' k' : ℕ) : Type 0 where
  by_deadline : d < d' → Earlier d r k d' r' k'
  by_release : d ≡ d' → r < r' → Earlier d r k d' r' k'
  by_rank : d ≡ d' → r ≡ r' → k < k' → Earlier d r k d' r' k'

-- job i comes before job j in the order of a plan
abbrev pub EarlierIn : Plan → ℕ → ℕ → Type 0
EarlierIn p i j =
    Earlier (modified_deadline p i) (modified_release p i) (rank p i) (modified_deadline p j) (modified_release p j) (rank p j)

earlier_not : {d r k d' r' k' : ℕ}
    → (d' ≤ d) × ((d ≢ d') ⊎ ((r' ≤ r) × ((r ≢ r') ⊎ (k' ≤ k)))) → Earlier d r k d' r' k' → ⊥
earlier_not (l, w) (by_deadline h) = omega arith
earlier_not (l, inl n) (by_release e h) = n e
earlier_not (l, inr w) (by_release e h) = omega (arith, w.0)
earlier_not (l, inl n) (by_rank e f h) = n e
earlier_not (l, inr w) (by_rank e f h) = ⊎_elim (λ n. n f) (λ m. omega arith) w.1

pub before_says : (p : Plan) (i j : ℕ) → Says (EarlierIn p i j) (EarlierIn p i j → ⊥) (comes_before p i j)
unfolding comes_before
before_says p i j =
    says_map
    (⊎_elim by_deadline (λ w. ⊎_elim (by_release w.0) (λ v. by_rank w.0 v.0 v.1) w.1))
    earlier_not
    (says_or
    (lt_says (modified_deadline p i) (modified_deadline p j))
    (says_and
    (eq_says (modified_deadline p i) (modified_deadline p j))
    (says_or
    (lt_says (modified_release p i) (modified_release p j))
    (says_and (eq_says (modified_release p i) (modified_release p j)) (lt_says (rank p i) (rank p j))))))

earlier_trans : {d r k d₁ r₁ k₁ d₂ r₂ k₂ : ℕ} → Earlier d r k d₁ r₁ k₁ → Earlier d₁ r₁ k₁ d₂ r₂ k₂ → Earlier d r k d₂ r₂ k₂
earlier_trans (by_deadline h) (by_deadline g) = by_deadline (omega arith)
earlier_trans (by_deadline h) (by_release e g) = by_deadline (omega arith)
earlier_trans (by_deadline h) (by_rank e f g) = by_deadline (omega arith)
earlier_trans (by_release e h) (by_deadline g) = by_deadline (omega arith)
earlier_trans (by_release e h) (by_release f g) = by_release (omega arith) (omega arith)
earlier_trans (by_release e h) (by_rank f x g) = by_release (omega arith) (omega arith)
earlier_trans (by_rank e x h) (by_deadline g) = by_deadline (omega arith)
earlier_trans (by_rank e x h) (by_release f g) = by_release (omega arith) (omega arith)
earlier_trans (by_rank e x h) (by_rank f y g) = by_rank (omega arith) (omega arith) (omega arith)

earlier_irrefl : {d r k : ℕ} → Earlier d r k d r k → ⊥
earlier_irrefl (by_deadline h) = omega arith
earlier_irrefl (by_release e h) = omega arith
earlier_irrefl (by_rank e f h) = omega arith

-- of two jobs with different ranks one comes first
earlier_total : (d r k d' r' k' : ℕ) → k ≢ k' → Earlier d r k d' r' k' ⊎ Earlier d' r' k' d r k
earlier_total d r k d' r' k' n =
    elim (ℕ_discrete d d') [
      | no m ↦ elim (dec_lt d d') [ yes h ↦ inl (by_deadline h) | no h ↦ inr (by_deadline (omega arith)) ]
      | yes e ↦
          elim (ℕ_discrete r r') [
            | no m ↦ elim (dec_lt r r') [ yes h ↦ inl (by_release e h) | no h ↦ inr (by_release (sym e) (omega arith)) ]
            | yes f ↦ elim (dec_lt k k') [ yes h ↦ inl (by_rank e f h) | no h ↦ inr (by_rank (sym e) (sym f) (omega arith)) ]
          ]
    ]

pub before_order : (p : Plan) → Order (comes_before p)
before_order p = record {
  irrefl = λ i. no_of (before_says p i i) earlier_irrefl;
  trans = λ i j k h g.
      yes_of (before_says p i k) (λ n. n (earlier_trans (yes_says (before_says p i j) h) (yes_says (before_says p j k) g)));
}

pub before_total : (p : Plan) (i j : ℕ) → rank p i ≢ rank p j → (comes_before p i j ≡ true) ⊎ (comes_before p j i ≡ true)
before_total p i j n =
    ⊎_elim
    (λ h. inl (yes_of (before_says p i j) (λ k. k h)))
    (λ h. inr (yes_of (before_says p j i) (λ k. k h)))
    (earlier_total
    (modified_deadline p i) (modified_release p i) (rank p i) (modified_deadline p j) (modified_release p j) (rank p j) n)

-- ---- as one number

-- under a bound on the second part the first decides
pub fst_le : (m a b c d : ℕ) → d < m → a * m + b ≤ c * m + d → a ≤ c
fst_le m a b c d l h =
    elim (dec_le a c) [ yes k ↦ k | no k ↦ (let f : suc c * m ≤ a * m = mul-le-mul_right m (omega arith) in absurd (omega arith)) ]

pair_lt : (m a b c d : ℕ) → b < m → a < c → a * m + b < c * m + d
pair_lt m a b c d l h = let f : suc a * m ≤ c * m = mul-le-mul_right m h in omega arith

-- deadline, release and rank as one number, for releases at most R and ranks at most W
unfoldable pub key : ℕ → ℕ → ℕ → ℕ → ℕ → ℕ
key R W d r k = (d * suc R + r) * suc W + k

module _ (R W : ℕ) {d r k d' r' k' : ℕ} (r≤ : r ≤ R) (k≤ : k ≤ W) (r'≤ : r' ≤ R) (k'≤ : k' ≤ W) where
  pub key_earlier : Earlier d r k d' r' k' → key R W d r k < key R W d' r' k'
  unfolding key
  key_earlier (by_deadline h) =
      pair_lt (suc W) (d * suc R + r) k (d' * suc R + r') k' (omega arith) (pair_lt (suc R) d r d' r' (omega arith) h)
  key_earlier (by_release e h) =
      pair_lt (suc W) (d * suc R + r) k (d' * suc R + r') k' (omega arith) (omega (arith, ap (λ x. x * suc R) e))
  key_earlier (by_rank e f h) =
      let q : d * suc R + r ≡ d' * suc R + r' = omega (arith, ap (λ x. x * suc R) e) in
      omega (arith, ap (λ x. x * suc W) q)

  pub key-deadline : key R W d r k ≤ key R W d' r' k' → d ≤ d'
  unfolding key
  key-deadline h =
      fst_le (suc R) d r d' r' (omega arith) (fst_le (suc W) (d * suc R + r) k (d' * suc R + r') k' (omega arith) h)
