-- Sections of one job, where refusal 8 finds no clash: two that share a tick lie one within the other, on different resources.
use Rattle.std.specs.Prelude.{◌≡◌, ◌≢◌, ◌⊎◌, false, ℕ, ◌≤◌, ◌<◌}
use Rattle.std.proofs.Common.{sym, ap, inl, inr, arith}
use Rattle.std.proofs.Math.Logic.{⊎_elim}
use Rattle.std.proofs.Math.Decide.{ℕ_discrete, dec_lt}
use Rattle.rules.specs.Table.{Table, section_count, owner, resource, from, to}
use Rattle.rules.specs.Refusals.{overlap, within, clashes}
use Rattle.rules.specs.Refusals as Refusals
use Rattle.laws.specs.Tests.{Says, lt_says, le_says, eq_says, says_map, says_and, says_or, says_not, no_says}
use Rattle.laws.specs.Rows.{any-not}

module _ (t : Table) where
  -- the section k lies within the section s
  pub record Within (k s : ℕ) : Type 0 where
    pub begins_after : from t s ≤ from t k
    pub ends-before : to t k ≤ to t s

  -- two sections share a tick
  pub record Overlap (k s : ℕ) : Type 0 where
    pub one : from t k < to t s
    pub other : from t s < to t k

  overlap_says : (k s : ℕ) → Says (Overlap k s) (Overlap k s → ⊥) (overlap t k s)
  unfolding overlap
  overlap_says k s =
      says_map
      (λ w. record { one = w.0; other = w.1 })
      (⊎_elim (λ l o. omega (arith, o.one)) (λ l o. omega (arith, o.other)))
      (says_and (lt_says (from t k) (to t s)) (lt_says (from t s) (to t k)))

  within_says : (k s : ℕ) → Says (Within k s) (Within k s → ⊥) (within t k s)
  unfolding within
  within_says k s =
      says_map
      (λ w. record { begins_after = w.0; ends-before = w.1 })
      (⊎_elim (λ l h. omega (arith, h.begins_after)) (λ l h. omega (arith, h.ends-before)))
      (says_and (le_says (from t s) (from t k)) (le_says (to t k) (to t s)))

  -- what refusal 8 leaves of two sections of a job that share a tick
  pub record Apart (k s : ℕ) : Type 0 where
    pub resources_differ : resource t k ≢ resource t s
    pub nested : Within k s ⊎ Within s k

  no_clash_apart : (k s : ℕ) → Refusals.clash t k s ≡ false → owner t k ≡ owner t s → Overlap k s → Apart k s
  unfolding Refusals.clash
  no_clash_apart k s e o h =
      ⊎_elim
      (λ n. absurd (n o))
      (⊎_elim (λ n. absurd (n h)) (λ w. record { resources_differ = w.0; nested = w.1 }))
      (no_says
      (says_and
      (eq_says (owner t k) (owner t s))
      (says_and
      (overlap_says k s)
      (says_or (eq_says (resource t k) (resource t s)) (says_not (says_or (within_says k s) (within_says s k))))))
      e)

  module _ (no_clash : (s : ℕ) → s < section_count t → clashes t s ≡ false) where
    clash_free : (k s : ℕ) → k < s → s < section_count t → Refusals.clash t k s ≡ false
    unfolding clashes
    clash_free k s l h = any-not (λ i. Refusals.clash t i s) s (no_clash s h) k l

    pub apart : (k s : ℕ) → k < section_count t → s < section_count t → k ≢ s → owner t k ≡ owner t s → Overlap k s → Apart k s
    apart k s lk ls n o h =
        elim (dec_lt k s) [
          | yes l ↦ no_clash_apart k s (clash_free k s l ls) o h
          | no l ↦
              (let a = no_clash_apart s k (clash_free s k (omega arith) lk) (sym o) (record { one = h.other; other = h.one }) in
              record { resources_differ = λ q. a.resources_differ (sym q); nested = ⊎_elim inr inl a.nested })
        ]

    -- Two sections of one job that share a tick lie one within the other.
    pub nest : (k s : ℕ) → k < section_count t → s < section_count t → owner t k ≡ owner t s → Overlap k s → Within k s ⊎ Within s k
    nest k s lk ls o h =
        elim (ℕ_discrete k s) [
          | yes q ↦
              inl (record { begins_after = omega (arith, ap (from t) q); ends-before = omega (arith, ap (to t) q) })
          | no n ↦ (apart k s lk ls n o h).nested
        ]
