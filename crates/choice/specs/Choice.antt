-- Laws for the choice: the units that one pass over the sections counts, that the ceilings compared section by section are
-- 01's test, and what it does not look at.
use Rattle.std.specs.Prelude.{◌≡◌, ◌≢◌, ◌⊎◌, Bool, true, cond, ◌||◌, ℕ, ◌+◌, ◌≤◌, ◌<◌, set, replicate, Option, None, Some}
use Rattle.std.proofs.Math.Path.{refl, ap}
use Rattle.std.proofs.Common.{sym, ◌∙◌, arith}
use Rattle.std.proofs.Math.Logic.{⊎_elim}
use Rattle.std.proofs.Math.Bool.{false, and-false}
use mathlib.Core.List.{List, []}
use Rattle.std.proofs.Math.Decide.{ℕ_discrete}
use Rattle.std.proofs.Math.ListN.{get_or, length-set, get_or-replicate}
use Rattle.std.proofs.Math.Seq.{get_or-set_same, get_or-set_other}
use Rattle.std.proofs.Math.Dec.{eqb}
use borrow.Author.Tests.{eq-eqb, ne_eqb}
use Rattle.rules.specs.Rows.{all, sum}
use Rattle.rules.specs.Table.{Plan, State, resources, section_count, owner, resource, span}
use Rattle.rules.specs.Tick.{tightest, span_of, below_ceiling, held_on, held, clears, may_start, first_pending, choose, chosen}
use Rattle.rules.specs.Lists.{plan, state, at}
use Rattle.laws.specs.Tests.{Says, so, not_so, lt_says, eq_says, says_or, yes_says, no_says}
use Rattle.laws.specs.Rows.{sum_more, sum_most, all_says, all_ext}
use Rattle.laws.specs.Clears.{clears_says, may_says}
use Rattle.choice.specs.Fits.{held_now, HeldTo, clear_of}

-- ---- units held, section by section

module _ (p : Plan) (st : State) where
  pub held_start : HeldTo p st 0 (replicate resources 0)
  unfolding sum
  held_start = record { all_listed = refl; are = λ q l. get_or-replicate resources q 0 0 l }

  -- section m is not held
  pub held_skip : {m : ℕ} {u : List ℕ} → HeldTo p st m u → held_now p st m ≡ false → HeldTo p st (m + 1) u
  unfolding held_on held_now
  held_skip {m} {u} h e =
      record {
        all_listed = h.all_listed;
        are = λ q l. rw (sum_more, e, and-false (eqb (resource p.table m) q)) (omega (arith, h.are q l));
      }

  -- section m is held, and its resource counts one more
  pub held_more : {m : ℕ} {u : List ℕ} → HeldTo p st m u → held_now p st m ≡ true
      → resource p.table m < resources
      → HeldTo p st (m + 1) (set u (resource p.table m) (get_or u (resource p.table m) 0 + 1))
  unfolding held_on held_now
  held_more {m} {u} h e l =
      record {
        all_listed = rw length-set h.all_listed;
        are = λ q k.
            elim (ℕ_discrete q (resource p.table m)) [
              | yes z ↦
                  rw (sum_more, e, z, eq-eqb (resource p.table m) (resource p.table m) refl, get_or-set_same u (resource p.table m) (get_or u (resource p.table m) 0 + 1) 0 (omega (arith, h.all_listed)))
                  (omega (arith, h.are (resource p.table m) l))
              | no z ↦
                  rw (sum_more, e, ne_eqb (resource p.table m) q (λ w. z (sym w)), get_or-set_other u (resource p.table m) q (get_or u (resource p.table m) 0 + 1) 0 z)
                  (omega (arith, h.are q k))
            ];
      }

  -- no more units than sections
  pub held_few : {m : ℕ} {u : List ℕ} → HeldTo p st m u → (q : ℕ) → q < resources → get_or u q 0 ≤ m
  held_few {m} {u} h q l =
      omega (arith, h.are q l, sum_most (λ s. cond (held_on p st q s) 1 0) 1 m (λ k z. bit (held_on p st q k)))
    where
      bit : (b : Bool) → cond b 1 0 ≤ 1
      bit true = omega arith
      bit false = omega arith

-- ---- ceilings, section by section

module _ (p : Plan) (st : State) (u : List ℕ) (h : HeldTo p st (section_count p.table) u)
    (fit : (s : ℕ) → s < section_count p.table → resource p.table s < resources) where
  held-is : (q : ℕ) → q < resources → get_or u q 0 ≡ held p st q
  unfolding held
  held-is q l = h.are q l

  pub may_start_is : (j d : ℕ) → d ≡ span p j → all (clear_of p d u) (section_count p.table) ≡ may_start p st j
  unfolding clear_of
  may_start_is j d e =
      rw e
      (go
      (all_says _ _ _ (λ s. says_or (eq_says (get_or u (resource p.table s) 0) 0) (lt_says (span p j) (span p (owner p.table s)))) (section_count p.table))
      (may_says p st j))
    where
      go : {a b : Bool}
          → Says
          ((s : ℕ) → s < section_count p.table → (get_or u (resource p.table s) 0 ≡ 0) ⊎ (span p j < span p (owner p.table s)))
          ((s : ℕ) × (s < section_count p.table) × ((get_or u (resource p.table s) 0 ≢ 0) × (span p (owner p.table s) ≤ span p j)))
          a
          → Says
          ((q : ℕ) → q < resources → clears p (span p j) q (held p st q) ≡ true)
          ((q : ℕ) × (q < resources) × (clears p (span p j) q (held p st q) ≡ false))
          b
          → a ≡ b
      go (so x) (so y) = refl
      go (not_so x) (not_so y) = refl
      go (so x) (not_so (q, l, e)) =
          let (busy, w) = no_says (clears_says p (span p j) q (held p st q)) e in
          ⊎_elim
          (λ z. absurd (busy (sym (held-is q l) ∙ ap (λ k. get_or u k 0) (sym w.1.on) ∙ z)))
          (λ f. absurd (omega (arith, f, w.2)))
          (x w.0 w.1.listed)
      go (not_so (s, l, n)) (so y) =
          ⊎_elim
          (λ z. absurd (n.0 (held-is (resource p.table s) (fit s l) ∙ z)))
          (λ f. absurd (omega (arith, n.1, f s (record { listed = l; on = refl }))))
          (yes_says (clears_says p (span p j) (resource p.table s) (held p st (resource p.table s))) (y (resource p.table s) (fit s l)))

-- ---- the choice looks at neither arcs nor marks nor finishes

module _ (jobs arcs sections times : List ℕ) (t : ℕ) (e m f : List ℕ) where
  span_same : (o : Option ℕ) → span_of (plan jobs [] sections times) o ≡ span_of (plan jobs arcs sections times) o
  span_same None = refl
  span_same (Some s) = refl

  clears_same : (d q busy : ℕ) → clears (plan jobs [] sections times) d q busy ≡ clears (plan jobs arcs sections times) d q busy
  unfolding clears
  clears_same d q busy =
      ap (λ o. eqb busy 0 || below_ceiling d o) (span_same (tightest (plan jobs [] sections times) q))

  may_start_same : (j : ℕ) → may_start (plan jobs [] sections times) (at t e) j ≡ may_start (plan jobs arcs sections times) (state t e m f) j
  unfolding may_start
  may_start_same j =
      all_ext _ _ resources
      (λ q l. clears_same (span (plan jobs [] sections times) j) q (held (plan jobs [] sections times) (at t e) q))

  pub chosen_same : chosen (plan jobs [] sections times) (at t e) ≡ chosen (plan jobs arcs sections times) (state t e m f)
  unfolding chosen
  chosen_same = go (first_pending (plan jobs [] sections times) (at t e))
    where
      go : (o : Option ℕ) → choose (plan jobs [] sections times) (at t e) o ≡ choose (plan jobs arcs sections times) (state t e m f) o
      go None = refl
      go (Some j) = rw (may_start_same j)
