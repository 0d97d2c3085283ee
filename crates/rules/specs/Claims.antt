-- Worked examples as one list: what the rules compute, and what is stated of it.
use Rattle.std.specs.Prelude.{◌≡◌, List, [], ◌∷◌}

-- The first is computed by the rules, the second is stated.
infix 4 ◌is◌
pub data Claim : Type 1 where
  ◌is◌ : {A : Type 0} → A → A → Claim

-- Every claim of the list holds.
abbrev pub AllHold : List Claim → Type 0
AllHold [] = Unit {0}
AllHold ((a is b) ∷ rest) = (a ≡ b) × AllHold rest

-- one claim, and the rest
infixr 3 ◌&◌
abbrev pub ◌&◌ : {A B : Type 0} → A → B → A × B
a & b = (a, b)
