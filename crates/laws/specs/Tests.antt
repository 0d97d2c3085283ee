-- Tests as facts: a test's value, with what each answer says. The rules compute with tests, the theorems speak in facts.
use Rattle.std.specs.Prelude.{◌≡◌, refl, ◌≢◌, ◌⊎◌, Bool, true, false, not, ◌&&◌, ◌||◌, ℕ, ◌≤◌, ◌<◌, leb, ltb, eqb}
use Rattle.std.proofs.Common.{inl, inr, arith, ltb-true, ltb-false, leb-true, leb-false, eqb-true}
use Rattle.std.proofs.lemmas.Bool.{eqb-false}

-- A holds and the test is true, or B holds and it is false.
pub data Says (A B : Type 0) : Bool → Type 0 where
  so : A → Says A B true
  not_so : B → Says A B false

pub tested : (b : Bool) → (b ≡ true) ⊎ (b ≡ false)
tested true = inl refl
tested false = inr refl

-- no test has both answers
pub clash : {A : Type 0} {b : Bool} → b ≡ true → b ≡ false → A
clash p q = let z : ◌≡◌ {A = ℕ} 0 1 = cc in absurd (omega arith)

pub says_of : {A B : Type 0} (c : Bool) → (c ≡ true → A) → (c ≡ false → B) → Says A B c
says_of true f g = so (f refl)
says_of false f g = not_so (g refl)

-- ---- tests on numbers

pub lt_says : (a b : ℕ) → Says (a < b) (b ≤ a) (ltb a b)
lt_says a b = says_of (ltb a b) (ltb-true a b) (ltb-false a b)

pub le_says : (a b : ℕ) → Says (a ≤ b) (b < a) (leb a b)
le_says a b = says_of (leb a b) (leb-true a b) (leb-false a b)

pub eq_says : (a b : ℕ) → Says (a ≡ b) (a ≢ b) (eqb a b)
eq_says a b = says_of (eqb a b) (eqb-true a b) (eqb-false a b)

pub bool_says : (b : Bool) → Says (b ≡ true) (b ≡ false) b
bool_says true = so refl
bool_says false = not_so refl

-- ---- tests joined

module _ {A B : Type 0} where
  pub says_map : {A₂ B₂ : Type 0} {c : Bool} → (A → A₂) → (B → B₂) → Says A B c → Says A₂ B₂ c
  says_map f g (so a) = so (f a)
  says_map f g (not_so b) = not_so (g b)

  pub says_not : {c : Bool} → Says A B c → Says B A (not c)
  says_not (so a) = not_so a
  says_not (not_so b) = so b

  pub says_and : {A₂ B₂ : Type 0} {c d : Bool} → Says A B c → Says A₂ B₂ d → Says (A × A₂) (B ⊎ B₂) (c && d)
  says_and (so a) (so b) = so (a, b)
  says_and (so a) (not_so b) = not_so (inr b)
  says_and (not_so a) w = not_so (inl a)

  pub says_or : {A₂ B₂ : Type 0} {c d : Bool} → Says A B c → Says A₂ B₂ d → Says (A ⊎ A₂) (B × B₂) (c || d)
  says_or (so a) w = so (inl a)
  says_or (not_so a) (so b) = so (inr b)
  says_or (not_so a) (not_so b) = not_so (a, b)

  -- ---- read off, by an equation

  pub yes_says : {c : Bool} → Says A B c → c ≡ true → A
  yes_says (so a) e = a
  yes_says (not_so b) e = clash e refl

  pub no_says : {c : Bool} → Says A B c → c ≡ false → B
  no_says (so a) e = clash refl e
  no_says (not_so b) e = b

  -- ---- the equation, from what rules the other answer out

  pub yes_of : {c : Bool} → Says A B c → (B → ⊥) → c ≡ true
  yes_of (so a) n = refl
  yes_of (not_so b) n = absurd (n b)

  pub no_of : {c : Bool} → Says A B c → (A → ⊥) → c ≡ false
  no_of (so a) n = absurd (n a)
  no_of (not_so b) n = refl

pub says_yes : {A : Type 0} {c : Bool} → Says A (A → ⊥) c → A → c ≡ true
says_yes w a = yes_of w (λ n. n a)

-- two tests whose facts follow from one another are equal
pub says_same : {A B : Type 0} {a b : Bool} → Says A (A → ⊥) a → Says B (B → ⊥) b → (A → B) → (B → A) → a ≡ b
says_same (so x) (so y) f g = refl
says_same (so x) (not_so n) f g = absurd (n (f x))
says_same (not_so n) (so y) f g = absurd (n (g y))
says_same (not_so n) (not_so m) f g = refl

-- two tests are equal where the facts of one exclude those of the other crosswise
pub says_agree : {A B A₂ B₂ : Type 0} {a b : Bool} → Says A B a → Says A₂ B₂ b → (A → B₂ → ⊥) → (B → A₂ → ⊥) → a ≡ b
says_agree (so x) (so y) f g = refl
says_agree (so x) (not_so y) f g = absurd (f x y)
says_agree (not_so x) (so y) f g = absurd (g x y)
says_agree (not_so x) (not_so y) f g = refl
