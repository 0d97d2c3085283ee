-- An answer of the code in 01's words. What is given is not refused, and a refusal is settled by its number and its place: no two of the
-- code's cases say the same.
use Rattle.std.specs.Prelude.{◌≡◌, refl, [], ◌∷◌, ℕ, get_or, Option, None, Some, Result, Ok, Err}
use Rattle.std.proofs.Common.{sym, ◌∙◌, ap, arith}
use Rattle.rules.specs.Refusals.{Fault, fault_of, Outcome, refused, gives}
use Rattle.rules.specs.declared.Refusal.{Refusal}
use Rattle.rules.specs.declared.Refusal.TheVariants.{
  Text,
  Jobs,
  Arcs,
  Sections,
  JobOut,
  ArcOut,
  SectionOut,
  Clash,
  Cycle,
  Window,
  Room,
  Bounds,
  Finished,
  Multiple,
}

-- what is given is not refused
pub not_both : {A B : Type 0} {a : A} {f : Fault} {o : Outcome A} → o ≡ gives a → o ≡ refused f → B
not_both p q = let z : ◌≡◌ {A = ℕ} 0 1 = cc in absurd (omega arith)

-- the case that a number and a place stand for
unfoldable pub refusal_of : Fault → Refusal
refusal_of f =
    let k = f.place in
    get_or
    (Room
    ∷ Text k
    ∷ Jobs k
    ∷ Arcs k
    ∷ Sections k
    ∷ JobOut k
    ∷ ArcOut k
    ∷ SectionOut k
    ∷ Clash k
    ∷ Cycle k
    ∷ Window k
    ∷ Room
    ∷ Bounds
    ∷ Finished
    ∷ Multiple
    ∷ [])
    f.number
    Room

pub refusal_back : (r : Refusal) → refusal_of (fault_of r) ≡ r
unfolding refusal_of
refusal_back (Text k) = refl
refusal_back (Jobs k) = refl
refusal_back (Arcs k) = refl
refusal_back (Sections k) = refl
refusal_back (JobOut k) = refl
refusal_back (ArcOut k) = refl
refusal_back (SectionOut k) = refl
refusal_back (Clash k) = refl
refusal_back (Cycle k) = refl
refusal_back (Window k) = refl
refusal_back Room = refl
refusal_back Bounds = refl
refusal_back Finished = refl
refusal_back Multiple = refl

pub fault_settles : (r s : Refusal) → fault_of r ≡ fault_of s → r ≡ s
fault_settles r s e = sym (refusal_back r) ∙ ap refusal_of e ∙ refusal_back s

-- ---- the code's answers

-- what is given, or why it is refused
abbrev pub said : {A : Type 0} → Result A Refusal → Outcome A
said (Ok a) = gives a
said (Err r) = refused (fault_of r)

-- what is said of an answer settles it
pub said_settles : {A : Type 0} (r s : Result A Refusal) → said r ≡ said s → r ≡ s
said_settles (Err a) (Err b) e = ap Err (fault_settles a b (cc))
said_settles (Err a) (Ok x) e = not_both e refl
said_settles (Ok x) (Err b) e = not_both refl e
said_settles (Ok x) (Ok y) e = ap Ok (cc)

-- why it is refused, if it is
abbrev pub fault_in : {A : Type 0} → Result A Refusal → Option Fault
fault_in (Ok a) = None
fault_in (Err r) = Some (fault_of r)

-- that settles the answer of a judgement
pub fault_in_settles : (a b : Result (Unit {0}) Refusal) → fault_in a ≡ fault_in b → a ≡ b
fault_in_settles (Ok u) (Ok v) e = refl
fault_in_settles (Ok u) (Err s) e = cc
fault_in_settles (Err r) (Ok v) e = cc
fault_in_settles (Err r) (Err s) e = let f : fault_of r ≡ fault_of s = cc in ap Err (fault_settles r s f)
