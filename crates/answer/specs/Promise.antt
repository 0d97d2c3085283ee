-- What `answer` promises for every text and every lent list: 01's program's output, or 11 and nothing written.
use Rattle.std.proofs.Math.Path.{◌≡◌}
use Rattle.std.specs.Prelude.{refl, Bool, List, ℕ, ◌≤◌, ◌<◌, Result, Ok, Err}
use Rattle.std.proofs.Common.{sym, ◌∙◌}
use Rattle.std.proofs.Math.Bool.{true}
use native.Mathlib.Omega.{arith}
use Rattle.std.proofs.Math.Dec.{leb}
use Rattle.std.proofs.Math.ListN.{length}
use borrow.Author.Tests.{le-leb, lt-leb}
use Rattle.rules.specs.Refusals.{Outcome, gives, and_then, unless, demand, room}
use Rattle.rules.specs.Output as rules
use Rattle.rules.specs.declared.Refusal.TheVariants.{Room}
use Rattle.rules.specs.declared.Refusal.{Refusal}
use Rattle.laws.specs.Answers.{said, said_settles}
use Rattle.laws.specs.Tests.{Says, so, not_so, le_says}
use Rattle.lines.specs.Put.{put}
use Rattle.lines.specs.Pieces.{put_front}
use Rattle.text.specs.Promises.{afterwards}

-- What is printed for a text, where there is room for all of it.
unfoldable pub answer_into : List ℕ → List ℕ → Outcome (List ℕ)
unfolding rules.answer
answer_into text out = unless (room (length (rules.answer text)) (length out)) (rules.answer text)

-- The text, the bytes as they are lent, as they are left, and the answer.
pub record Prints (text out out' : List ℕ) (r : Result ℕ Refusal) : Type 0 where
  pub answer : said r ≡ and_then (answer_into text out) (λ lines. gives (length lines))
  pub out_left : out' ≡ afterwards (answer_into text out) (λ lines. lines) out

-- Any two results of `answer` that its promise allows are equal: the answer and all of the bytes.
pub answer_settled : {text out out₁ out₂ : List ℕ} {r₁ r₂ : Result ℕ Refusal} → Prints text out out₁ r₁ → Prints text out out₂ r₂
    → (r₁ ≡ r₂) × (out₁ ≡ out₂)
answer_settled {r₁ = r₁} {r₂ = r₂} u v =
    (said_settles r₁ r₂ (u.answer ∙ sym v.answer), u.out_left ∙ sym v.out_left)

-- ---- laws for the code: the lines are put at the front, or there is no room

module _ (text out out' : List ℕ) where
  pub prints_short : length out < length (rules.answer text) → out' ≡ out → Prints text out out' (Err Room)
  unfolding answer_into
  prints_short h e =
      record { answer = rw (lt-leb (length (rules.answer text)) (length out) h) refl; out_left = rw (lt-leb (length (rules.answer text)) (length out) h) e }

  pub prints_whole : (n : ℕ) → n ≡ length (rules.answer text) → n ≤ length out → out' ≡ put out 0 (rules.answer text)
      → Prints text out out' (Ok n)
  unfolding answer_into
  prints_whole n q h l =
      let e : leb (length (rules.answer text)) (length out) ≡ true = le-leb (length (rules.answer text)) (length out) (omega arith) in
      record { answer = rw (e, q) refl; out_left = rw e (l ∙ put_front out (rules.answer text)) }

  -- what is written is within the lent bytes
  pub bytes_fit : (n : ℕ) → Prints text out out' (Ok n) → n ≤ length out
  unfolding answer_into
  bytes_fit n p = go (le_says (length (rules.answer text)) (length out)) p.answer
    where
      go : {b : Bool} → Says (length (rules.answer text) ≤ length out) (length out < length (rules.answer text)) b
          → gives n ≡ and_then (unless (demand b 11) (rules.answer text)) (λ lines. gives (length lines)) → n ≤ length out
      go (so h) e = let q : n ≡ length (rules.answer text) = cc in omega arith
      go (not_so h) e = let z : ◌≡◌ {A = ℕ} 0 1 = cc in absurd (omega arith)
