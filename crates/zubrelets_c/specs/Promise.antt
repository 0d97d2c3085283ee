-- What the entries promise in C: the same as below, the answer in C's form; and that this settles it.
use Rattle.std.specs.Prelude.{◌≡◌, Bool, List, ℕ}
use Rattle.std.proofs.Common.{sym, ◌∙◌, ap}
use Rattle.rules.specs.Table.{Table, Plan, State}
use Rattle.text.specs.Promises.{Reads, Writes}
use Rattle.text.specs.Theorems.{read_settled, write_settled}
use Rattle.plan.specs.Promise.{Plans}
use Rattle.plan.specs.Theorems.{plan_settled}
use Rattle.density.specs.Promise as density
use Rattle.density.specs.Theorems.{density_settled}
use Rattle.rules.specs.Lists.{state}
use Rattle.dispatch.specs.Promise.{Lists, Steps, Starts, Runs, Lateness}
use Rattle.dispatch.specs.Theorems.{step_settled, start_settled, run_settled, lateness_settled}
use Rattle.answer.specs.Promise.{Prints, answer_settled}
use Rattle.c_answers.specs.Answers.{counts_of, length_of, count_of, tick_of, stepped_of, late_of, verdict_of}
use Rattle.c_answers.specs.declared.ZubCounts.{ZubCounts}
use Rattle.c_answers.specs.declared.ZubLength.{ZubLength}
use Rattle.c_answers.specs.declared.ZubCount.{ZubCount}
use Rattle.c_answers.specs.declared.ZubTick.{ZubTick}
use Rattle.c_answers.specs.declared.ZubStepped.{ZubStepped}
use Rattle.c_answers.specs.declared.ZubLate.{ZubLate}
use Rattle.c_answers.specs.declared.ZubVerdict.{ZubVerdict}

-- An answer in C: the form in C of an answer that the entry's own promise allows.
abbrev pub InC : {A R : Type 0} → (A → Type 0) → (A → R) → R → Type 0
InC {A} promise form r = (a : A) × promise a × (r ≡ form a)

-- one answer has one form
one_form : {A R : Type 0} {a b : A} {r s : R} (form : A → R) → a ≡ b → r ≡ form a → s ≡ form b → r ≡ s
one_form form e x y = x ∙ ap form e ∙ sym y

pub zub_read_settled : {text j a s j₁ a₁ s₁ j₂ a₂ s₂ : List ℕ} {r₁ r₂ : ZubCounts}
    → InC (Reads text j a s j₁ a₁ s₁) counts_of r₁ → InC (Reads text j a s j₂ a₂ s₂) counts_of r₂
    → (r₁ ≡ r₂) × (j₁ ≡ j₂) × (a₁ ≡ a₂) × (s₁ ≡ s₂)
zub_read_settled u v =
    let w = read_settled u.1 v.1 in
    (one_form counts_of w.0 u.2 v.2, w.1, w.2, w.3)

pub zub_write_settled : {t : Table} {out out₁ out₂ : List ℕ} {r₁ r₂ : ZubLength}
    → InC (Writes t out out₁) length_of r₁ → InC (Writes t out out₂) length_of r₂ → (r₁ ≡ r₂) × (out₁ ≡ out₂)
zub_write_settled u v =
    let w = write_settled u.1 v.1 in
    (one_form length_of w.0 u.2 v.2, w.1)

pub zub_answer_settled : {text out out₁ out₂ : List ℕ} {r₁ r₂ : ZubLength}
    → InC (Prints text out out₁) length_of r₁ → InC (Prints text out out₂) length_of r₂ → (r₁ ≡ r₂) × (out₁ ≡ out₂)
zub_answer_settled u v =
    let w = answer_settled u.1 v.1 in
    (one_form length_of w.0 u.2 v.2, w.1)

pub zub_plan_settled : {t : Table} {lent l₁ l₂ : List ℕ} {r₁ r₂ : ZubCount}
    → InC (λ a. Plans t lent a l₁) count_of r₁ → InC (λ a. Plans t lent a l₂) count_of r₂ → (r₁ ≡ r₂) × (l₁ ≡ l₂)
zub_plan_settled u v =
    let w = plan_settled u.1 v.1 in
    (one_form count_of w.0 u.2 v.2, w.1)

pub zub_density_settled : {p : Plan} {r₁ r₂ : ZubVerdict}
    → InC (density.Answers p) verdict_of r₁ → InC (density.Answers p) verdict_of r₂ → r₁ ≡ r₂
zub_density_settled u v = one_form verdict_of (density_settled u.1 v.1) u.2 v.2

pub zub_start_settled : (p : Plan) (l l₁ l₂ : Lists) {r₁ r₂ : ZubTick}
    → InC (λ a. Starts p l a l₁) tick_of r₁ → InC (λ a. Starts p l a l₂) tick_of r₂ → (r₁ ≡ r₂) × (l₁ ≡ l₂)
zub_start_settled p l l₁ l₂ u v =
    let w = start_settled p l u.0 v.0 l₁ l₂ u.1 v.1 in
    (one_form tick_of w.0 u.2 v.2, w.1)

pub zub_run_settled : (p : Plan) (l l₁ l₂ : Lists) {r₁ r₂ : ZubTick}
    → InC (λ a. Runs p l a l₁) tick_of r₁ → InC (λ a. Runs p l a l₂) tick_of r₂ → (r₁ ≡ r₂) × (l₁ ≡ l₂)
zub_run_settled p l l₁ l₂ u v =
    let w = run_settled p l u.0 v.0 l₁ l₂ u.1 v.1 in
    (one_form tick_of w.0 u.2 v.2, w.1)

pub zub_step_settled : (p : Plan) (st : State) (silent : Bool) (e₁ m₁ f₁ e₂ m₂ f₂ : List ℕ) {r₁ r₂ : ZubStepped}
    → InC (λ a. Steps p st silent a (state a.tick e₁ m₁ f₁)) stepped_of r₁
    → InC (λ a. Steps p st silent a (state a.tick e₂ m₂ f₂)) stepped_of r₂
    → (r₁ ≡ r₂) × (e₁ ≡ e₂) × (m₁ ≡ m₂) × (f₁ ≡ f₂)
zub_step_settled p st silent e₁ m₁ f₁ e₂ m₂ f₂ u v =
    let w = step_settled p st silent u.0 v.0 e₁ m₁ f₁ e₂ m₂ f₂ u.1 v.1 in
    (one_form stepped_of w.0 u.2 v.2, w.1, w.2, w.3)

pub zub_lateness_settled : (p : Plan) (st : State) (j : ℕ) {r₁ r₂ : ZubLate}
    → InC (Lateness p st j) late_of r₁ → InC (Lateness p st j) late_of r₂ → r₁ ≡ r₂
zub_lateness_settled p st j u v = one_form late_of (lateness_settled p st j u.0 v.0 u.1 v.1) u.2 v.2
