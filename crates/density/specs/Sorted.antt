-- Places by sorting: a sum over all jobs is the sum over the entries of a sorting, and what stands not after the k-th is the
-- first k.
use Rattle.std.specs.Prelude.{◌≡◌, refl, ◌≢◌, Bool, true, false, cond, not, ℕ, zero, suc, ◌+◌, ◌*◌, ◌-◌, ◌≤◌, ◌<◌, ltb, eqb, Option, None, Some}
use Rattle.std.proofs.Common.{sym, ◌∙◌, ap, ⊎_elim, arith}
use Rattle.std.proofs.Math.Decide.{ℕ_discrete, dec_lt}
use borrow.Author.Tests.{lt-ltb, le-ltb, eq-eqb, ne_eqb, not-true, not-false}
use Rattle.rules.specs.Rows.{count, sum, lowest}
use Rattle.rules.specs.Table.{Plan, span}
use Rattle.rules.specs.Density.{sorts_before}
use Rattle.laws.specs.Tests.{tested, clash, yes_of, no_says}
use Rattle.laws.specs.Rows.{sum_ext, sum_term, sum_but_one, sum-none, count-sum, Lowest, lowest-told}
use Rattle.sums.specs.Order.{Sooner, shorter, lower, sorts_says, sorts_order}

-- ---- sums

sum_plus : (f g : ℕ → ℕ) (n : ℕ) → sum (λ i. f i + g i) n ≡ sum f n + sum g n
unfolding sum
sum_plus f g zero = refl
sum_plus f g (suc n) = omega (arith, sum_plus f g n)

pub sum_scale : (t : ℕ) (f : ℕ → ℕ) (n : ℕ) → sum (λ i. t * f i) n ≡ t * sum f n
unfolding sum
sum_scale t f zero = omega arith
sum_scale t f (suc n) = omega (arith, sum_scale t f n)

sum_swap : (f : ℕ → ℕ → ℕ) (a b : ℕ) → sum (λ i. sum (f i) b) a ≡ sum (λ j. sum (λ i. f i j) a) b
unfolding sum
sum_swap f zero b = sym (sum-none (λ j. 0) b (λ k l. refl))
sum_swap f (suc a) b = rw (sum_swap f a b) (sym (sum_plus (λ j. sum (λ i. f i j) a) (f a) b))

-- one row alone counts
sum_one : (f : ℕ → ℕ) (n x : ℕ) → x < n → ((k : ℕ) → k < n → k ≢ x → f k ≡ 0) → sum f n ≡ f x
sum_one f n x l h =
    omega (
      arith,
      sum_term f n x l,
      sum_but_one f (λ k. 0) x n l (λ k q d. omega (arith, h k q d)),
      sum-none (λ k. 0) n (λ k q. refl),
    )

-- only the rows below k count
sum_front : (f g : ℕ → ℕ) (k n : ℕ) → k ≤ n → ((i : ℕ) → i < k → f i ≡ g i) → ((i : ℕ) → k ≤ i → i < n → f i ≡ 0) → sum f n ≡ sum g k
unfolding sum
sum_front f g k zero h p q = let e : k ≡ 0 = omega arith in rw e
sum_front f g k (suc n) h p q =
    elim (ℕ_discrete k (suc n)) [
      | yes e ↦ rw e (sum_ext f g (suc n) (λ i l. p i (omega arith)))
      | no d ↦ omega (arith, sum_front f g k n (omega arith) p (λ i a b. q i a (omega arith)), q n (omega arith) (omega arith))
    ]

sum_ones : (n : ℕ) → sum (λ i. 1) n ≡ n
unfolding sum
sum_ones zero = refl
sum_ones (suc n) = omega (arith, sum_ones n)

-- ---- a sorting

-- The n jobs by relative deadline, ties by number: `entry k` is a job for each k below n, each job is an entry, and every
-- entry stands before the later ones (so that no job is an entry twice).
pub record Sorting (p : Plan) (n : ℕ) (entry : ℕ → ℕ) : Type 0 where
  pub job : (k : ℕ) → k < n → entry k < n
  pub holds : (j : ℕ) → j < n → (k : ℕ) × (k < n) × (entry k ≡ j)
  pub rising : (i k : ℕ) → i < k → k < n → sorts_before p (entry i) (entry k) ≡ true

module _ (p : Plan) (n : ℕ) (entry : ℕ → ℕ) (S : Sorting p n entry) where
  -- an entry does not stand before itself or an earlier one
  falling : (i k : ℕ) → i ≤ k → k < n → sorts_before p (entry k) (entry i) ≡ false
  falling i k h l =
      elim (ℕ_discrete i k) [
        | yes e ↦ rw e ((sorts_order p).irrefl (entry k))
        | no d ↦ ⊎_elim
            (λ b. clash ((sorts_order p).trans (entry i) (entry k) (entry i) (S.rising i k (omega arith) l) b) ((sorts_order p).irrefl (entry i)))
            (λ b. b)
            (tested (sorts_before p (entry k) (entry i)))
      ]

  -- no job is an entry twice
  once : (i k : ℕ) → i < n → k < n → entry i ≡ entry k → i ≡ k
  once i k a b e =
      elim (dec_lt i k) [
        | yes h ↦ clash (S.rising i k h b) (rw e ((sorts_order p).irrefl (entry k)))
        | no g ↦ elim (dec_lt k i) [
          | yes h ↦ clash (S.rising k i h a) (rw e ((sorts_order p).irrefl (entry k)))
          | no h ↦ omega arith
        ]
      ]

  -- a sum over the jobs is the sum over the entries
  pub sum_entries : (f : ℕ → ℕ) → sum f n ≡ sum (λ i. f (entry i)) n
  sum_entries f =
      sum_ext f (λ j. sum (λ i. at i j) n) n (λ j l.
      let w = S.holds j l in
      sym
      (sum_one (λ i. at i j) n w.0 w.1 (λ i q d. rw (ne_eqb (entry i) j (λ e. d (once i w.0 q w.1 (e ∙ sym w.2)))))
      ∙ rw (eq-eqb (entry w.0) j w.2)))
      ∙ sym (sum_swap at n n)
      ∙ sum_ext (λ i. sum (at i) n) (λ i. f (entry i)) n (λ i l.
      sum_one (at i) n (entry i) (S.job i l) (λ j q d. rw (ne_eqb (entry i) j (λ e. d (sym e))))
      ∙ rw (eq-eqb (entry i) (entry i) refl))
    where
      at : ℕ → ℕ → ℕ
      at i j = cond (eqb (entry i) j) (f j) 0

  -- the sum over the jobs not after the k-th is the sum over the first k
  pub sum_first : (f : ℕ → ℕ) (k : ℕ) → k < n
      → sum (λ i. cond (not (sorts_before p (entry k) i)) (f i) 0) n ≡ sum (λ i. f (entry i)) (k + 1)
  sum_first f k l =
      sum_entries (λ i. cond (not (sorts_before p (entry k) i)) (f i) 0)
      ∙ sum_front
      (λ i. cond (not (sorts_before p (entry k) (entry i))) (f (entry i)) 0)
      (λ i. f (entry i))
      (k + 1)
      n
      (omega arith)
      (λ i q. rw (falling i k (omega arith) l))
      (λ i q r. rw (S.rising k i (omega arith) r))

  -- the k-th entry has k entries before it
  pub count-before : (k : ℕ) → k < n → count (λ i. sorts_before p i (entry k)) n ≡ k
  count-before k l =
      count-sum (λ i. sorts_before p i (entry k)) n
      ∙ sum_entries (λ i. cond (sorts_before p i (entry k)) 1 0)
      ∙ sum_front
      (λ i. cond (sorts_before p (entry i) (entry k)) 1 0)
      (λ i. 1)
      k
      n
      (omega arith)
      (λ i q. rw (S.rising i k q l))
      (λ i q r. rw (falling k i q r))
      ∙ sum_ones k

-- ---- there is one: each job is put in after the entries that stand before it

data Where (k c : ℕ) : Type 0 where
  below : k < c → Where k c
  at : k ≡ c → Where k c
  above : c < k → Where k c

where_is : (k c : ℕ) → Where k c
where_is k c = elim (dec_lt k c) [ yes h ↦ below h | no g ↦ elim (ℕ_discrete k c) [ yes e ↦ at e | no d ↦ above (omega arith) ] ]

module _ (entry : ℕ → ℕ) (n c : ℕ) where
  put : ℕ → ℕ
  put k = cond (ltb k c) (entry k) (cond (eqb k c) n (entry (k - 1)))

  put-below : (k : ℕ) → k < c → put k ≡ entry k
  unfolding put
  put-below k h = rw (lt-ltb k c h)

  put-at : (k : ℕ) → k ≡ c → put k ≡ n
  unfolding put
  put-at k e = rw (le-ltb k c (omega arith), eq-eqb k c e)

  put-above : (k : ℕ) → c < k → put k ≡ entry (k - 1)
  unfolding put
  put-above k h = rw (le-ltb k c (omega arith), ne_eqb k c (λ e. omega arith))

-- of two jobs the one with the lower number stands before the other, or else the other before it
sorts_other : (p : Plan) (i j : ℕ) → i < j → sorts_before p i j ≡ false → sorts_before p j i ≡ true
sorts_other p i j h e = yes_of (sorts_says p j i) (λ n. go n (no_says (sorts_says p i j) e))
  where
    go : (Sooner p j i → ⊥) → (Sooner p i j → ⊥) → ⊥
    go a b =
        elim (dec_lt (span p i) (span p j)) [
          | yes l ↦ b (shorter l)
          | no l ↦ elim (ℕ_discrete (span p i) (span p j)) [ yes q ↦ b (lower q h) | no q ↦ a (shorter (omega arith)) ]
        ]

-- job n belongs after the first c entries
record Cut (p : Plan) (n : ℕ) (entry : ℕ → ℕ) (c : ℕ) : Type 0 where
  within : c ≤ n
  front : (k : ℕ) → k < c → sorts_before p (entry k) n ≡ true
  back : (k : ℕ) → c ≤ k → k < n → sorts_before p n (entry k) ≡ true

cut_at : (p : Plan) (n : ℕ) (entry : ℕ → ℕ) → Sorting p n entry → (c : ℕ) × Cut p n entry c
cut_at p n entry S = go (lowest late n) (lowest-told late n)
  where
    late : ℕ → Bool
    late k = not (sorts_before p (entry k) n)

    go : (o : Option ℕ) → Lowest late n o → (c : ℕ) × Cut p n entry c
    go None h =
        (n, record { within = omega arith; front = λ k l. not-false _ (h k l); back = λ k a b. absurd (omega arith) })
    go (Some c) h =
        let first : sorts_before p n (entry c) ≡ true = sorts_other p (entry c) n (S.job c h.0) (not-true _ h.1) in (
          c,
          record {
            within = omega (arith, h.0);
            front = λ k l. not-false _ (h.2 k l);
            back = λ k a b.
                elim (ℕ_discrete c k) [
                  | yes e ↦ rw (← e) first
                  | no d ↦ (sorts_order p).trans n (entry c) (entry k) first (S.rising c k (omega arith) b)
                ];
          },
        )

module _ (p : Plan) (n : ℕ) (entry : ℕ → ℕ) (S : Sorting p n entry) (c : ℕ) (C : Cut p n entry c) where
  put_job : (k : ℕ) → k < suc n → Where k c → put entry n c k < suc n
  put_job k l (below h) = rw (put-below entry n c k h) (omega (arith, C.within, S.job k (omega (arith, C.within))))
  put_job k l (at e) = rw (put-at entry n c k e) (omega arith)
  put_job k l (above h) = rw (put-above entry n c k h) (omega (arith, S.job (k - 1) (omega arith)))

  put_holds : (j : ℕ) → j < suc n → (k : ℕ) × (k < suc n) × (put entry n c k ≡ j)
  put_holds j l =
      elim (ℕ_discrete j n) [
        | yes e ↦ (c, omega (arith, C.within), put-at entry n c c refl ∙ sym e)
        | no d ↦ let w = S.holds j (omega arith) in
            elim (dec_lt w.0 c) [
              | yes h ↦ (w.0, omega (arith, w.1), put-below entry n c w.0 h ∙ w.2)
              | no g ↦ (
                w.0 + 1,
                omega (arith, w.1),
                put-above entry n c (w.0 + 1) (omega arith) ∙ ap entry (omega arith) ∙ w.2,
              )
            ]
      ]

  put_rising : (i k : ℕ) → i < k → k < suc n → Where i c → Where k c → sorts_before p (put entry n c i) (put entry n c k) ≡ true
  put_rising i k h l (below a) (below b) =
      rw (put-below entry n c i a, put-below entry n c k b) (S.rising i k h (omega (arith, C.within)))
  put_rising i k h l (below a) (at b) = rw (put-below entry n c i a, put-at entry n c k b) (C.front i a)
  put_rising i k h l (below a) (above b) =
      rw (put-below entry n c i a, put-above entry n c k b) (S.rising i (k - 1) (omega arith) (omega arith))
  put_rising i k h l (at a) (below b) = absurd (omega arith)
  put_rising i k h l (at a) (at b) = absurd (omega arith)
  put_rising i k h l (at a) (above b) =
      rw (put-at entry n c i a, put-above entry n c k b) (C.back (k - 1) (omega arith) (omega arith))
  put_rising i k h l (above a) (below b) = absurd (omega arith)
  put_rising i k h l (above a) (at b) = absurd (omega arith)
  put_rising i k h l (above a) (above b) =
      rw (put-above entry n c i a, put-above entry n c k b) (S.rising (i - 1) (k - 1) (omega arith) (omega arith))

pub sorting_of : (p : Plan) (n : ℕ) → (entry : ℕ → ℕ) × Sorting p n entry
sorting_of p zero = (
  λ k. k,
  record {
    job = λ k l. absurd (omega arith);
    holds = λ j l. absurd (omega arith);
    rising = λ i k h l. absurd (omega arith);
  },
)
sorting_of p (suc n) =
    let (entry, S) = sorting_of p n in
    let (c, C) = cut_at p n entry S in (
      put entry n c,
      record {
        job = λ k l. put_job p n entry S c C k l (where_is k c);
        holds = put_holds p n entry S c C;
        rising = λ i k h l. put_rising p n entry S c C i k h l (where_is i c) (where_is k c);
      },
    )
