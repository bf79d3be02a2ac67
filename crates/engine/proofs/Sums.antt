-- Sums and counts over the numbers below a bound, and how many pairs there are. Assumes nothing.
use Rattle.std.proofs.Common.{◌≡◌, ℕ, zero, suc, ◌+◌, ◌*◌, ◌<◌, ◌≤◌, Bool, true, false, cond, sym, ◌∙◌, refl, ap, inl, inr, add-one, add-zero, zero-add, arith}
use Rattle.std.specs.List.{sum_by, range_with_len}
use Rattle.std.proofs.lemmas.List.Sums.{sum_by-cons}
use Rattle.std.proofs.lemmas.Bool.{cases_eq}
use Rattle.automata.specs.Below.{sum_to, count, pairs}
use Rattle.automata.proofs.Below.{count_most}

pub sum_none : (f : ℕ → ℕ) → 0 ≡ sum_to f 0
unfolding sum_to
sum_none f = refl

pub sum_more : (f : ℕ → ℕ) (a b n : ℕ) → a ≡ sum_to f n → b ≡ f n → a + b ≡ sum_to f (n + 1)
unfolding sum_to
sum_more f a b n e d = rw add-one (omega arith)

sum_same : (f g : ℕ → ℕ) (n : ℕ) → ((k : ℕ) → k < n → f k ≡ g k) → sum_to f n ≡ sum_to g n
unfolding sum_to
sum_same f g zero same = refl
sum_same f g (suc n) same = omega (arith, sum_same f g n (λ k h. same k (omega arith)), same n (omega arith))

-- f is g but at p, where it is one less
pub sum_less : (f g : ℕ → ℕ) (n p : ℕ) → p < n → f p + 1 ≡ g p → ((k : ℕ) → (k ≡ p → ⊥) → f k ≡ g k) → sum_to f n + 1 ≡ sum_to g n
unfolding sum_to
sum_less f g zero p h here others = omega arith
sum_less f g (suc n) p h here others = elim (cases_eq n p) [
  | inl e ↦ omega (arith, sum_same f g n (λ k l. others k (omega arith)), ap f e, ap g e)
  | inr ne ↦ omega (arith, sum_less f g n p (omega arith) here others, others n ne)
]

pub pairs_less : (F G : ℕ → ℕ → Bool) (n p q : ℕ) → p < n → q < n → F p q ≡ false → G p q ≡ true
    → ((i j : ℕ) → (i ≡ p → j ≡ q → ⊥) → F i j ≡ G i j) → pairs F n + 1 ≡ pairs G n
unfolding pairs
pairs_less F G n p q hp hq f g others =
    sum_less (λ i. count (F i) n) (λ i. count (G i) n) n p hp
    (sum_less (λ j. cond (F p j) 1 0) (λ j. cond (G p j) 1 0) n q hq (rw (f, g)) (λ j ne. ap (λ b. cond b 1 0) (others p j (λ _. ne))))
    (λ i ne. sum_same (λ j. cond (F i j) 1 0) (λ j. cond (G i j) 1 0) n (λ j _. ap (λ b. cond b 1 0) (others i j (λ e _. ne e))))

pub sum_most : (f : ℕ → ℕ) (n : ℕ) → ((k : ℕ) → f k ≤ 256) → sum_to f n ≤ 256 * n
unfolding sum_to
sum_most f zero each = omega arith
sum_most f (suc n) each = omega (arith, sum_most f n each, each n)

pub pairs_most : (R : ℕ → ℕ → Bool) (n : ℕ) → n ≤ 256 → pairs R n ≤ 65536
unfolding pairs
pairs_most R n h = omega (arith, sum_most (λ p. count (R p) n) n (λ p. omega (arith, count_most (R p) n)))

pub count_none : (f : ℕ → Bool) (n : ℕ) → ((k : ℕ) → f k ≡ false) → 0 ≡ count f n
unfolding sum_to
count_none f zero each = refl
count_none f (suc n) each = rw (each n) (omega (arith, count_none f n each))

-- more numbers, no fewer that pass
pub count_up : (f : ℕ → Bool) (m n : ℕ) → m ≤ n → count f m ≤ count f n
unfolding sum_to
count_up f m zero h = let e : m ≡ 0 = omega arith in rw e (omega arith)
count_up f m (suc n) h = elim (cases_eq m (suc n)) [
  | inl e ↦ rw e (omega arith)
  | inr ne ↦ omega (arith, count_up f m n (omega arith))
]

-- two tests that never pass together
pub count_both : (f g h : ℕ → Bool) (n : ℕ) → ((k : ℕ) → cond (f k) 1 0 + cond (g k) 1 0 ≡ cond (h k) 1 0) → count f n + count g n ≡ count h n
unfolding sum_to
count_both f g h zero each = refl
count_both f g h (suc n) each = omega (arith, count_both f g h n each, each n)

-- the same sums over the numbers as a list
sum_from : (f : ℕ → ℕ) (a n : ℕ) → sum_to f a + sum_by f (range_with_len a n) ≡ sum_to f (a + n)
unfolding sum_to
sum_from f a zero = let e : a + 0 ≡ a = omega arith in rw (e, add-zero) refl
sum_from f a (suc n) =
    let next : sum_to f (a + 1) ≡ sum_to f a + f a = rw add-one refl in
    let rest : sum_to f a + sum_by f (range_with_len a (suc n)) ≡ sum_to f (a + 1 + n) = omega (arith, next, sum_by-cons f a (range_with_len (a + 1) n), sum_from f (a + 1) n) in
    let e : a + 1 + n ≡ a + suc n = omega arith in
    rest ∙ ap (sum_to f) e

pub sum_range : (f : ℕ → ℕ) (n : ℕ) → sum_by f (range_with_len 0 n) ≡ sum_to f n
unfolding sum_to
sum_range f n = sym (zero-add (sum_by f (range_with_len 0 n))) ∙ sum_from f 0 n ∙ ap (sum_to f) (zero-add n)
