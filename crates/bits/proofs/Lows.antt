-- The lowest bit of a word, and its low bits.
use Rattle.std.proofs.Common.{◌≡◌, ℕ, zero, suc, ◌-◌, ◌*◌, ◌/◌, ◌%◌, ◌^◌, ◌<◌, ◌≤◌, true, false, ◌&&◌, eqb, ltb, sym, refl, ap, ◌∙◌, inl, inr, le_trans, mod-eq_of_lt, pow-suc, div-one, one-add, arith, pow_pos, pow_mono, shr-shr}
use lib.Bits.{bit_and, and_mask}
use lib.Count.{count_trailing_zeros, under}
use Rattle.std.proofs.lemmas.Nat.{mod_below, one_shl}
use Rattle.std.proofs.lemmas.Bool.{cases_lt, eqb-true, eqb-false, lt-ltb, le-ltb, not-true, not-false}
use Rattle.bits.specs.Bit.{bit, some_bit, Lowest}
use Rattle.bits.proofs.Words.{bit_zero, bit_mod, bit_none, bit_past}

up : (n t : ℕ) → n / 2 ^ suc t ≡ n / 2 / 2 ^ t
up n t = ap (λ k. n / 2 ^ k) (sym (one-add t)) ∙ sym (shr-shr n 1 t)

-- at the lowest digit that is 1: it is 1, and those below it are 0
record Trailing (n t : ℕ) : Type 0 where
  one : n / 2 ^ t % 2 ≡ 1
  zeros : (k : ℕ) → k < t → n / 2 ^ k % 2 ≡ 0

trailing_step : (k n d t : ℕ) → n % 2 ≡ d → d < 2 → (d ≡ 0 → (t < k) × Trailing (n / 2) t) → (under d t < suc k) × Trailing n (under d t)
trailing_step k n zero t e l r =
    let q = r refl in (
      omega (arith, q.0),
      record {
        one = ap (λ m. m % 2) (up n t) ∙ q.1.one;
        zeros = below q.1;
      },
    )
  where
    below : Trailing (n / 2) t → (j : ℕ) → j < suc t → n / 2 ^ j % 2 ≡ 0
    below q zero h = ap (λ m. m % 2) (div-one n) ∙ e
    below q (suc j) h = ap (λ m. m % 2) (up n j) ∙ q.zeros j (omega arith)
trailing_step k n (suc zero) t e l r = (omega arith, record { one = ap (λ m. m % 2) (div-one n) ∙ e; zeros = λ j h. absurd (omega arith) })
trailing_step k n (suc (suc d)) t e l r = absurd (omega arith)

trailing : (k n : ℕ) → 0 < n → n < 2 ^ k → (count_trailing_zeros k n < k) × Trailing n (count_trailing_zeros k n)
unfolding count_trailing_zeros
trailing zero n p h = absurd (omega arith)
trailing (suc k) n p h =
    trailing_step k n (n % 2) (count_trailing_zeros k (n / 2)) refl (omega arith)
    (λ e. trailing k (n / 2) (omega arith) (omega (arith, pow-suc 2 k)))

pub lowest_bit : (a : ℕ) → 0 < a → a < 2 ^ 64 → Lowest a (count_trailing_zeros 64 a)
unfolding bit
lowest_bit a p h =
    let t = trailing 64 a p h in
    let n = count_trailing_zeros 64 a in
    record {
      within = t.0;
      here = rw (lt-ltb n 64 t.0, t.1.one);
      under = λ k l. rw (lt-ltb k 64 (omega (arith, t.0)), t.1.zeros k l);
    }

-- a word of 64 bits has all the bits of a number
pub bit_cut : (a k : ℕ) → bit (a % 2 ^ 64) k ≡ bit a k
bit_cut a k = elim (cases_lt k 64) [ inl l ↦ bit_mod 64 a k l | inr g ↦ bit_none (a % 2 ^ 64) k g ∙ sym (bit_none a k g) ]

-- some bit is set exactly where the test says so
pub some_bit_at : (a : ℕ) → some_bit a ≡ true → (k : ℕ) × (bit a k ≡ true)
some_bit_at a t =
    let z = eqb-false (a % 2 ^ 64) 0 (not-true (eqb (a % 2 ^ 64) 0) t) in
    let low = mod_below a (2 ^ 64) (pow_pos 64) in
    let s = lowest_bit (a % 2 ^ 64) (positive (a % 2 ^ 64) z) low in
    (count_trailing_zeros 64 (a % 2 ^ 64), sym (bit_cut a (count_trailing_zeros 64 (a % 2 ^ 64))) ∙ s.here)
  where
    positive : (n : ℕ) → (n ≡ 0 → ⊥) → 0 < n
    positive zero ne = absurd (ne refl)
    positive (suc n) ne = omega arith

pub no_bit : (a : ℕ) → some_bit a ≡ false → (k : ℕ) → bit a k ≡ false
no_bit a t k =
    let z : a % 2 ^ 64 ≡ 0 = eqb-true (a % 2 ^ 64) 0 (not-false (eqb (a % 2 ^ 64) 0) t) in
    sym (bit_cut a k) ∙ ap (λ n. bit n k) z ∙ bit_zero k

-- `(1 << n) - 1` keeps the bits below n
pub low_mask : (a n : ℕ) → n < 64 → bit_and a ((1 * 2 ^ n) % 2 ^ 64 - 1) ≡ a % 2 ^ n
low_mask a n h = rw (one_shl n 64 h) (and_mask a n)

-- the bits below n, and no other
pub bit_low : (n a k : ℕ) → bit (a % 2 ^ n) k ≡ (ltb k n && bit a k)
bit_low n a k = elim (cases_lt k n) [
  | inl l ↦ rw (bit_mod n a k l, lt-ltb k n l)
  | inr g ↦ rw (bit_past n (a % 2 ^ n) k (mod_below a (2 ^ n) (pow_pos n)) g, le-ltb k n g)
]

-- a word is its low bits where 64 of them count
pub word_mod : (a n : ℕ) → a < 2 ^ 64 → 64 ≤ n → a ≡ a % 2 ^ n
word_mod a n h g =
    let top : 2 ^ 64 ≤ 2 ^ n = pow_mono g in
    sym (mod-eq_of_lt (le_trans h top))
