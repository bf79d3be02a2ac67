-- The bits of words under the operations on words.
use Rattle.std.proofs.Common.{◌≡◌, ℕ, suc, ◌+◌, ◌-◌, ◌*◌, ◌/◌, ◌%◌, ◌^◌, ◌<◌, ◌≤◌, min, max, Bool, true, false, not, ◌&&◌, ◌||◌, eqb, ltb, leb, sym, refl, ap, ◌∙◌, subst, inl, inr, le_trans, mul_assoc, add-mul, add_comm, pow-suc, arith, pow_pos, pow_mono, pow-add, shr-shr}
use native.Mathlib.Nat.{div-eq_of_lt, zero-div}
use lib.Bits.{bit_and, bit_or, bit_xor, and_step, or_step, xor_add_and, and_shr, or_shr, xor_shr}
use lib.Pow.{field, mod-mod-pow, split, high, shl-shr}
use Rattle.std.proofs.lemmas.Bool.Decides.{nat_tests}
use Rattle.std.proofs.lemmas.Nat.{shr_below, mod_below}
use Rattle.std.proofs.lemmas.Bool.{and_parts, and_right, cases_lt, ltb-true, lt-ltb, le-ltb, le-leb, lt-leb}
use Rattle.bits.specs.Bit.{bit}
use Rattle.bits.specs.Laws.{differs, WordLaws}

-- the digit at place k
abbrev digit : ℕ → ℕ → ℕ
digit a k = a / 2 ^ k % 2

digit_or : (a b k : ℕ) → digit (bit_or a b) k ≡ max (digit a k) (digit b k)
digit_or a b k = rw or_shr (omega (arith, or_step (a / 2 ^ k) (b / 2 ^ k)))

digit_and : (a b k : ℕ) → digit (bit_and a b) k ≡ min (digit a k) (digit b k)
digit_and a b k = rw and_shr (omega (arith, and_step (a / 2 ^ k) (b / 2 ^ k)))

digit_xor : (a b k : ℕ) → digit (bit_xor a b) k ≡ (digit a k + digit b k) % 2
digit_xor a b k = rw xor_shr (omega (arith, xor_add_and (a / 2 ^ k) (b / 2 ^ k)))

-- two digits as tests, behind a test
either_one : (t : Bool) (x y : ℕ) → x < 2 → y < 2 → (t && eqb (max x y) 1) ≡ ((t && eqb x 1) || (t && eqb y 1))
either_one true x y h k = grind (arith, nat_tests)
either_one false x y h k = refl

both_one : (t : Bool) (x y : ℕ) → x < 2 → y < 2 → (t && eqb (min x y) 1) ≡ ((t && eqb x 1) && (t && eqb y 1))
both_one true x y h k = grind (arith, nat_tests)
both_one false x y h k = refl

one_differs : (t : Bool) (x y : ℕ) → x < 2 → y < 2 → (t && eqb ((x + y) % 2) 1) ≡ differs (t && eqb x 1) (t && eqb y 1)
one_differs true x y h k = grind (arith, nat_tests)
one_differs false x y h k = refl

pub bit_zero : (k : ℕ) → bit 0 k ≡ false
unfolding bit
bit_zero k = rw zero-div (and_right (ltb k 64) false refl)

pub bit-bit_or : (a b k : ℕ) → bit (bit_or a b) k ≡ (bit a k || bit b k)
unfolding bit
bit-bit_or a b k = ap (λ n. ltb k 64 && eqb n 1) (digit_or a b k) ∙ either_one (ltb k 64) (digit a k) (digit b k) (omega arith) (omega arith)

pub bit-bit_and : (a b k : ℕ) → bit (bit_and a b) k ≡ (bit a k && bit b k)
unfolding bit
bit-bit_and a b k = ap (λ n. ltb k 64 && eqb n 1) (digit_and a b k) ∙ both_one (ltb k 64) (digit a k) (digit b k) (omega arith) (omega arith)

pub bit-bit_xor : (a b k : ℕ) → bit (bit_xor a b) k ≡ differs (bit a k) (bit b k)
unfolding bit
bit-bit_xor a b k = ap (λ n. ltb k 64 && eqb n 1) (digit_xor a b k) ∙ one_differs (ltb k 64) (digit a k) (digit b k) (omega arith) (omega arith)

-- the quotient of a complement
not_shr : (j k a : ℕ) → a < 2 ^ (j + k) → (2 ^ (j + k) - 1 - a) / 2 ^ k ≡ 2 ^ j - 1 - a / 2 ^ k
not_shr j k a h =
    let q : a / 2 ^ k < 2 ^ j = shr_below a j k h in
    let r : a % 2 ^ k < 2 ^ k = mod_below a (2 ^ k) (pow_pos k) in
    let whole : 2 ^ (j + k) - 1 - a ≡ (2 ^ j - 1 - a / 2 ^ k) * 2 ^ k + (2 ^ k - 1 - a % 2 ^ k) =
    omega (arith, split a k, pow-add 2 j k, add-mul (2 ^ j - 1 - a / 2 ^ k) (a / 2 ^ k + 1) (2 ^ k), add-mul (a / 2 ^ k) 1 (2 ^ k), ap (λ n. n * 2 ^ k) (over q)) in
    let low : 2 ^ k - 1 - a % 2 ^ k < 2 ^ k = omega arith in
    ap (λ n. n / 2 ^ k) whole ∙ high (2 ^ j - 1 - a / 2 ^ k) k low
  where
    over : {x y : ℕ} → x < y → (y - 1 - x) + (x + 1) ≡ y
    over h = omega arith

digit_not : (j k a : ℕ) → a < 2 ^ (suc j + k) → digit (2 ^ (suc j + k) - 1 - a) k ≡ 1 - digit a k
digit_not j k a h =
    let q : a / 2 ^ k < 2 ^ suc j = shr_below a (suc j) k h in
    ap (λ n. n % 2) (not_shr (suc j) k a h) ∙ omega (arith, pow-suc 2 j)

pub bit_not : (a k : ℕ) → a < 2 ^ 64 → bit (2 ^ 64 - 1 - a) k ≡ (ltb k 64 && not (bit a k))
unfolding bit
bit_not a k h = elim (cases_lt k 64) [
  | inl l ↦
      let e : suc (63 - k) + k ≡ 64 = omega arith in
      let d : digit (2 ^ 64 - 1 - a) k ≡ 1 - digit a k = subst (λ n. a < 2 ^ n → digit (2 ^ n - 1 - a) k ≡ 1 - digit a k) e (digit_not (63 - k) k a) h in
      rw (lt-ltb k 64 l, d) (flip (digit a k) (omega arith))
  | inr g ↦ rw le-ltb
]
  where
    flip : (x : ℕ) → x < 2 → eqb (1 - x) 1 ≡ not (eqb x 1)
    flip x l = grind (arith, nat_tests)

-- the low bits alone
digit_mod : (m a k : ℕ) → k < m → digit (a % 2 ^ m) k ≡ digit a k
digit_mod m a k h =
    let whole : m - k - 1 + 1 + k ≡ m = omega arith in
    ap (λ n. n % 2) (ap (λ n. a % 2 ^ n / 2 ^ k) (sym whole) ∙ field a (m - k - 1 + 1) k) ∙ mod-mod-pow (a / 2 ^ k) (m - k - 1) 1

pub bit_mod : (m a k : ℕ) → k < m → bit (a % 2 ^ m) k ≡ bit a k
unfolding bit
bit_mod m a k h = ap (λ n. ltb k 64 && eqb n 1) (digit_mod m a k h)

digit_left : (a j d : ℕ) → digit (a * 2 ^ j) (j + d) ≡ digit a d
digit_left a j d = ap (λ n. n % 2) (sym (shr-shr (a * 2 ^ j) j d) ∙ ap (λ n. n / 2 ^ d) (shl-shr a j))

digit_under : (a k d : ℕ) → digit (a * 2 ^ (suc d + k)) k ≡ 0
digit_under a k d =
    let e : a * 2 ^ (suc d + k) ≡ a * 2 ^ suc d * 2 ^ k = rw pow-add (omega (arith, mul_assoc a (2 ^ suc d) (2 ^ k))) in
    ap (λ n. n / 2 ^ k % 2) e ∙ ap (λ n. n % 2) (shl-shr (a * 2 ^ suc d) k) ∙ omega (arith, pow-suc 2 d, mul_assoc a (2 ^ d) 2, ap (λ n. a * n) (pow-suc 2 d))

pub bit_left : (a j k : ℕ) → bit ((a * 2 ^ j) % 2 ^ 64) k ≡ (ltb k 64 && (leb j k && bit a (k - j)))
unfolding bit
bit_left a j k = elim (cases_lt k 64) [
  | inl l ↦ elim (cases_lt k j) [
    | inl u ↦
        let e : suc (j - suc k) + k ≡ j = omega arith in
        let d : digit (a * 2 ^ j) k ≡ 0 = subst (λ n. digit (a * 2 ^ n) k ≡ 0) e (digit_under a k (j - suc k)) in
        rw (lt-ltb k 64 l, digit_mod 64 (a * 2 ^ j) k l, d, lt-leb j k u)
    | inr u ↦
        let e : j + (k - j) ≡ k = omega arith in
        let s : k - j < 64 = omega arith in
        let d : digit (a * 2 ^ j) k ≡ digit a (k - j) = subst (λ n. digit (a * 2 ^ j) n ≡ digit a (k - j)) e (digit_left a j (k - j)) in
        rw (lt-ltb k 64 l, digit_mod 64 (a * 2 ^ j) k l, d, le-leb j k u, lt-ltb (k - j) 64 s)
  ]
  | inr g ↦ rw le-ltb
]

-- a number that fits has no bit past its end
digit_past : (m a k : ℕ) → a < 2 ^ m → m ≤ k → digit a k ≡ 0
digit_past m a k h g =
    let top : 2 ^ m ≤ 2 ^ k = pow_mono g in
    ap (λ n. n % 2) (div-eq_of_lt (le_trans h top))

pub bit_past : (m a k : ℕ) → a < 2 ^ m → m ≤ k → bit a k ≡ false
unfolding bit
bit_past m a k h g = rw (digit_past m a k h g) (and_right (ltb k 64) false refl)

-- there is no bit past 63
pub bit_none : (a k : ℕ) → 64 ≤ k → bit a k ≡ false
unfolding bit
bit_none a k g = rw le-ltb

pub bit_within : (a k : ℕ) → bit a k ≡ true → k < 64
unfolding bit
bit_within a k t = ltb-true k 64 (and_parts (ltb k 64) (eqb (digit a k) 1) t).0

pub bit_right : (a j k : ℕ) → a < 2 ^ 64 → bit (a / 2 ^ j) k ≡ bit a (k + j)
unfolding bit
bit_right a j k h =
    let e : digit (a / 2 ^ j) k ≡ digit a (k + j) = ap (λ n. n % 2) (shr-shr a j k ∙ ap (λ n. a / 2 ^ n) (add_comm j k)) in
    elim (cases_lt (k + j) 64) [
      | inl l ↦ let m : k < 64 = omega arith in rw (e, lt-ltb k 64 m, lt-ltb (k + j) 64 l)
      | inr g ↦ rw (e, digit_past 64 a (k + j) h g, le-ltb (k + j) 64 g) (and_right (ltb k 64) false refl)
    ]

pub word_laws : WordLaws
word_laws = record {
  zeros = bit_zero;
  or = bit-bit_or;
  and = bit-bit_and;
  xor = bit-bit_xor;
  complement = bit_not;
  left = bit_left;
  right = bit_right;
}
