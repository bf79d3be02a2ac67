-- Hexadecimal texts, and what is read from them.
use Rattle.std.specs.Prelude.{◌≡◌, ℕ, zero, suc, ◌+◌, ◌-◌, ◌*◌, ◌/◌, ◌%◌, ◌^◌, ◌<◌, ◌≤◌, List, [], ◌∷◌, ◌++◌, length, take, drop, set, Some, None, Option, slice_index, slice_set, refl}
use Rattle.std.proofs.Common.{sym, ap, ap₂, subst, ◌∙◌, add-mul, mul-one, mul_assoc, mul-le-mul_right, mod-eq_of_lt, arith, pow-add, pow_mono}
use Rattle.std.proofs.Math.Nat.{mod-one}
use Rattle.std.proofs.lemmas.Nat.{mod-pow-add}
use Rattle.std.proofs.Math.Pow.{mod-mod-pow, field, high, low}
use Rattle.std.proofs.lemmas.List.{drop_more, take_more, length-take-le, set_at, append_assoc}
use Rattle.std.proofs.lemmas.Bool.Decides.{nat_tests}
use Rattle.written.specs.Hex.{hex_digit, hexes, hex_value, hex_read}

pub length-hexes : (n word : ℕ) → length (hexes n word) ≡ n
unfolding hexes
length-hexes zero word = refl
length-hexes (suc n) word = ap suc (length-hexes n word)

pub get_or-hexes : (n word i : ℕ) → i < n → slice_index (hexes n word) i ≡ hex_digit (word / 2 ^ (4 * (n - 1 - i)) % 16)
unfolding hexes
get_or-hexes zero word i h = absurd (omega arith)
get_or-hexes (suc n) word zero h = ap (λ k. hex_digit (word / 2 ^ (4 * k) % 16)) (omega arith)
get_or-hexes (suc n) word (suc i) h = get_or-hexes n word i (omega arith) ∙ ap (λ k. hex_digit (word / 2 ^ (4 * k) % 16)) (omega arith)

hex_value-digit : (d : ℕ) → d < 16 → hex_value (hex_digit d) ≡ Some d
hex_value-digit d h = grind (arith, nat_tests)

digit_from_value : (b d : ℕ) → hex_value b ≡ Some d → (d < 16) × (b ≡ hex_digit d)
digit_from_value b d e = (grind (arith, nat_tests), grind (arith, nat_tests))

four : (n : ℕ) → 4 * suc n ≡ 4 + 4 * n
four n = omega arith

-- the digits of a number depend on its low part alone
hexes_low : (n p q : ℕ) → p % 2 ^ (4 * n) ≡ q % 2 ^ (4 * n) → hexes n p ≡ hexes n q
unfolding hexes
hexes_low zero p q e = refl
hexes_low (suc n) p q e = ap₂ (λ d ds. hex_digit d ∷ ds) top (hexes_low n p q low)
  where
    whole : p % 2 ^ (4 + 4 * n) ≡ q % 2 ^ (4 + 4 * n)
    whole = subst (λ k. p % 2 ^ k ≡ q % 2 ^ k) (four n) e

    top : p / 2 ^ (4 * n) % 16 ≡ q / 2 ^ (4 * n) % 16
    top = sym (field p 4 (4 * n)) ∙ ap (λ m. m / 2 ^ (4 * n)) whole ∙ field q 4 (4 * n)

    low : p % 2 ^ (4 * n) ≡ q % 2 ^ (4 * n)
    low = sym (mod-mod-pow p 4 (4 * n)) ∙ ap (λ m. m % 2 ^ (4 * n)) whole ∙ mod-mod-pow q 4 (4 * n)

-- one digit more, or a byte that is none
read_some : (n before b d : ℕ) (bytes : List ℕ) → hex_value b ≡ Some d → hex_read (suc n) before (b ∷ bytes) ≡ hex_read n (before * 16 + d) bytes
unfolding hex_read
read_some n before b d bytes e = ap (λ (o : Option ℕ). elim o [ Some x ↦ hex_read n (before * 16 + x) bytes | None ↦ None ]) e

read_none : (n before b : ℕ) (bytes : List ℕ) → hex_value b ≡ None → hex_read (suc n) before (b ∷ bytes) ≡ None
unfolding hex_read
read_none n before b bytes e = ap (λ (o : Option ℕ). elim o [ Some x ↦ hex_read n (before * 16 + x) bytes | None ↦ None ]) e

-- what is written is read
pub read_hexes : (n before word : ℕ) (rest : List ℕ) → hex_read n before (hexes n word ++ rest) ≡ Some (before * 2 ^ (4 * n) + word % 2 ^ (4 * n))
unfolding hexes hex_read
read_hexes zero before word rest = ap Some (omega (arith, mod-one word, mul-one before))
read_hexes (suc n) before word rest =
    let d = word / 2 ^ (4 * n) % 16 in
    read_some n before (hex_digit d) d (hexes n word ++ rest) (hex_value-digit d (omega arith)) ∙ read_hexes n (before * 16 + d) word rest ∙ ap Some same
  where
    same : (before * 16 + word / 2 ^ (4 * n) % 16) * 2 ^ (4 * n) + word % 2 ^ (4 * n) ≡ before * 2 ^ (4 * suc n) + word % 2 ^ (4 * suc n)
    same = subst (λ k. (before * 16 + word / 2 ^ (4 * n) % 16) * 2 ^ (4 * n) + word % 2 ^ (4 * n) ≡ before * 2 ^ k + word % 2 ^ k) (sym (four n))
        (omega (arith, mod-pow-add word 4 (4 * n), pow-add 2 4 (4 * n), add-mul (before * 16) (word / 2 ^ (4 * n) % 16) (2 ^ (4 * n)), mul_assoc before 16 (2 ^ (4 * n)), ap (λ m. before * m) (pow-add 2 4 (4 * n))))

-- what is read was written
pub record Digits (n before : ℕ) (bytes : List ℕ) (v : ℕ) : Type 0 where
  pub low : ℕ
  pub small : low < 2 ^ (4 * n)
  pub value : v ≡ before * 2 ^ (4 * n) + low
  pub front : bytes ≡ hexes n low ++ drop n bytes

digits_more : (n before b d : ℕ) (bytes : List ℕ) (v : ℕ) → (d < 16) × (b ≡ hex_digit d) → Digits n (before * 16 + d) bytes v → Digits (suc n) before (b ∷ bytes) v
unfolding hexes
digits_more n before b d bytes v digit is =
    let k = 4 * n in
    let r = d * 2 ^ k + is.low in
    let top : r / 2 ^ k % 16 ≡ d = ap (λ m. m % 16) (high d k is.small) ∙ mod-eq_of_lt digit.0 in
    let same : hexes n r ≡ hexes n is.low = hexes_low n r is.low (low d k is.small ∙ sym (mod-eq_of_lt is.small)) in
    let power : 2 ^ (4 * suc n) ≡ 16 * 2 ^ k = ap (λ m. 2 ^ m) (four n) ∙ pow-add 2 4 k in
    record {
      low = r;
      small = subst (λ m. r < m) (sym power) (below d is.low (2 ^ k) digit.0 is.small);
      value = is.value ∙ subst (λ m. (before * 16 + d) * 2 ^ k + is.low ≡ before * m + r) (sym power)
          (omega (arith, add-mul (before * 16) d (2 ^ k), mul_assoc before 16 (2 ^ k)));
      front = ap₂ ◌∷◌ (digit.1 ∙ ap hex_digit (sym top)) (is.front ∙ ap (λ ds. ds ++ drop n bytes) (sym same));
    }
  where
    below : (d l m : ℕ) → d < 16 → l < m → d * m + l < 16 * m
    below d l m h k = let up : suc d * m ≤ 16 * m = mul-le-mul_right m h in omega (arith, add-mul 1 d m)

pub hexes_read : (n before : ℕ) (bytes : List ℕ) (v : ℕ) → hex_read n before bytes ≡ Some v → Digits n before bytes v
unfolding hexes hex_read
hexes_read zero before bytes v e = record { low = 0; small = omega arith; value = let q : before ≡ v = cc in omega (arith, mul-one before); front = refl }
hexes_read (suc n) before [] v e = let z : ◌≡◌ {A = ℕ} 0 1 = cc in absurd (omega arith)
hexes_read (suc n) before (b ∷ bytes) v e = by (hex_value b) refl (λ d. hexes_read n (before * 16 + d) bytes v)
  where
    by : (o : Option ℕ) → hex_value b ≡ o → ((d : ℕ) → hex_read n (before * 16 + d) bytes ≡ Some v → Digits n (before * 16 + d) bytes v) → Digits (suc n) before (b ∷ bytes) v
    by None h rest = let z : ◌≡◌ {A = ℕ} 0 1 = cc (read_none n before b bytes h) in absurd (omega arith)
    by (Some d) h rest = digits_more n before b d bytes v (digit_from_value b d h) (rest d (sym (read_some n before b d bytes h) ∙ e))

pub read_short : (n before : ℕ) (bytes : List ℕ) → length bytes < n → hex_read n before bytes ≡ None
unfolding hex_read
read_short zero before bytes h = absurd (omega arith)
read_short (suc n) before [] h = refl
read_short (suc n) before (b ∷ bytes) h = by (hex_value b) refl (λ d. read_short n (before * 16 + d) bytes (omega arith))
  where
    by : (o : Option ℕ) → hex_value b ≡ o → ((d : ℕ) → hex_read n (before * 16 + d) bytes ≡ None) → hex_read (suc n) before (b ∷ bytes) ≡ None
    by None e rest = read_none n before b bytes e
    by (Some d) e rest = read_some n before b d bytes e ∙ rest d

-- the loop that reads
pub read_more : (i word d : ℕ) (bytes : List ℕ) → i < 16 → i < length bytes → hex_value (slice_index bytes i) ≡ Some d
    → hex_read (16 - i) word (drop i bytes) ≡ hex_read (16 - (i + 1)) (word * 16 + d) (drop (i + 1) bytes)
read_more i word d bytes h l e =
    let n : 16 - i ≡ suc (16 - (i + 1)) = omega arith in
    ap₂ (λ k bs. hex_read k word bs) n (drop_more bytes i 0 l) ∙ read_some (16 - (i + 1)) word (slice_index bytes i) d (drop (i + 1) bytes) e

pub read_stop : (i word : ℕ) (bytes : List ℕ) → i < 16 → i < length bytes → hex_value (slice_index bytes i) ≡ None → hex_read (16 - i) word (drop i bytes) ≡ None
read_stop i word bytes h l e =
    let n : 16 - i ≡ suc (16 - (i + 1)) = omega arith in
    ap₂ (λ k bs. hex_read k word bs) n (drop_more bytes i 0 l) ∙ read_none (16 - (i + 1)) word (slice_index bytes i) (drop (i + 1) bytes) e

pub read_all : (i word : ℕ) (bytes : List ℕ) → 16 ≤ i → hex_read (16 - i) word bytes ≡ Some word
unfolding hex_read
read_all i word bytes h = let n : 16 - i ≡ 0 = omega arith in rw n

-- a digit more fits
pub digits_fit : (i word d : ℕ) → word < 2 ^ (4 * i) → d < 16 → word * 16 + d < 2 ^ (4 * (i + 1))
digits_fit i word d h k =
    let e : 4 * (i + 1) ≡ 4 * i + 4 = omega arith in
    subst (λ n. word * 16 + d < 2 ^ n) (sym e) (omega (arith, pow-add 2 (4 * i) 4))

pub word_fits : (i word d : ℕ) → i < 16 → word < 2 ^ (4 * i) → d < 16 → word * 16 + d < 2 ^ 64
word_fits i word d l h k =
    let m : 4 * i ≤ 60 = omega arith in
    let top : 2 ^ (4 * i) ≤ 2 ^ 60 = pow_mono m in
    omega arith

pub value_below : (b d : ℕ) → hex_value b ≡ Some d → d < 16
value_below b d e = (digit_from_value b d e).0

-- the loop that writes: one byte more of a text over the front of a buffer
pub put_more : (text was : List ℕ) (i b : ℕ) → i < length text → i < length was → b ≡ slice_index text i
    → slice_set (take i text ++ drop i was) i b ≡ take (i + 1) text ++ drop (i + 1) was
put_more text was i b h l e =
    ap (λ bs. set (take i text ++ bs) i b) (drop_more was i 0 l)
    ∙ set_at (take i text) (slice_index was i) (drop (i + 1) was) b i (length-take-le i text (omega arith))
    ∙ ap (λ x. take i text ++ (x ∷ drop (i + 1) was)) e
    ∙ sym (append_assoc (take i text) (slice_index text i ∷ []) (drop (i + 1) was))
    ∙ ap (λ bs. bs ++ drop (i + 1) was) (sym (take_more text i 0 h))

pub ruleset hex_lengths = (length-hexes)
