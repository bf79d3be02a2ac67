-- The number that a field writes: as it is read, and as it is written.
use Rattle.std.proofs.Common.{◌≡◌, ℕ, ◌+◌, ◌*◌, ◌^◌, ◌<◌, ◌≤◌, Bool, true, false, not, ◌&&◌, eqb, leb, List, [], ◌∷◌, length, get_or, drop, Some, None, decimal, Option, sym, refl, ap, ◌∙◌, inl, inr, arith, MatchOption}
use Rattle.std.specs.Bool.{then_some}
use Rattle.std.specs.Str.Parse.{digits_value, digits_value_after}
use Rattle.std.specs.Char.{is_ascii_digit, digit_value}
use Rattle.std.specs.Str.{all_ascii_digits}
use Rattle.std.proofs.lemmas.Fmt.{decimal-digits_value, decimal_digit, decimal_nonempty, decimal_is_IsNumeral, digits_decimal, first_decimal}
use Rattle.std.proofs.ByRecursion.{All-from_get_or}
use Rattle.std.proofs.lemmas.List.{at_drop_more, at_drop_all}
use Rattle.std.proofs.lemmas.Str.Parse.{IsNumeralModel, numerals_by_value, tells_all_ascii_digits, digit_at}
use Rattle.std.proofs.lemmas.Bool.{and_parts, eq-eqb, ne_eqb, and_right, le-leb, lt-leb, leb-true, not-true, cases_lt, both_ways}
use Rattle.std.proofs.lemmas.Bool.Decides.{nat_tests}
use Rattle.lines.specs.Fields.{Free}
use Rattle.lines.specs.Numbers.{plain, number_in}

-- the number that the digits ds write behind those of n, if it is at most `most`
abbrev pub read_on : ℕ → ℕ → List ℕ → Option ℕ
read_on most n ds = then_some (all_ascii_digits ds && leb (digits_value_after 10 n ds) most) (digits_value_after 10 n ds)

value_after_ge : (n : ℕ) (ds : List ℕ) → n ≤ digits_value_after 10 n ds
value_after_ge n [] = omega arith
value_after_ge n (c ∷ cs) = omega (arith, value_after_ge (n * 10 + digit_value c) cs)

-- one digit on, x being the byte that stands there
pub read_on_more : (most n i x d : ℕ) (f : List ℕ) → i < length f → x ≡ get_or f i 0 → digit_value x < 10 → d ≡ digit_value x →
    read_on most n (drop i f) ≡ read_on most (n * 10 + d) (drop (i + 1) f)
read_on_more most n i x d f h e low is =
    let digit : is_ascii_digit x ≡ true = grind (arith, nat_tests) in
    at_drop_more (read_on most n) f i 0 h ∙ rw (← e, digit, is)

-- and where it is no digit
pub read_on_other : (most n i x : ℕ) (f : List ℕ) → i < length f → x ≡ get_or f i 0 → (digit_value x < 10 → ⊥) → read_on most n (drop i f) ≡ None
read_on_other most n i x f h e high =
    let other : is_ascii_digit x ≡ false = grind (arith, nat_tests) in
    at_drop_more (read_on most n) f i 0 h ∙ rw (← e, other)

-- a value that has passed `most` does not come back
pub read_on_past : (most n : ℕ) (ds : List ℕ) → most < n → read_on most n ds ≡ None
read_on_past most n ds h =
    let e = lt-leb (digits_value_after 10 n ds) most (omega (arith, value_after_ge n ds)) in
    rw (and_right (all_ascii_digits ds) (leb (digits_value_after 10 n ds) most) e)

pub read_on_all : (most n i : ℕ) (f : List ℕ) → length f ≤ i → n ≤ most → read_on most n (drop i f) ≡ Some n
read_on_all most n i f h low = at_drop_all (read_on most n) f i h ∙ rw (le-leb n most low)

and_true : (b : Bool) → b ≡ (b && true)
and_true true = refl
and_true false = refl

-- where no 0 stands in front of others, digits are all that is asked
plain_is : (f : List ℕ) → 0 < length f → (1 < length f → get_or f 0 0 ≡ 48 → ⊥) → plain f ≡ all_ascii_digits f
plain_is [] some first = absurd (omega arith)
plain_is (c ∷ []) some first = and_true (is_ascii_digit c)
plain_is (c ∷ d ∷ ds) some first = rw (ne_eqb c 48 (first (omega arith)))

pub number_in_digits : (most : ℕ) (f : List ℕ) → 0 < length f → (1 < length f → get_or f 0 0 ≡ 48 → ⊥) → number_in most f ≡ read_on most 0 f
unfolding number_in
number_in_digits most f some first = rw (plain_is f some first)

pub number_in_empty : (most : ℕ) (f : List ℕ) → length f ≡ 0 → number_in most f ≡ None
unfolding number_in
number_in_empty most [] h = refl
number_in_empty most (c ∷ cs) h = absurd (omega arith)

pub number_in_zero : (most : ℕ) (f : List ℕ) → 1 < length f → get_or f 0 0 ≡ 48 → number_in most f ≡ None
unfolding number_in
number_in_zero most [] h z = absurd (omega arith)
number_in_zero most (c ∷ []) h z = absurd (omega arith)
number_in_zero most (c ∷ d ∷ ds) h z = rw (eq-eqb c 48 z)

record Plain (f : List ℕ) : Type 0 where
  digits : all_ascii_digits f ≡ true
  some : 0 < length f
  first : get_or f 0 0 ≡ 48 → length f ≡ 1

plain_parts : (f : List ℕ) → plain f ≡ true → Plain f
plain_parts [] h = absurd (both_ways false refl h)
plain_parts (c ∷ []) h = record { digits = sym (and_true (is_ascii_digit c)) ∙ h; some = omega arith; first = λ z. refl }
plain_parts (c ∷ d ∷ ds) h =
    let p = and_parts (not (eqb c 48)) (all_ascii_digits (c ∷ d ∷ ds)) h in
    record {
      digits = p.1;
      some = omega arith;
      first = λ z. absurd (both_ways (eqb c 48) (not-true (eqb c 48) p.0) (eq-eqb c 48 z));
    }

own : IsNumeralModel (λ ds. all_ascii_digits ds ≡ true) (digits_value 10)
own = numerals_by_value _ tells_all_ascii_digits

plain_decimal : (n : ℕ) → n < 2 ^ 64 → plain (decimal n) ≡ true
plain_decimal n small =
    plain_is (decimal n) (decimal_nonempty n small) (λ long zero. elim (cases_lt n 10) [
      | inl one ↦ omega (arith, ap length (decimal_digit n one))
      | inr more ↦ omega (arith, first_decimal n (omega arith) small)
    ]) ∙ digits_decimal own n small

pub number_in_decimal : (most n : ℕ) → n ≤ most → n < 2 ^ 64 → number_in most (decimal n) ≡ Some n
unfolding number_in
number_in_decimal most n h small = rw (plain_decimal n small, (decimal_is_IsNumeral n small).1, le-leb n most h)

then_some-cases : (b : Bool) (v n : ℕ) → then_some b v ≡ Some n → (b ≡ true) × (v ≡ n)
then_some-cases true v n e = (refl, cc)
then_some-cases false v n e = let z : ◌≡◌ {A = ℕ} 0 1 = cc in absurd (omega arith)

number_in_some : (most : ℕ) (f : List ℕ) (n : ℕ) → most < 2 ^ 64 → number_in most f ≡ Some n → (n ≤ most) × (f ≡ decimal n)
unfolding number_in
number_in_some most f n small e =
    let w = then_some-cases (plain f && leb (digits_value 10 f) most) (digits_value 10 f) n e in
    let p = and_parts (plain f) (leb (digits_value 10 f) most) w.0 in
    let q = plain_parts f p.0 in
    let low = leb-true (digits_value 10 f) most p.1 in
    (omega (arith, w.1), sym (decimal-digits_value own f q.digits q.some q.first (omega arith)) ∙ ap decimal w.1)

-- the law of numbers in fields
pub number_in_cases : (most : ℕ) (f : List ℕ) (r : Option ℕ) → most < 2 ^ 64 → r ≡ number_in most f →
    MatchOption r ((n : ℕ) → n ≤ most → f ≡ decimal n → ⊥) (λ n. (n ≤ most) × (f ≡ decimal n))
number_in_cases most f None small e = λ n h is.
    let read = number_in_decimal most n h (omega arith) in
    let z : ◌≡◌ {A = ℕ} 0 1 = cc in
    omega arith
number_in_cases most f (Some n) small e = number_in_some most f n small (sym e)

-- a decimal text is digits alone, so it has no comma and no byte 10
pub free_decimal : (b n : ℕ) → b < 48 → n < 2 ^ 64 → Free b (decimal n)
free_decimal b n low small =
    All-from_get_or (λ x. x ≡ b → ⊥) (decimal n) 0 (λ i h e. omega (arith, digit_at (decimal n) i (decimal_is_IsNumeral n small).0.1 h))
