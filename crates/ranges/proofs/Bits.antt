-- The next bit of a word that is set, runs of bits, and how many there are.
use Rattle.std.proofs.Common.{◌≡◌, ℕ, zero, suc, ◌+◌, ◌-◌, ◌/◌, ◌%◌, ◌^◌, ◌<◌, ◌≤◌, true, false, cond, not, ◌&&◌, ltb, sym, refl, ap, ◌∙◌, subst, inl, inr, pow-suc, div-one, arith, Some, None, Option, MatchOption, unwrap_or}
use lib.Count.{ones, ones_step}
use Rattle.std.proofs.lemmas.Bool.{and_parts, both_ways, cases_lt, lt-ltb, not-false, not-true}
use Rattle.std.proofs.lemmas.Bool.Decides.{nat_tests}
use Rattle.bits.specs.Bit.{bit, Lowest}
use Rattle.bits.proofs.Words.{bit_none, bit_not, bit_right, bit_within}
use Rattle.ranges.specs.Counts.{counted}
use Rattle.ranges.specs.Runs.{Next, Run}
use Rattle.ranges.proofs.Counts.{counted_shift}

-- a bit of the word is one of the word moved down
moved : (word from k : ℕ) → word < 2 ^ 64 → from ≤ k → bit (word / 2 ^ from) (k - from) ≡ bit word k
moved word from k fits h =
    let e : k - from + from ≡ k = omega arith in
    bit_right word from (k - from) fits ∙ ap (bit word) e

pub next_set_is : (word from n : ℕ) → word < 2 ^ 64 → Lowest (word / 2 ^ from) n → Next (bit word) from (from + n)
next_set_is word from n fits l =
    let e : from + n - from ≡ n = omega arith in
    record {
      low = omega arith;
      before = λ k h m. sym (moved word from k fits h) ∙ l.under (k - from) (omega arith);
      here = sym (moved word from (from + n) fits (omega arith)) ∙ ap (bit (word / 2 ^ from)) e ∙ l.here;
    }

pub none_set : (word from : ℕ) → word < 2 ^ 64 → ((k : ℕ) → bit (word / 2 ^ from) k ≡ false) → (k : ℕ) → from ≤ k → bit word k ≡ false
none_set word from fits clear k h = sym (moved word from k fits h) ∙ clear (k - from)

-- the bits of a complement
set_where_clear : (p k : ℕ) → p < 2 ^ 64 → k < 64 → bit (2 ^ 64 - 1 - p) k ≡ false → bit p k ≡ true
set_where_clear p k fits h t = not-false (bit p k) (ap (λ b. b && not (bit p k)) (sym (lt-ltb k 64 h)) ∙ sym (bit_not p k fits) ∙ t)

clear_where_set : (p k : ℕ) → p < 2 ^ 64 → bit (2 ^ 64 - 1 - p) k ≡ true → bit p k ≡ false
clear_where_set p k fits t = not-true (bit p k) (and_parts (ltb k 64) (not (bit p k)) (sym (bit_not p k fits) ∙ t)).1

module _ (p from first : ℕ) (fits : p < 2 ^ 64) (set : Next (bit p) from first) where
  -- a run ends below the next bit that is clear, or at the last bit
  pub end_after : (o : Option ℕ) → MatchOption o ((k : ℕ) → first ≤ k → bit (2 ^ 64 - 1 - p) k ≡ false) (λ end. Next (bit (2 ^ 64 - 1 - p)) first end) → first < unwrap_or o 64
  end_after None clear = bit_within p first set.here
  end_after (Some end) clear = elim (cases_lt first end) [
    | inl l ↦ l
    | inr g ↦
        let same : first ≡ end = omega (arith, clear.low) in
        absurd (both_ways (bit p end) (clear_where_set p end fits clear.here) (subst (λ n. bit p n ≡ true) same set.here))
  ]

  pub run_to : (o : Option ℕ) → MatchOption o ((k : ℕ) → first ≤ k → bit (2 ^ 64 - 1 - p) k ≡ false) (λ end. Next (bit (2 ^ 64 - 1 - p)) first end) → Run (bit p) from first (unwrap_or o 64 - 1)
  run_to None clear =
      let within : first < 64 = bit_within p first set.here in
      record {
        low = set.low;
        order = omega arith;
        before = set.before;
        inside = λ k g h. set_where_clear p k fits (omega arith) (clear k g);
        after = bit_none p 64 (omega arith);
      }
  run_to (Some end) clear =
      let within : end < 64 = bit_within (2 ^ 64 - 1 - p) end clear.here in
      let later = end_after (Some end) clear in
      let e : end ≡ end - 1 + 1 = omega arith in
      record {
        low = set.low;
        order = omega arith;
        before = set.before;
        inside = λ k g h. set_where_clear p k fits (omega arith) (clear.before k g (omega arith));
        after = subst (λ n. bit p n ≡ false) e (clear_where_set p end fits clear.here);
      }

lowest_digit : (n : ℕ) → cond (bit n 0) 1 0 ≡ n % 2
unfolding bit
lowest_digit n = rw div-one (grind (arith, nat_tests))

-- the bits of a word that fits k bits
pub counted_bits : (k n : ℕ) → n < 2 ^ k → n < 2 ^ 64 → counted (bit n) k ≡ ones n
unfolding counted ones
counted_bits zero n h fits = let z : n ≡ 0 = omega arith in subst (λ m. 0 ≡ ones m) (sym z) refl
counted_bits (suc k) n h fits =
    counted_shift (bit n) (bit (n / 2)) k (λ j. sym (bit_right n 1 j fits))
    ∙ omega (arith, lowest_digit n, ones_step n, counted_bits k (n / 2) (omega (arith, pow-suc 2 k)) (omega arith))
