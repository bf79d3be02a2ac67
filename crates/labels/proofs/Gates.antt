-- The bits of words, and the bits of words behind a test.
use Rattle.std.proofs.Common.{◌≡◌, ℕ, ◌-◌, ◌^◌, ◌<◌, Bool, true, false, not, ◌&&◌, ◌||◌, refl, ap, ◌∙◌}
use lib.Bits.{bit_and, bit_or}
use Rattle.std.proofs.lemmas.Bool.{lt-ltb}
use Rattle.bits.specs.Bit.{bit}
use Rattle.labels.specs.CutListsLemmas.{segment_lt}
use Rattle.bits.proofs.Words.{bit_zero, bit-bit_or, bit-bit_and, bit_not}

pub gate_zero : (t : Bool) (s : ℕ) → (t && bit 0 s) ≡ false
gate_zero true s = bit_zero s
gate_zero false s = refl

pub gate_or : (t : Bool) (a b s : ℕ) → (t && bit (bit_or a b) s) ≡ ((t && bit a s) || (t && bit b s))
gate_or true a b s = bit-bit_or a b s
gate_or false a b s = refl

pub gate_and : (t : Bool) (a b s : ℕ) → (t && bit (bit_and a b) s) ≡ ((t && bit a s) && (t && bit b s))
gate_and true a b s = bit-bit_and a b s
gate_and false a b s = refl

pub gate_not : (t : Bool) (a s : ℕ) → a < 2 ^ 64 → s < 64 → (t && bit (2 ^ 64 - 1 - a) s) ≡ (t && not (t && bit a s))
gate_not true a s h k = bit_not a s h ∙ ap (λ t. t && not (bit a s)) (lt-ltb s 64 k)
gate_not false a s h k = refl

pub ruleset word_bits = (bit_zero, bit-bit_or, bit-bit_and, bit_not)

pub ruleset gates = (gate_zero, gate_or, gate_and, gate_not, segment_lt)
