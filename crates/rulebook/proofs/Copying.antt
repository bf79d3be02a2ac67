-- Rows in another buffer. Assumes nothing.
use Rattle.std.proofs.Common.{◌≡◌, ℕ, ◌+◌, ◌*◌, ◌/◌, ◌%◌, ◌<◌, ◌≤◌, ◌&&◌, ltb, List, length, get_or, take, sym, ap, ◌∙◌, zero-add, inl, inr, arith}
use Rattle.std.proofs.lemmas.List.{get_or-take, length-take-le}
use Rattle.std.proofs.lemmas.Bool.{cases_lt, le-ltb}
use Rattle.bits.specs.Bit.{bit}
use Rattle.bits.specs.Matrix.{pair}
use Rattle.rulebook.specs.Reducing.{Copied}

-- a row is read off its four words
pub pair_agree : (a b : List ℕ) (p q : ℕ) → ((i : ℕ) → i < 4 * p + 4 → get_or a i 0 ≡ get_or b i 0) → pair a p q ≡ pair b p q
unfolding pair
pair_agree a b p q same = elim (cases_lt q 256) [
  | inl h ↦ ap (λ x. ltb q 256 && bit x (q % 64)) (same (4 * p + q / 64) (omega arith))
  | inr h ↦ rw (le-ltb q 256 h)
]

-- the first n words, written from the first place on
pub fronted : (n : ℕ) (rows new : List ℕ) → n ≤ length rows → ((i : ℕ) → i < length (take n rows) → get_or new (0 + i) 0 ≡ get_or (take n rows) i 0) → (i : ℕ) → i < n → get_or new i 0 ≡ get_or rows i 0
fronted n rows new long here i h = ap (λ m. get_or new m 0) (sym (zero-add i)) ∙ here i (omega (arith, length-take-le n rows long)) ∙ get_or-take n rows i 0 h

pub copied : (n : ℕ) (rows old new : List ℕ) → ((i : ℕ) → i < 4 * n → get_or new i 0 ≡ get_or rows i 0) → ((i : ℕ) → 4 * n ≤ i → get_or new i 0 ≡ get_or old i 0) → length new ≡ length old → Copied n (pair rows) old new
copied n rows old new front later long = record { pairs = λ p q h. pair_agree new rows p q (λ i k. front i (omega arith)); later = later; length = long }
