-- Words as hexadecimal digits 0-9 and a-f, the highest first.
use Rattle.std.specs.Prelude.{ℕ, zero, suc, ◌+◌, ◌-◌, ◌*◌, ◌/◌, ◌%◌, ◌^◌, cond, ◌&&◌, List, [], ◌∷◌, Some, None, Option, nat_le, nat_lt}

-- the byte of a digit below 16
abbrev pub hex_digit : ℕ → ℕ
hex_digit d = cond (nat_lt d 10) (d + 48) (d + 87)

-- the n lowest digits of a word
unfoldable pub hexes : ℕ → ℕ → List ℕ
hexes zero word = []
hexes (suc n) word = hex_digit (word / 2 ^ (4 * n) % 16) ∷ hexes n word

-- the digit of a byte
abbrev pub hex_value : ℕ → Option ℕ
hex_value b = cond (nat_le 48 b && nat_le b 57) (Some (b - 48)) (cond (nat_le 97 b && nat_le b 102) (Some (b - 87)) None)

-- the word that n digits at the front of some bytes make, behind the digits of `before`
unfoldable pub hex_read : ℕ → ℕ → List ℕ → Option ℕ
hex_read zero before bytes = Some before
hex_read (suc n) before [] = None
hex_read (suc n) before (b ∷ bytes) = elim (hex_value b) [ Some d ↦ hex_read n (before * 16 + d) bytes | None ↦ None ]
