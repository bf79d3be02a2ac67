-- What `|`, `&`, `^`, `!`, `<<` and `>>` on 64-bit words do to their bits.
use Rattle.std.specs.Prelude.{◌≡◌, ℕ, ◌+◌, ◌-◌, ◌*◌, ◌/◌, ◌%◌, ◌^◌, ◌<◌, Bool, false, not, ◌&&◌, ◌||◌, bit_and, bit_or, bit_xor, nat_le, nat_lt}
use Rattle.bits.specs.Bit.{bit}

-- exactly one of two tests is true
abbrev pub differs : Bool → Bool → Bool
differs x y = (x && not y) || (not x && y)

-- `!a` is 2 ^ 64 - 1 - a, `a << j` is a * 2 ^ j cut to 64 bits, and `a >> j` is a / 2 ^ j
pub record WordLaws : Type 0 where
  pub zeros : (k : ℕ) → bit 0 k ≡ false
  pub or : (a b k : ℕ) → bit (bit_or a b) k ≡ (bit a k || bit b k)
  pub and : (a b k : ℕ) → bit (bit_and a b) k ≡ (bit a k && bit b k)
  pub xor : (a b k : ℕ) → bit (bit_xor a b) k ≡ differs (bit a k) (bit b k)
  pub complement : (a k : ℕ) → a < 2 ^ 64 → bit (2 ^ 64 - 1 - a) k ≡ (nat_lt k 64 && not (bit a k))
  pub left : (a j k : ℕ) → bit ((a * 2 ^ j) % 2 ^ 64) k ≡ (nat_lt k 64 && (nat_le j k && bit a (k - j)))
  pub right : (a j k : ℕ) → a < 2 ^ 64 → bit (a / 2 ^ j) k ≡ bit a (k + j)
