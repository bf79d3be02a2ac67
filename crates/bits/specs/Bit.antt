-- A bit of a 64-bit word as a test. Bit 0 is the lowest; there is no bit past 63.
use Rattle.std.specs.Prelude.{◌≡◌, ℕ, ◌/◌, ◌%◌, ◌^◌, ◌<◌, Bool, true, false, not, ◌&&◌, ◌==◌, nat_lt}

unfoldable pub bit : ℕ → ℕ → Bool
bit word k = nat_lt k 64 && word / 2 ^ k % 2 == 1

-- some bit is set
abbrev pub some_bit : ℕ → Bool
some_bit word = not (word % 2 ^ 64 == 0)

-- bit n is set, and none below it
pub record Lowest (word n : ℕ) : Type 0 where
  pub within : n < 64
  pub here : bit word n ≡ true
  pub under : (k : ℕ) → k < n → bit word k ≡ false
