-- A relation on the numbers below 256 as bits: the pair p, q is bit q mod 64 of word 4p + q div 64.
use Rattle.std.specs.Prelude.{◌≡◌, ℕ, ◌+◌, ◌*◌, ◌/◌, ◌%◌, Bool, ◌&&◌, List, ◌≢◌, nat_lt, slice_index}
use Rattle.bits.specs.Bit.{bit}

unfoldable pub pair : List ℕ → ℕ → ℕ → Bool
pair rows p q = nat_lt q 256 && bit (slice_index rows (4 * p + q / 64)) (q % 64)

-- the pair p, q is b now, and every other pair is as it was
pub record Changed (b : Bool) (old new : List ℕ) (p q : ℕ) : Type 0 where
  pub here : pair new p q ≡ b
  pub others : (i j : ℕ) → (i ≡ p → j ≢ q) → pair new i j ≡ pair old i j
