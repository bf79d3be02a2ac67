-- The places of a list of keys, chained by key. Assumes nothing.
use Rattle.std.specs.Prelude.{◌≡◌, ℕ, zero, suc, ◌<◌, Bool, cond, List, Option, Some, None, ◌==◌, slice_index, slice_index_or}

-- the greatest number below n that passes, if any does
unfoldable pub last_below : ℕ → (ℕ → Bool) → Option ℕ
last_below zero f = None
last_below (suc n) f = cond (f n) (Some n) (last_below n f)

-- of the first m places: `last` leads from a key below 256 to its last place, and `before` from a place to the one before it
-- of the same key
abbrev pub Heads : List ℕ → ℕ → List (Option ℕ) → Type 0
Heads keys m last = (p : ℕ) → p < 256 → slice_index_or last p None ≡ last_below m (λ k. slice_index keys k == p)

abbrev pub Links : List ℕ → ℕ → List (Option ℕ) → Type 0
Links keys m before = (k : ℕ) → k < m → slice_index_or before k None ≡ last_below k (λ j. slice_index keys j == slice_index keys k)
