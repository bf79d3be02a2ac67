-- Runs of consecutive numbers that pass a test.
use Rattle.std.specs.Prelude.{◌≡◌, ℕ, ◌+◌, ◌<◌, ◌≤◌, Bool, true, false, Option, MatchOption}
use Rattle.ranges.specs.declared.Range.{Range}

-- n is the least number from `from` on that passes
pub record Next (f : ℕ → Bool) (from n : ℕ) : Type 0 where
  pub low : from ≤ n
  pub before : (k : ℕ) → from ≤ k → k < n → f k ≡ false
  pub here : f n ≡ true

-- first to last is the next longest run from `from` on that passes
pub record Run (f : ℕ → Bool) (from first last : ℕ) : Type 0 where
  pub low : from ≤ first
  pub order : first ≤ last
  pub before : (k : ℕ) → from ≤ k → k < first → f k ≡ false
  pub inside : (k : ℕ) → first ≤ k → k ≤ last → f k ≡ true
  pub after : f (last + 1) ≡ false

-- a step of the walk over the runs gives the next one and goes on behind it, or none is left
abbrev pub Step : (ℕ → Bool) → ℕ → Option Range → ℕ → Type 0
Step f from r on = MatchOption r ((k : ℕ) → from ≤ k → f k ≡ false) (λ range. Run f from range.first range.last × (on ≡ range.last + 1))
