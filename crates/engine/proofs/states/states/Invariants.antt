use Rattle.std.proofs.Common.{◌≡◌, ℕ, ◌<◌, ◌≤◌, false}
use Rattle.bits.specs.Matrix.{pair}
use Rattle.engine.proofs.states.states.Given as goal

abbrev pub invariant-loop-q : goal.invariant-loop-q
invariant-loop-q g l =
    ((j : ℕ) → j < l.q → goal.F-post g l.test j (pair l.passing.words 0 j))
    × ((j : ℕ) → l.q ≤ j → pair l.passing.words 0 j ≡ false)
