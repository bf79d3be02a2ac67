use Rattle.std.proofs.Common.{◌≡◌, ℕ, true}
use Rattle.bits.specs.Matrix.{pair}
use Rattle.engine.specs.Columns.{Woken}
use Rattle.engine.proofs.Places.{Placed}
use Rattle.engine.proofs.settling.Indexed+L+L+Predicate.wake.Given as goal

abbrev pub invariant-loop-entry : goal.invariant-loop-entry
invariant-loop-entry g l =
    Placed (Woken l.q l.flags.words) l.self.arrows.now l.entry-items l.entry-index
    × ((i : ℕ) → pair l.initial.flags.words 0 i ≡ true → pair l.flags.words 0 i ≡ true)
