use Rattle.std.proofs.Common.{◌≡◌, ℕ, ◌≤◌, true}
use Rattle.bits.specs.Matrix.{pair}
use Rattle.automata.specs.Simulation.{Wide}
use Rattle.engine.specs.Columns.{machine, size, Quiet, work}
use Rattle.engine.proofs.settling.Indexed+L+L+Predicate.sweep.Given as goal

abbrev pub invariant-loop-q : goal.invariant-loop-q
invariant-loop-q g l =
    let M = machine g.L.LabelAlgebra.holds l.self in
    ((i j : ℕ) → pair l.rows.words i j ≡ true → pair l.initial.rows.words i j ≡ true)
    × Wide M (pair l.rows.words)
    × Quiet M l.rows.words l.flags.words
    × (l.at ≤ size l.self)

abbrev pub decreases-loop-q : goal.decreases-loop-q
decreases-loop-q g l = work l.rows.words (size l.self) l.flags.words
