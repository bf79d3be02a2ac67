use Rattle.bits.specs.Matrix.{pair}
use Rattle.engine.proofs.Joining.{Joining}
use Rattle.engine.proofs.columns.Indexed+L+L+Predicate.answers.Given as goal

abbrev pub invariant-loop-entry : goal.invariant-loop-entry
invariant-loop-entry g l = Joining (g.L.LabelAlgebra.holds l.self.labels.now) l.self.marks.now l.self.arrows.now (pair l.rows.words) l.q l.t l.entry-items l.all l.entry-index
