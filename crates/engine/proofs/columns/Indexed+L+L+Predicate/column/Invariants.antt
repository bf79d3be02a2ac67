use Rattle.engine.specs.Columns.{size, Gathered}
use Rattle.engine.proofs.Striking.{Columned}
use Rattle.engine.proofs.columns.Indexed+L+L+Predicate.column.Given as goal

abbrev pub invariant-loop-t : goal.invariant-loop-t
invariant-loop-t g l =
    Columned (g.L.LabelAlgebra.holds l.self.labels.now) l.self.marks.now l.self.arrows.now l.q l.initial.rows.words l.rows.words l.struck l.t
    × Gathered (size l.self) l.q l.rows.words l.below.words
