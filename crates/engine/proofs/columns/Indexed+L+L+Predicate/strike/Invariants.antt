use Rattle.engine.specs.Columns.{size, Gathered}
use Rattle.engine.proofs.Striking.{Striking}
use Rattle.engine.proofs.columns.Indexed+L+L+Predicate.strike.Given as goal

abbrev pub invariant-loop-entry : goal.invariant-loop-entry
invariant-loop-entry g l =
    Striking (g.L.LabelAlgebra.holds l.self.labels.now) l.self.marks.now l.self.arrows.now l.q l.t l.entry-items l.initial.rows.words l.rows.words l.struck l.entry-index
    × Gathered (size l.self) l.q l.rows.words l.below.words
