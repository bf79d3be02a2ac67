use Rattle.automata.specs.Automata.{automaton}
use Rattle.engine.proofs.Stepping.{Tested}
use Rattle.engine.proofs.words.accepts.Given as goal

abbrev pub invariant-loop-value : goal.invariant-loop-value
invariant-loop-value g l = Tested (automaton (g.L.LabelAlgebra.holds l.labels) l.marks l.arrows) l.word l.live.words l.value-index
