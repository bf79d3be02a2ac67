use Rattle.engine.proofs.Stepping.{Stepping}
use Rattle.engine.proofs.words.step.Given as goal

abbrev pub invariant-loop-x : goal.invariant-loop-x
invariant-loop-x g l = Stepping (g.L.LabelAlgebra.holds l.labels) l.arrows l.live.words l.value l.next.words l.x-index
