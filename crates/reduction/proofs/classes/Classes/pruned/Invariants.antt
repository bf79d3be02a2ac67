use Rattle.reduction.specs.Sorted.{kept_of}
use Rattle.reduction.proofs.Chains.{left}
use Rattle.reduction.proofs.Gathering.{Gathers}
use Rattle.reduction.proofs.classes.Classes.pruned.Given as goal

abbrev pub invariant-loop-at : goal.invariant-loop-at
invariant-loop-at g l = Gathers (g.L.LabelAlgebra.holds l.self.book.labels.now) (kept_of l.self.book) l.c l.d l.self.book.arrows.now l.merged l.over l.at

abbrev pub decreases-loop-at : goal.decreases-loop-at
decreases-loop-at g l = left l.at
