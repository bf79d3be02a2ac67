use Rattle.reduction.specs.Sorted.{kept_of}
use Rattle.reduction.proofs.Chains.{left}
use Rattle.reduction.proofs.Linking.{Seeing}
use Rattle.reduction.proofs.classes.Classes.link.Given as goal

abbrev pub invariant-loop-at : goal.invariant-loop-at
invariant-loop-at g l = Seeing (g.L.LabelAlgebra.holds l.self.book.labels.now) l.self.book.marks.now l.self.book.arrows.now (kept_of l.self.book) l.c l.initial.links.words l.initial.reached l.seen l.links.words l.reached l.at

abbrev pub decreases-loop-at : goal.decreases-loop-at
decreases-loop-at g l = left l.at
