use Rattle.std.proofs.Common.{length}
use Rattle.bits.specs.Matrix.{pair}
use Rattle.reduction.specs.Sorted.{pruned_of}
use Rattle.reduction.specs.Drawn.{linked_at, reads_at}
use Rattle.reduction.proofs.Listing.{SoFar}
use Rattle.reduction.proofs.classes.Classes.write_row.Given as goal

abbrev pub invariant-loop-j : goal.invariant-loop-j
invariant-loop-j g l =
    let b = l.self.book in
    let s = l.reached.staying in
    SoFar (g.L.LabelAlgebra.holds b.labels.now) (reads_at (pruned_of b).reads s) (linked_at (pair l.reached.links.words) s) (length s) l.i l.j l.used l.into
