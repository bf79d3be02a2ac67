use Rattle.std.proofs.Common.{length}
use Rattle.automata.specs.Below.{rows}
use Rattle.bits.specs.Matrix.{pair}
use Rattle.reduction.specs.Sorted.{pruned_of}
use Rattle.reduction.specs.Drawn.{linked_at, reads_at, Drawn}
use Rattle.reduction.proofs.classes.Classes.write_arrows.Given as goal

abbrev pub invariant-loop-i : goal.invariant-loop-i
invariant-loop-i g l =
    let b = l.self.book in
    let s = l.reached.staying in
    Drawn (g.L.LabelAlgebra.holds b.labels.now) (reads_at (pruned_of b).reads s) (rows (linked_at (pair l.reached.links.words) s) (length s) l.i) l.used l.into
