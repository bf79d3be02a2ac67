use Rattle.std.proofs.Common.{◌||◌, eqb}
use Rattle.bits.specs.Matrix.{pair}
use Rattle.reduction.specs.Drawn.{linked_at}
use Rattle.reduction.proofs.Rows.{Row}
use Rattle.reduction.proofs.writing.keep_row.Given as goal

abbrev pub invariant-loop-j : goal.invariant-loop-j
invariant-loop-j l = Row (λ j. eqb l.i j || linked_at (pair l.rows.words) l.staying l.i j) l.initial.into.words l.into.words l.i l.j
