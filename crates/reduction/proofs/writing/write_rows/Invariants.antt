use Rattle.std.proofs.Common.{◌≡◌, ℕ, ◌&&◌, ◌||◌, eqb, ltb, length}
use Rattle.bits.specs.Matrix.{pair}
use Rattle.reduction.specs.Drawn.{linked_at}
use Rattle.reduction.proofs.writing.write_rows.Given as goal

abbrev pub invariant-loop-i : goal.invariant-loop-i
invariant-loop-i l = (i j : ℕ) → pair l.into.words i j ≡ (ltb i l.i && (ltb j (length l.staying) && (eqb i j || linked_at (pair l.rows.words) l.staying i j)))
