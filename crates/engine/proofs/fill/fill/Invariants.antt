use Rattle.std.proofs.Common.{◌≡◌, ℕ, ◌&&◌, ltb}
use Rattle.bits.specs.Matrix.{pair}
use Rattle.engine.specs.Columns.{allowed}
use Rattle.engine.proofs.fill.fill.Given as goal

abbrev pub invariant-loop-p : goal.invariant-loop-p
invariant-loop-p l = (i q : ℕ) → pair l.rows.words i q ≡ (ltb i l.p && allowed l.marks i q)
