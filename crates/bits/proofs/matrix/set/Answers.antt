use Rattle.bits.proofs.Pairs.{changed, bit_keep, bit_clear}
use Rattle.bits.proofs.matrix.set.Goals as goal
use Rattle.bits.proofs.matrix.set.Goals.{then-kept, else-kept}

pub returns : goal.returns
returns c = rw c.put_word.ensures (elim c.if-kept.branch [
  | then-kept w ↦ rw (w.put_word-is, w.if-kept.true) (changed _ _ _ _ _ c.requires.row c.requires.column (λ k h. bit_keep _ _ k h))
  | else-kept w ↦ rw (w.put_word-is, w.if-kept.false) (changed _ _ _ _ _ c.requires.row c.requires.column (λ k h. bit_clear _ _ k h))
])
