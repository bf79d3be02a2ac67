use Rattle.std.proofs.lemmas.Bool.{lt-ltb}
use Rattle.bits.specs.Matrix.{pair}
use Rattle.bits.proofs.matrix.is_kept.Goals as goal

pub returns : goal.returns
unfolding pair
returns c = rw (lt-ltb c.args.q 256 c.requires.column) c.is_set.ensures
