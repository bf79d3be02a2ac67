use Rattle.bits.proofs.Pairs.{pair_none}
use Rattle.bits.proofs.matrix.Rows.empty.Goals as goal

pub returns : goal.returns
returns g c = pair_none g.row.WORDS
