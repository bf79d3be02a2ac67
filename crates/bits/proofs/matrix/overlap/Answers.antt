use Rattle.bits.proofs.Pairs.{common}
use Rattle.bits.proofs.matrix.overlap.Goals as goal

pub returns : goal.returns
returns c = common c.args.x c.args.y c.ranges.x.fits
