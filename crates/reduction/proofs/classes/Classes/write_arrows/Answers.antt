use Rattle.std.proofs.Common.{◌+◌, length, arith}
use Rattle.bits.specs.Matrix.{pair}
use Rattle.reduction.specs.Drawn.{linked_at}
use Rattle.reduction.proofs.Listing.{drawn_none, rows_le}
use Rattle.reduction.proofs.classes.Classes.write_arrows.Goals as goal

pub loop-i-init : goal.loop-i-init
loop-i-init g c = drawn_none _ _ _ _ _

pub write_row-used-requires-clause-room : goal.write_row-used-requires-clause-room
write_row-used-requires-clause-room g c =
    let s = c.args.reached.now.staying in
    omega (arith, rows_le (linked_at (pair c.args.reached.now.links.words) s) (length s) (c.loop-i.i + 1) (length s) (omega arith), c.requires, c.loop-i.auto.into)
