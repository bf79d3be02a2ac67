use Rattle.std.proofs.Common.{rules}
use Rattle.ranges.proofs.Bits.{next_set_is, none_set}
use Rattle.ranges.proofs.next_set.Goals as goal

pub returns-in_err-n : goal.returns-in_err-n
returns-in_err-n c = rw c.from_residual.ensures (none_set c.args.word c.args.from (search rules) c.in_err-n.ensures)

pub returns : goal.returns
returns c = next_set_is c.args.word c.args.from c.in_ok-n.n (search rules) c.in_ok-n.ensures
