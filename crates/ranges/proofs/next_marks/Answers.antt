use Rattle.std.proofs.Common.{arith, rules}
use Rattle.ranges.proofs.Bits.{end_after, run_to}
use Rattle.ranges.proofs.next_marks.Goals as goal

pub overflow_sub-result : goal.overflow_sub-result
overflow_sub-result c = omega (arith, c.unwrap_or-end.ensures, end_after c.args.p c.args.from c.in_ok-first.first (search rules) c.in_ok-first.ensures c.next_set-2.result c.next_set-2.ensures)

pub returns : goal.returns
returns c = rw c.unwrap_or-end.ensures (run_to c.args.p c.args.from c.in_ok-first.first (search rules) c.in_ok-first.ensures c.next_set-2.result c.next_set-2.ensures)
