use Rattle.std.proofs.Common.{rules}
use Rattle.lines.proofs.Numbers.{read_on_more, read_on_other, read_on_past, read_on_all}
use Rattle.lines.proofs.decimals.read_digits.Goals as goal

pub returns-in_err-to_digit : goal.returns-in_err-to_digit
returns-in_err-to_digit c = search (rules, read_on_other)

pub returns-then-n-from : goal.returns-then-n-from
returns-then-n-from c = search (rules, read_on_more, read_on_past)

pub loop-b-preserved : goal.loop-b-preserved
loop-b-preserved c = search (rules, read_on_more)

pub returns : goal.returns
returns c = search (rules, read_on_all)
