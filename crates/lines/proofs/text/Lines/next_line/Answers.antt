use Rattle.std.proofs.Common.{rules}
use Rattle.lines.proofs.Parts.{split_free, split_parted}
use Rattle.lines.proofs.text.Lines.next_line.Goals as goal

pub returns-in_err-bytes-clause-value : goal.returns-in_err-bytes-clause-value
returns-in_err-bytes-clause-value c = search (rules, split_free)

pub returns-clause-value : goal.returns-clause-value
returns-clause-value c = search (rules, split_parted)
