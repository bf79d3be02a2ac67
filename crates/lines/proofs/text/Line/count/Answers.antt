use Rattle.std.proofs.Common.{rules}
use Rattle.std.proofs.lemmas.List.Splits.{length-slice_split}
use Rattle.lines.specs.Fields.{fields}
use Rattle.lines.proofs.text.Line.count.Goals as goal

pub returns : goal.returns
unfolding fields
returns c = search (rules, length-slice_split)
