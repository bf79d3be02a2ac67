use Rattle.std.proofs.Common.{◌≡◌, []}
use Rattle.labels.specs.CutLists.{cuts_of}
use Rattle.lines.specs.Fields.{left_fields}
use Rattle.header.specs.CutLine.{cut_fields}
use Rattle.header.proofs.read_fields.Given as goal

-- what is left adds the rest of the cuts
abbrev pub invariant-loop-field : goal.invariant-loop-field
invariant-loop-field l =
    cut_fields [] l.fn.fields.at (left_fields l.fn.fields.left) ≡ cut_fields (cuts_of l.cuts) l.field-iterator.at (left_fields l.field-iterator.left)
