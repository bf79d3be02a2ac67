use Rattle.std.proofs.Common.{◌≡◌, ◌++◌, length, vec_items}
use Rattle.lines.specs.Texts.{over, text_says}
use Rattle.label_list.specs.Lists.{line_says}
use Rattle.label_list.proofs.read_labels.Given as goal

-- what is left adds the rest of the labels
abbrev pub invariant-loop-labels : goal.invariant-loop-labels
invariant-loop-labels g l =
    let says = line_says (g.L.WrittenAlgebra.reads l.a) in
    text_says says l.initial.lines.at l.initial.lines.left.now ≡ over (λ ps. vec_items l.labels ++ ps) (text_says says l.lines.at l.lines.left.now)

abbrev pub decreases-loop-labels : goal.decreases-loop-labels
decreases-loop-labels g l = length l.lines.left.now
