use Rattle.std.proofs.Common.{◌≡◌, [], length, vec_items}
use Rattle.lines.specs.Texts.{over, text_says}
use Rattle.script.specs.Reads.{line_says}
use Rattle.script.specs.Scripts.{told}
use Rattle.script.proofs.read_calls.Given as goal

-- what is left tells the rest
abbrev pub invariant-loop-symbols : goal.invariant-loop-symbols
invariant-loop-symbols g l =
    let says = line_says (g.L.WrittenAlgebra.reads l.a) in
    over (told [] []) (text_says says l.initial.lines.at l.initial.lines.left.now) ≡ over (told (vec_items l.calls) (vec_items l.symbols)) (text_says says l.lines.at l.lines.left.now)

abbrev pub decreases-loop-symbols : goal.decreases-loop-symbols
decreases-loop-symbols g l = length l.lines.left.now
