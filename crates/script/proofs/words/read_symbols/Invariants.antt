use Rattle.std.proofs.Common.{◌≡◌, ◌++◌, vec_items}
use Rattle.lines.specs.Fields.{left_fields}
use Rattle.lines.specs.Texts.{over}
use Rattle.script.specs.Reads.{symbols_say}
use Rattle.script.proofs.words.read_symbols.Given as goal

-- what is left adds the rest of the symbols
abbrev pub invariant-loop-field : goal.invariant-loop-field
invariant-loop-field l =
    over (λ w. vec_items l.initial.symbols ++ w) (symbols_say l.fn.fields.at (left_fields l.fn.fields.left)) ≡ over (λ w. vec_items l.symbols ++ w) (symbols_say l.field-iterator.at (left_fields l.field-iterator.left))
