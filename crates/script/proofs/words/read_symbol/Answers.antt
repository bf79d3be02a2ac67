use Rattle.std.proofs.Common.{sym, ap, ◌∙◌}
use Rattle.std.proofs.lemmas.List.{nil_from_length}
use Rattle.script.specs.Reads.{symbol_in}
use Rattle.script.proofs.words.read_symbol.Goals as goal

pub returns-in_err-letter : goal.returns-in_err-letter
unfolding symbol_in
returns-in_err-letter c = rw c.from_residual.ensures (sym (ap symbol_in (nil_from_length _ c.in_err-letter.ensures.cases)))

pub returns : goal.returns
unfolding symbol_in
returns c = c.letter_symbol.ensures ∙ sym (ap symbol_in c.in_ok-letter.ensures.cases.0)
