use Rattle.std.proofs.Common.{◌++◌, vec_items, sym, ap₂, ◌∙◌}
use Rattle.std.proofs.lemmas.Result.{err_from_is_err_and}
use Rattle.lines.specs.Texts.{over}
use Rattle.script.specs.Reads.{symbols_say}
use Rattle.script.proofs.Says.{word_some, refuses_here}
use Rattle.script.proofs.words.read_word.Goals as goal

pub returns-in_err-read_symbols : goal.returns-in_err-read_symbols
returns-in_err-read_symbols g c =
    let p = err_from_is_err_and c.from_residual.result c.from_residual.ensures.1 in
    rw (p.1, p.2) (refuses_here _ _ _ _ c.in_err-read_symbols.field-0.0 c.others.ensures.at c.others.ensures.left c.in_err-read_symbols.ensures)

pub returns : goal.returns
returns g c =
    word_some _ (vec_items c.args.symbols.now) (vec_items c.read_symbols.new.symbols) _ _
    (sym (ap₂ (λ p fs. over (λ w. vec_items c.args.symbols.now ++ w) (symbols_say p fs)) c.others.ensures.at c.others.ensures.left) ∙ c.in_ok-read_symbols.ensures)
    (c.len-from.ensures ∙ c.args.symbols.now.ok.0) (c.len.ensures ∙ c.read_symbols.new.symbols.ok.0)
