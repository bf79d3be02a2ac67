use Rattle.std.proofs.Common.{◌++◌, Ok, vec_items, ap, ◌∙◌}
use Rattle.std.specs.Option.{ok_or}
use Rattle.std.proofs.lemmas.List.{append-nil}
use Rattle.lines.specs.declared.Fault.TheVariants as fault
use Rattle.std.proofs.lemmas.Result.{err_from_is_err_and}
use Rattle.lines.specs.Fields.{left_fields}
use Rattle.lines.specs.Texts.{over}
use Rattle.lines.proofs.Results.{err_from_over}
use Rattle.script.specs.Reads.{symbols_say}
use Rattle.script.proofs.Symbols.{turn_fault, turn_more}
use Rattle.script.proofs.words.read_symbols.Goals as goal

pub returns-in_err-symbol : goal.returns-in_err-symbol
returns-in_err-symbol c =
    let p = err_from_is_err_and c.from_residual.result c.from_residual.ensures.1 in
    let taken = c.in-Some.ensures.steps in
    rw (p.1, p.2)
    (err_from_over (λ w. vec_items c.args.symbols.now ++ w) _ _
    (turn_fault _ (vec_items c.loop-field.symbols) _ _ _ _ _ c.loop-field.invariant taken.1 c.in-Some.field.at _ taken.0 (c.in_err-symbol.ensures.value ∙ ap (λ o. ok_or o (fault.Number c.in-Some.field.at)) c.read_symbol.ensures)))

pub loop-field-preserved : goal.loop-field-preserved
loop-field-preserved c =
    let taken = c.in-Some.ensures.steps in
    turn_more _ (vec_items c.loop-field.symbols) _ _ _ _ _ c.loop-field.invariant taken.1 c.in-Some.field.at c.in_ok-symbol.symbol _
    (c.in_ok-symbol.ensures.value ∙ ap (λ o. ok_or o (fault.Number c.in-Some.field.at)) c.read_symbol.ensures) c.in_ok-push.ensures.items

pub returns : goal.returns
unfolding symbols_say
returns c =
    c.loop-field.invariant
    ∙ ap (λ o. over (λ w. vec_items c.loop-field.symbols ++ w) (symbols_say c.loop-field.field-iterator.at (left_fields o))) c.in-None.ensures.steps
    ∙ ap Ok (append-nil (vec_items c.loop-field.symbols))
