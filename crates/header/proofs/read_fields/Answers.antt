use Rattle.std.proofs.Common.{rules, sym, ap, ◌∙◌}
use Rattle.std.specs.Result.{is_ok}
use Rattle.std.proofs.lemmas.Result.{err_from_is_err_and}
use Rattle.labels.specs.CutLists.{cuts_of}
use Rattle.lines.specs.Fields.{left_fields}
use Rattle.header.specs.CutLine.{cut_fields}
use Rattle.header.proofs.Reading.{turn_number, turn_order, turn_more}
use Rattle.header.proofs.read_fields.Goals as goal

pub returns-in_err-cut : goal.returns-in_err-cut
returns-in_err-cut c =
    let p = err_from_is_err_and c.from_residual.result c.from_residual.ensures.1 in
    let taken = c.in-Some.ensures.steps in
    rw (p.1, p.2) (turn_number _ (cuts_of c.loop-field.cuts) _ _ _ _ _ c.loop-field.invariant taken.1 c.in-Some.field.at _ taken.0 c.in_err-cut.ensures.value)

pub loop-field-preserved : goal.loop-field-preserved
loop-field-preserved c =
    let taken = c.in-Some.ensures.steps in
    turn_more _ (cuts_of c.loop-field.cuts) _ _ _ _ _ c.loop-field.invariant taken.1 c.in-Some.field.at c.in_ok-cut.cut c.push.result _ taken.0 c.in_ok-cut.ensures.value c.push.ensures.value c.push.ensures.ok (sym c.map_err.ensures.variant ∙ ap is_ok c.in_ok-map_err.was)

pub returns-in_err-map_err : goal.returns-in_err-map_err
returns-in_err-map_err c =
    let p = err_from_is_err_and c.from_residual-in_err-map_err.result c.from_residual-in_err-map_err.ensures.1 in
    let taken = c.in-Some.ensures.steps in
    rw (p.1, p.2) (turn_order _ (cuts_of c.loop-field.cuts) _ _ _ _ _ c.loop-field.invariant taken.1 c.in-Some.field.at _ c.in_ok-cut.cut c.push.result taken.0 c.in_ok-cut.ensures.value c.push.ensures.value (sym c.map_err.ensures.variant ∙ ap is_ok c.in_err-map_err.was) (search rules))

pub returns : goal.returns
unfolding cut_fields
returns c = c.loop-field.invariant ∙ ap (λ o. cut_fields (cuts_of c.loop-field.cuts) c.loop-field.field-iterator.at (left_fields o)) c.in-None.ensures.steps
