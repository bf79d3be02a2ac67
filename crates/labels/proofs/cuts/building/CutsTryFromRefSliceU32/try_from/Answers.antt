use Rattle.std.proofs.Common.{get_or, sym, ap, ◌∙◌}
use Rattle.std.proofs.lemmas.Bool.{true≢false}
use Rattle.std.proofs.lemmas.Result.{MatchResult-from_err}
use Rattle.labels.specs.Segments.{goes_on}
use Rattle.labels.specs.SegmentsLemmas.{rising_goes_on}
use Rattle.labels.proofs.cuts.building.CutsTryFromRefSliceU32.try_from.Goals as goal

pub returns-in_err-push : goal.returns-in_err-push
returns-in_err-push c =
    let xs = c.args.cuts.now in
    let i = c.loop-cut.cut-index in
    MatchResult-from_err c.from_residual.result _ _ c.from_residual.ensures.0 (λ e rising.
    true≢false (sym (rising_goes_on xs rising i c.loop-cut-test.true) ∙ ap (λ ys. goes_on ys (get_or xs i 0)) (sym c.loop-cut.invariant) ∙ sym c.in_err-push.ensures.value))
