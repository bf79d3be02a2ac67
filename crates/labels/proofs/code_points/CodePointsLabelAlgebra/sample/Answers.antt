use Rattle.std.proofs.Common.{sym, ap, ◌∙◌}
use Rattle.bits.specs.Bit.{bit}
use Rattle.labels.specs.CutListsLemmas.{sample_at}
use Rattle.labels.proofs.code_points.CodePointsLabelAlgebra.sample.Goals as goal

pub returns : goal.returns
returns c =
    let here = ap (λ w. bit w c.in_ok-segment.segment) (sym c.real_bits.ensures.value) ∙ c.in_ok-segment.ensures.here in
    sample_at c.args.self.now.cuts c.args.p c.in_ok-segment.segment c.first_in.result here c.first_in.ensures
