use Rattle.std.proofs.Common.{◌≤◌, ◌==◌, Some, None, sym, ap, ◌∙◌, arith}
use Rattle.std.specs.Bool.{then_some}
use Rattle.labels.specs.CutLists.{segment_count}
use Rattle.labels.specs.CutListsLemmas.{cuts_rising}
use Rattle.written.specs.Hex.{hex_read}
use Rattle.written.specs.Codecs.{reads_low}
use Rattle.written.proofs.instances.CodePointsWrittenAlgebra.read.Goals as goal

pub returns-in_err-got : goal.returns-in_err-got
returns-in_err-got c =
    let cuts = c.args.self.now.cuts in
    let few : segment_count cuts ≤ 64 = omega (arith, (cuts_rising cuts).few) in
    c.from_residual.ensures ∙ sym (reads_low (segment_count cuts) (hex_read 16 0 c.args.bytes.now) None few c.in_err-got.ensures)

pub returns : goal.returns
returns c =
    let cuts = c.args.self.now.cuts in
    let got = c.in_ok-got.got in
    let few : segment_count cuts ≤ 64 = omega (arith, (cuts_rising cuts).few) in
    c.then_some.ensures
    ∙ ap (λ w. then_some (w == got.predicate) got) c.real_bits.ensures.value
    ∙ sym (reads_low (segment_count cuts) (hex_read 16 0 c.args.bytes.now) (Some got) few c.in_ok-got.ensures)
