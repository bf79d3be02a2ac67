use Rattle.std.proofs.Common.{◌+◌, ◌*◌, slice_range, arith, rules, tests}
use Rattle.std.proofs.lemmas.Iterator.{cases_from_any, YieldsList-from_slice, YieldsList-from_zip}
use Rattle.bits.proofs.Pairs.{Common, common_row}
use Rattle.bits.proofs.matrix.Rows.meets.Goals as goal

pub returns : goal.returns
returns g c =
    let words = c.args.self.now.words in
    let ys = c.args.row.now.words in
    let xs = slice_range words (4 * c.args.p) (4 * c.args.p + 4) in
    common_row words ys c.args.p (omega (arith, c.args.self.now.whole)) c.args.row.now.whole c.any.result
    (cases_from_any c.any.new.self _ c.any.result (λ z. Common z.0 z.1) (λ z. Common z.0 z.1 → ⊥) c.any.ensures.ran (YieldsList-from_zip (YieldsList-from_slice xs (search rules)) (YieldsList-from_slice ys (search rules))) (λ x q k. search (rules, tests)) (λ x q k. search (rules, tests)))
