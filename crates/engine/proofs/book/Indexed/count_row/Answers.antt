use Rattle.std.proofs.Common.{cond, length, sym, ap, ◌∙◌, rules, tests, arith}
use Rattle.std.specs.List.{range_with_len}
use Rattle.std.proofs.lemmas.List.{map-id}
use Rattle.std.proofs.lemmas.List.Sums.{length-filter}
use Rattle.std.proofs.lemmas.Iterator.{items_from_drains, YieldsList-from_range}
use Rattle.std.proofs.lemmas.Iterator.Consumers.{YieldsList-from_filter}
use Rattle.bits.specs.Matrix.{pair}
use Rattle.engine.specs.Columns.{size}
use Rattle.engine.proofs.Sums.{sum_range}
use Rattle.engine.proofs.book.Indexed.count_row.Goals as goal

pub returns-clause-count : goal.returns-clause-count
returns-clause-count g c =
    let kept = pair c.args.rows.now.words c.args.p in
    let n = size c.args.self.now in
    let ran = c.count.ensures.ran in
    let d = ran.1 in
    let items = items_from_drains ran.0 (d.1.0, d.1.1, λ _. (d.0, d.1.2)) (YieldsList-from_filter _ kept (YieldsList-from_range 0 n n c.filter.ensures.source (omega arith)) c.filter.ensures.closure (λ x b q k. search (rules, tests))) in
    ran.2 ∙ ap length (sym (map-id ran.0) ∙ items) ∙ length-filter kept (range_with_len 0 n) ∙ sum_range (λ k. cond (kept k) 1 0) n
