use Rattle.std.proofs.Common.{◌≡◌, ◌^◌, ℕ, sum, sym, ap, ◌∙◌, rules, tests, arith}
use Rattle.std.specs.List.{range_with_len}
use Rattle.std.proofs.lemmas.List.{map-id}
use Rattle.std.proofs.lemmas.List.Sums.{sum-map}
use Rattle.std.proofs.lemmas.List.FromFn.{length-range_with_len}
use Rattle.std.proofs.lemmas.Iterator.{items_from_drains, YieldsList-from_range, YieldsList-from_map}
use Rattle.std.proofs.lemmas.Iterator.Adapters.{fits_from_length, at_most_from_yields_List}
use Rattle.bits.specs.Matrix.{pair}
use Rattle.automata.specs.Below.{count, pairs}
use Rattle.engine.specs.Columns.{size}
use Rattle.engine.proofs.Sums.{sum_range}
use Rattle.engine.proofs.book.Indexed.count.Goals as goal

pub sum-requires-clause-fits : goal.sum-requires-clause-fits
sum-requires-clause-fits g c =
    let n = size c.args.self.now in
    fits_from_length _ _ 256 (2 ^ 64) (at_most_from_yields_List (YieldsList-from_range 0 n n c.map.ensures.source (omega arith)) (omega (arith, length-range_with_len 0 n))) c.map.ensures.closure (omega arith) (λ x r q k. search (rules, tests))

pub returns : goal.returns
unfolding pairs
returns g c =
    let n = size c.args.self.now in
    let f : ℕ → ℕ = λ p. count (pair c.args.rows.now.words p) n in
    let ran = c.sum.ensures.ran in
    let d = ran.1 tt in
    let items = items_from_drains ran.0 (d.1.0, d.1.1, λ _. (d.0, d.1.2)) (YieldsList-from_map _ f (YieldsList-from_range 0 n n c.map.ensures.source (omega arith)) c.map.ensures.closure (λ x r q k. search (rules, tests))) in
    let total : c.sum.result ≡ sum ran.0 = ran.2 in
    total ∙ ap sum (sym (map-id ran.0) ∙ items) ∙ sum-map f (range_with_len 0 n) ∙ sum_range f n
