use Rattle.std.proofs.Common.{◌≡◌, ℕ, List, length, get_or, ap, ◌∙◌, arith}
use Rattle.automata.specs.Below.{rows, rising}
use Rattle.bits.specs.Matrix.{pair}
use Rattle.reduction.specs.Drawn.{linked_at}
use Rattle.reduction.proofs.Listing.{rows_none, length-rows_more, rising_few}
use Rattle.reduction.proofs.reaching.Reached.count_links.Goals as goal

pub loop-c-init : goal.loop-c-init
loop-c-init c = (ap length (rows_none _ _), omega arith)

row : (c : goal.After-count_row-found) → c.count_row-found.result ≡ length (rising (linked_at (pair c.args.self.now.links.words) c.args.self.now.staying c.loop-c.c-index) (length c.args.self.now.staying))
row c =
    let s = c.args.self.now.staying in
    c.count_row-found.ensures ∙ ap (λ (xs : List ℕ). length (rising (λ j. pair c.args.self.now.links.words (get_or xs c.loop-c.c-index 0) (get_or s j 0)) (length s))) c.list-c-items.ensures.listed

pub overflow_add-found : goal.overflow_add-found
overflow_add-found c =
    let s = c.args.self.now.staying in
    omega (arith, c.loop-c.invariant.1, row c, rising_few (linked_at (pair c.args.self.now.links.words) s c.loop-c.c-index) (length s), c.loop-c-test.true, c.list-c-items.ensures.few, ap length c.list-c-items.ensures.listed)

pub loop-c-preserved : goal.loop-c-preserved
loop-c-preserved c =
    let s = c.args.self.now.staying in
    let R = linked_at (pair c.args.self.now.links.words) s in
    let i = c.loop-c.c-index in
    (omega (arith, c.loop-c.invariant.0, row c, length-rows_more R (length s) i), omega (arith, c.loop-c.invariant.1, row c, rising_few (R i) (length s), c.list-c-items.ensures.few, ap length c.list-c-items.ensures.listed))

pub returns : goal.returns
returns c =
    let s = c.args.self.now.staying in
    let e : c.loop-c.c-index ≡ length s = omega (arith, c.loop-c-test.false, ap length c.list-c-items.ensures.listed) in
    c.loop-c.invariant.0 ∙ ap (λ m. length (rows (linked_at (pair c.args.self.now.links.words) s) (length s) m)) e
