use Rattle.std.proofs.Common.{◌≡◌, ap, ◌∙◌, filter, length, rules, tests}
use Rattle.bits.specs.Matrix.{pair}
use Rattle.reduction.proofs.Listing.{counted_all}
use Rattle.reduction.proofs.reaching.Reached.count_row.Goals as goal

pub returns : goal.returns
returns c =
    let K = pair c.args.self.now.links.words in
    let counted : c.count.result ≡ length (filter (K c.args.c) c.list.result.now) = search (rules, tests) in
    counted ∙ ap (λ xs. length (filter (K c.args.c) xs)) c.list.ensures.listed ∙ counted_all (K c.args.c) c.args.self.now.staying
