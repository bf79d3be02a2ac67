use Rattle.std.proofs.Common.{◌≡◌, true, false, rules, tests}
use Rattle.std.proofs.lemmas.Iterator.{first_from_find}
use Rattle.bits.specs.Matrix.{pair}
use Rattle.engine.proofs.Downward.{YieldsList-from_rev_range, last_from_first}
use Rattle.engine.proofs.book.Indexed.next_down.Goals as goal

pub returns : goal.returns
returns g c =
    let flags = c.args.flags.now.words in
    last_from_first c.args.to (λ q. pair flags 0 q ≡ true) (λ q. pair flags 0 q ≡ false) c.find.result
    (first_from_find c.find.new.self _ c.find.result (λ q. pair flags 0 q ≡ true) (λ q. pair flags 0 q ≡ false) c.find.ensures.ran (YieldsList-from_rev_range c.args.to c.rev.ensures.source) (λ x q k. search (rules, tests)) (λ x q k. search (rules, tests)))
