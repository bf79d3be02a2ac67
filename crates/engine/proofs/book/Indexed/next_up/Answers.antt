use Rattle.std.proofs.Common.{◌≡◌, true, false, rules, tests}
use Rattle.std.proofs.lemmas.Iterator.{first_from_Range}
use Rattle.bits.specs.Matrix.{pair}
use Rattle.engine.specs.Columns.{size}
use Rattle.engine.proofs.Waking.{found_first}
use Rattle.engine.proofs.book.Indexed.next_up.Goals as goal

pub returns : goal.returns
returns g c =
    let flags = c.args.flags.now.words in
    let f = found_first flags c.args.from (size c.args.self.now) c.find.result
    (first_from_Range _ c.find.new.self _ c.find.result (λ q. pair flags 0 q ≡ true) (λ q. pair flags 0 q ≡ false) c.find.ensures.ran (λ x q k. search (rules, tests)) (λ x q k. search (rules, tests))) in
    record { found = f.0; first = f.1 }
