use Rattle.std.proofs.Common.{◌≡◌, true, false, not, ◌&&◌, length, get_or, rules, tests}
use Rattle.std.proofs.lemmas.Iterator.{first_from_Range}
use Rattle.reduction.proofs.Walking.{first_waiting}
use Rattle.reduction.proofs.classes.Classes.waiting.Goals as goal

pub returns : goal.returns
returns g c =
    let r = c.args.reached.now in
    let d = c.args.done.now in
    first_waiting (λ k. get_or r k false) (λ k. get_or d k false) (length c.args.self.now.book.marks.now) c.find.result
    (first_from_Range _ _ _ _ (λ k. (get_or r k false && not (get_or d k false)) ≡ true) (λ k. (get_or r k false && not (get_or d k false)) ≡ false) c.find.ensures.ran
    (λ x q k. search (rules, tests))
    (λ x q k. search (rules, tests)))
