use Rattle.std.proofs.Common.{◌≡◌, true, false, ◌∙◌, arith, rules, tests}
use Rattle.automata.specs.Reduction.{name, same}
use Rattle.automata.proofs.Names.{name_le}
use Rattle.reduction.specs.Sorted.{kept_of}
use Rattle.std.proofs.lemmas.Iterator.{first_from_Range}
use Rattle.reduction.proofs.Naming.{name_found}
use Rattle.reduction.proofs.source.Source.name_of.Goals as goal

named : (g : _) (c : goal.After-unwrap_or g) → c.unwrap_or.result ≡ name (kept_of c.args.self.now) c.args.p
named g c =
    let K = kept_of c.args.self.now in
    let p = c.args.p in
    c.unwrap_or.ensures ∙ name_found K p c.find.result
    (first_from_Range _ _ _ _ (λ q. same K p q ≡ true) (λ q. same K p q ≡ false) c.find.ensures.ran (λ x q k. search (rules, tests)) (λ x q k. search (rules, tests)))

pub overflow_cast-result : goal.overflow_cast-result
overflow_cast-result g c = omega (arith, named g c, name_le (kept_of c.args.self.now) c.args.p, c.requires)

pub returns : goal.returns
returns g c = named g c
