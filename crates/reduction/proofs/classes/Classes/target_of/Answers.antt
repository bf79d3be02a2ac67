use Rattle.std.proofs.Common.{get_or, ap, ◌∙◌, arith}
use Rattle.std.proofs.lemmas.List.{get_or_default}
use Rattle.automata.specs.Reduction.{name}
use Rattle.automata.proofs.Names.{name_le}
use Rattle.reduction.specs.Sorted.{kept_of}
use Rattle.reduction.proofs.classes.Classes.target_of.Goals as goal

pub returns : goal.returns
returns g c =
    let s = c.args.self.now in
    let b = s.book in
    let x = get_or b.arrows.now c.args.k c.index-self-k.result in
    let low = (b.within c.args.k c.index-self-k.result c.requires).1 in
    let named = c.from-2.ensures ∙ ap (λ p. get_or s.names p 0) c.from.ensures ∙ s.named x.target low in
    record {
      value = λ d. named ∙ ap (λ y. name (kept_of b) y.target) (get_or_default b.arrows.now c.args.k c.index-self-k.result d c.requires);
      within = omega (arith, named, low, name_le (kept_of b) x.target);
    }
