use Rattle.std.proofs.Common.{◌≡◌, ◌<◌, length, arith, rules, tests}
use Rattle.automata.specs.Reduction.{name}
use Rattle.reduction.specs.Sorted.{kept_of}
use Rattle.reduction.proofs.Made.{made_each}
use Rattle.reduction.proofs.source.Source.names.Goals as goal

pub returns : goal.returns
returns g c p lt =
    let s = c.args.self.now in
    made_each _ _ (λ i y. i < length s.marks.now → y ≡ name (kept_of s) i) (λ i y q k. (search (rules, tests), λ low. search (rules, tests))) c.from_fn.result 256 c.from_fn.ensures.items p 0 (omega (arith, lt, s.few_states)) lt
