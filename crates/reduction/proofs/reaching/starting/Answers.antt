use Rattle.std.proofs.Common.{false, rules, tests}
use Rattle.automata.specs.declared.Mark.TheVariants.{Neither}
use Rattle.reduction.proofs.reaching.starting.Goals as goal

pub returns : goal.returns
returns c d h =
    let k = (c.map.ensures.items.at d Neither false h).2 in
    search (rules, tests)
