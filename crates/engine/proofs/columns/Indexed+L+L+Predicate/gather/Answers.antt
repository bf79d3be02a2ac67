use Rattle.std.proofs.Common.{rules, tests}
use Rattle.engine.proofs.columns.Indexed+L+L+Predicate.gather.Goals as goal

pub returns : goal.returns
returns g c p h ne e = let t = c.states.ensures.tested p h in search (rules, tests)
