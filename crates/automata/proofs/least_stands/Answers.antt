use Rattle.automata.proofs.Fewest.{fewest}
use Rattle.automata.proofs.least_stands.Goals as goal

pub returns : goal.returns
returns g c = fewest _
