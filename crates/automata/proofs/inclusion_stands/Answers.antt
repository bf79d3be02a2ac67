use Rattle.automata.proofs.Words.{inclusion}
use Rattle.automata.proofs.inclusion_stands.Goals as goal

pub returns : goal.returns
returns g c = inclusion _
