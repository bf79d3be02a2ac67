use Rattle.automata.proofs.Classes.{faithful}
use Rattle.automata.proofs.faithful_stands.Goals as goal

pub returns : goal.returns
returns g c = faithful _
