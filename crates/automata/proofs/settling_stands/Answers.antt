use Rattle.automata.proofs.Settling.{settling}
use Rattle.automata.proofs.settling_stands.Goals as goal

pub returns : goal.returns
returns g c = settling _
