use Rattle.automata.proofs.Simulations.{simulations}
use Rattle.automata.proofs.simulations_stand.Goals as goal

pub returns : goal.returns
returns g c = simulations _
