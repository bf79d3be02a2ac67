use Rattle.automata.proofs.Classes.{steps}
use Rattle.automata.proofs.steps_stand.Goals as goal

pub returns : goal.returns
returns g c = steps _
