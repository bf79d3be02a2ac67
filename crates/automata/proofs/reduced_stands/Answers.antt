use Rattle.automata.proofs.Classes.{reduces}
use Rattle.automata.proofs.reduced_stands.Goals as goal

pub returns : goal.returns
returns g c = reduces _
