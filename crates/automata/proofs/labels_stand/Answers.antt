use Rattle.automata.proofs.Labels.{labelled}
use Rattle.automata.proofs.labels_stand.Goals as goal

pub returns : goal.returns
returns g c = labelled _ _
