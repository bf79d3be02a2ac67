use Rattle.bits.proofs.Words.{word_laws}
use Rattle.bits.proofs.word_laws_stand.Goals as goal

pub returns : goal.returns
returns c = word_laws
