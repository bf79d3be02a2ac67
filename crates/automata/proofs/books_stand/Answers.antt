use Rattle.automata.proofs.Book.{books}
use Rattle.automata.proofs.books_stand.Goals as goal

pub returns : goal.returns
returns g c = books _ _
