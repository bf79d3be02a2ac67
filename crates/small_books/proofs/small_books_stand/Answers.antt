use Rattle.small_books.proofs.Small.{small_books}
use Rattle.small_books.proofs.small_books_stand.Goals as goal

pub returns : goal.returns
returns c = small_books
