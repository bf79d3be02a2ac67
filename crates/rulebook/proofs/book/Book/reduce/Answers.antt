use Rattle.rulebook.proofs.Reduced.{reduces_least}
use Rattle.rulebook.proofs.book.Book.reduce.Goals as goal

pub returns-clause-least : goal.returns-clause-least
returns-clause-least g c = reduces_least _ _ _ _ _ _ c.become_reduced.result c.become_reduced.ensures.made
