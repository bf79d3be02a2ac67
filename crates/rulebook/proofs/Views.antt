-- What a book lends to the engine is of the size that the engine asks. Assumes nothing.
use Rattle.std.proofs.Common.{◌≡◌, length, arith}
use Rattle.std.proofs.lemmas.List.{length-take-le}
use Rattle.rulebook.specs.declared.book.Book.{Book}
use Rattle.rulebook.specs.View.{view}

module _ {P : Type 0} (b : Book P) where
  pub states_are : length (view b).marks ≡ b.inner.states
  states_are = let few = b.inner.few_states in let whole = b.inner.all_marks in length-take-le b.inner.states b.inner.marks (omega arith)
