-- What an edit under a ticket makes of a book. Assumes nothing.
use Rattle.std.specs.Prelude.{◌≡◌, ℕ}
use Rattle.std.specs.Fn.{Once}
use Rattle.std.specs.Borrow.{Bor, MutBor}
use Rattle.rulebook.specs.declared.book.Ticket.{Ticket}
use Rattle.rulebook.specs.View.{number_of}

-- f, called at a `&mut` to x and a ticket with this number, may answer r and leave x' there
pub record Under {F T R : Type 0} (g : Once F (MutBor T × (Bor Ticket × Unit {0})) (R × (MutBor T × Unit {0}))) (f : F) (number : ℕ) (x : T) (r : R) (x' : T) : Type 0 where
  pub ticket : Bor Ticket
  pub bears : number_of ticket.now ≡ number
  pub shown : MutBor T
  pub shows : shown.now ≡ x
  pub left : MutBor T
  pub met : g.post f (shown, (ticket, tt)) (r, (left, tt))
  pub leaves : left.now ≡ x'
