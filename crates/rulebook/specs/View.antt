-- The abstract book that a book stands for, the pairs that it keeps, what results say, and what a call makes of a book. Assumes nothing.
use Rattle.std.specs.Prelude.{◌≡◌, ℕ, Bool, length, take, IfErr, Result}
use Rattle.std.specs.Result.{result_map_both}
use Rattle.std.specs.Borrow.{GName}
use Rattle.bits.specs.Matrix.{pair}
use Rattle.rulebook.specs.declared.book.Book.{Book}
use Rattle.rulebook.specs.declared.book.Ticket.{Ticket}
use Rattle.rulebook.specs.declared.parts.Refusal.{Refusal}
use Rattle.rulebook.specs.Model.{Abstract, Outcome, Edited}

-- the number that a ticket bears
abbrev pub number_of : Ticket → ℕ
number_of t = t.number

module _ {P : Type 0} where
  abbrev pub view : Book P → Abstract P
  view b = record {
    number = b.inner.number;
    room = length b.slots.now;
    marks = take b.inner.states b.inner.marks;
    arrows = take b.inner.arrows b.slots.now;
    condition = b.inner.condition;
  }

  -- the pairs that the book keeps
  abbrev pub kept : Book P → ℕ → ℕ → Bool
  kept b = pair b.inner.rows.words

  -- the table that is lent to the book, by the name of the loan
  abbrev pub lent_of : Book P → GName
  lent_of b = b.slots.ghost_name

  -- the book is b now; the pairs that it keeps and its table are those that they were
  pub record Leaves (b : Abstract P) (old new : Book P) : Type 0 where
    pub leaves : view new ≡ b
    pub keeps : kept new ≡ kept old
    pub lent : lent_of new ≡ lent_of old

  -- a call of which this comes: its answer, and the book that it leaves; the kept pairs and the table are those that they were
  pub record Gives {R : Type 0} (o : Outcome P R) (said : Result R Refusal) (old new : Book P) : Type 0 where
    pub says : said ≡ o.answer
    pub leaves : view new ≡ o.next
    pub keeps : kept new ≡ kept old
    pub lent : lent_of new ≡ lent_of old

  -- the same of an edit, which also leaves what every edit leaves
  pub record Edits {R : Type 0} (o : Outcome P R) (said : Result R Refusal) (old new : Book P) : Type 0 where
    pub says : said ≡ o.answer
    pub leaves : view new ≡ o.next
    pub keeps : kept new ≡ kept old
    pub lent : lent_of new ≡ lent_of old
    pub same : Edited (view old) (view new)

-- a ticket says the number that it bears
abbrev pub said_ticket : Result Ticket Refusal → Result ℕ Refusal
said_ticket r = result_map_both number_of (λ e. e) r

-- whether settle was declined, and why
abbrev pub said_settled : Result ℕ (Refusal × Ticket) → Result (Unit {0}) Refusal
said_settled r = result_map_both (λ _. tt) (λ e. e.0) r

-- a declined settle hands the ticket back
abbrev pub handed_back : Result ℕ (Refusal × Ticket) → Ticket → Type 0
handed_back r t = IfErr r (λ e. e.1 ≡ t)
