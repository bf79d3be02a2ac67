-- The ticket that is held for a book, and when a list of calls is declined. Assumes nothing.
use Rattle.std.specs.Prelude.{◌≡◌, ℕ, Bool, cond, List, Some, None, Ok, Err, Option, Result, nat_le}
use Rattle.std.specs.Result.{result_and, result_map_both}
use Rattle.histories.specs.declared.calls.Call.{Call}
use Rattle.histories.specs.declared.scene.Scene.{Scene}
use Rattle.rulebook.specs.declared.book.Ticket.{Ticket}
use Rattle.rulebook.specs.declared.parts.Condition.TheVariants.{Open}
use Rattle.rulebook.specs.declared.parts.Condition.{Condition}
use Rattle.rulebook.specs.declared.parts.Act.TheVariants.{Edits}
use Rattle.rulebook.specs.declared.parts.Refusal.{Refusal}
use Rattle.rulebook.specs.declared.parts.Refusal.TheVariants.{TooSmall}
use Rattle.rulebook.specs.Model.{Abstract, admitted}
use Rattle.rulebook.specs.View.{view, kept, lent_of, number_of}
use Rattle.histories.specs.Moments.{Moment, Said, Start, History}

-- a ticket that is held belongs to the book, which is open
abbrev pub Held : {P : Type 0} → Abstract P → Option Ticket → Type 0
Held b None = Unit {0}
Held b (Some t) = (b.condition ≡ Open) × (number_of t ≡ b.number)

-- a ticket that is held must be one to edit the book by
abbrev pub holding : {P : Type 0} → Abstract P → Option Ticket → Result Condition Refusal
holding b None = Ok b.condition
holding b (Some t) = admitted b (number_of t) Edits

-- a list of so many calls, with so many places for the answers: 8 or 7 for the ticket that is held, then 3
abbrev pub replaying : {P : Type 0} → Abstract P → Option Ticket → ℕ → ℕ → Result (Unit {0}) Refusal
replaying b held calls places = result_and (holding b held) (cond (nat_le calls places) (Ok tt) (Err TooSmall))

module _ {P V : Type 0} where
  -- what stands: a book, a target and words
  abbrev pub moment : Scene P V → Moment P
  moment s = record { book = view s.book.now; kept = kept s.book.now; target = view s.target.now; order = kept s.target.now; words = s.words.now }

  -- what is lent is what it was: the text, the words, the two books and their tables
  pub record SameLoans (old new : Scene P V) : Type 0 where
    pub text : new.text.now ≡ old.text.now
    pub words : new.words.ghost_name ≡ old.words.ghost_name
    pub book : new.book.ghost_name ≡ old.book.ghost_name
    pub target : new.target.ghost_name ≡ old.target.ghost_name
    pub table : lent_of new.book.now ≡ lent_of old.book.now
    pub into : lent_of new.target.now ≡ lent_of old.target.now

  -- the calls one after another, on the one scene and up to the other
  abbrev pub Plays : (P → V → Bool) → (P → Bool) → Scene P V → List (Call P) → List Said → Scene P V → Type 0
  Plays holds sat old calls answers new = History (Start holds (moment old)) old.text.now holds sat (moment old) calls answers (moment new)

-- whether a list of calls was declined, and why
abbrev pub said_replay : Result (Option Ticket) (Refusal × Option Ticket) → Result (Unit {0}) Refusal
said_replay r = result_map_both (λ _. tt) (λ e. e.0) r
