-- An abstract book, and what each call answers and leaves of it. A refusal leaves the book as it was. Assumes nothing.
use Rattle.std.specs.Prelude.{◌≡◌, ℕ, ◌+◌, ◌*◌, min, Bool, cond, ◌&&◌, List, [], ◌∷◌, ◌++◌, length, Ok, Err, Result, ◌==◌, nat_le, nat_lt, slice_index_or, slice_set}
use Rattle.std.specs.Result.{result_and}
use Rattle.std.specs.List.{remove}
use Rattle.automata.specs.declared.Arrow.{Arrow}
use Rattle.automata.specs.declared.Mark.{Mark}
use Rattle.automata.specs.declared.Mark.TheVariants.{Neither}
use Rattle.automata.specs.Automata.{Automaton, automaton}
use Rattle.rulebook.specs.declared.parts.Condition.{Condition}
use Rattle.rulebook.specs.declared.parts.Condition.TheVariants.{Settled}
use Rattle.rulebook.specs.declared.parts.Act.{Act}
use Rattle.rulebook.specs.declared.parts.Act.TheVariants.{Opens, Edits, Settles, Reads}
use Rattle.rulebook.specs.declared.parts.Refusal.{Refusal}
use Rattle.rulebook.specs.declared.parts.Refusal.TheVariants.{StatesFull, NoSuchState, TooSmall, EmptyLabel, NoSuchArrow, ForeignTicket, TargetTaken}
use Rattle.rulebook.specs.Refusals.{judged, is_settled}

-- a book without its kept pairs, which stand beside it: they are free while it is open
pub record Abstract (P : Type 0) : Type 0 where
  pub number : ℕ
  pub room : ℕ
  pub marks : List Mark
  pub arrows : List (Arrow P)
  pub condition : Condition

pub record Outcome (P R : Type 0) : Type 0 where
  pub answer : Result R Refusal
  pub next : Abstract P

module _ {P : Type 0} where
  -- the automaton of the book, where `holds` says of which values a label holds
  abbrev pub machine : {V : Type 0} → (P → V → Bool) → Abstract P → Automaton V
  machine holds b = automaton holds b.marks b.arrows

  -- a new book
  abbrev pub fresh : ℕ → ℕ → Abstract P
  fresh number room = record { number = number; room = room; marks = []; arrows = []; condition = Settled }

  abbrev pub with_marks : Abstract P → List Mark → Abstract P
  with_marks b marks = record { number = b.number; room = b.room; marks = marks; arrows = b.arrows; condition = b.condition }

  abbrev pub with_arrows : Abstract P → List (Arrow P) → Abstract P
  with_arrows b arrows = record { number = b.number; room = b.room; marks = b.marks; arrows = arrows; condition = b.condition }

  abbrev pub with_condition : Abstract P → Condition → Abstract P
  with_condition b c = record { number = b.number; room = b.room; marks = b.marks; arrows = b.arrows; condition = c }

  abbrev pub refused : {R : Type 0} → Refusal → Abstract P → Outcome P R
  refused e b = record { answer = Err e; next = b }

  abbrev pub answers : {R : Type 0} → R → Abstract P → Outcome P R
  answers r b = record { answer = Ok r; next = b }

  -- p is a state
  abbrev pub state_exists : Abstract P → ℕ → Bool
  state_exists b p = nat_lt p (length b.marks)

  -- n more arrows have room: in the table, of which at most 8,192 places count
  abbrev pub has_room : Abstract P → ℕ → Bool
  has_room b n = nat_le (length b.arrows + n) (min b.room 8192)

  -- the condition that a call leaves, or why it is declined; under the ticket t a foreign ticket comes first
  abbrev pub admitted : Abstract P → ℕ → Act → Result Condition Refusal
  admitted b t act = cond (t == b.number) (judged b.condition act) (Err ForeignTicket)

  -- a call that is let through
  abbrev pub by : {R : Type 0} → Result Condition Refusal → Abstract P → (Condition → Outcome P R) → Outcome P R
  by (Ok c) b go = go c
  by (Err e) b go = refused e b

  -- what every edit leaves: the number, the room and the condition, and the whole book where it is settled
  pub record Edited (b b' : Abstract P) : Type 0 where
    pub number : b'.number ≡ b.number
    pub room : b'.room ≡ b.room
    pub condition : b'.condition ≡ b.condition
    pub still : b.condition ≡ Settled → b' ≡ b

  -- Open: 6. The answer is the number that the ticket bears.
  abbrev pub opening : Abstract P → Outcome P ℕ
  opening b = by (judged b.condition Opens) b (λ c. answers b.number (with_condition b c))

  -- Add state: 8, 7, 1. The answer is the new state's number.
  abbrev pub adding_state : Abstract P → ℕ → Mark → Outcome P ℕ
  adding_state b t m = by (admitted b t Edits) b (λ c.
      cond (nat_lt (length b.marks) 256)
      (answers (length b.marks) (with_marks b (b.marks ++ (m ∷ []))))
      (refused StatesFull b))

  -- Re-mark: 8, 7, 2. The answer is the old mark.
  abbrev pub re_marking : Abstract P → ℕ → ℕ → Mark → Outcome P Mark
  re_marking b t p m = by (admitted b t Edits) b (λ c.
      cond (state_exists b p)
      (answers (slice_index_or b.marks p Neither) (with_marks b (slice_set b.marks p m)))
      (refused NoSuchState b))

  -- Add arrow: 8, 7, 2, 4, 3, where `satisfiable` says whether the label has a symbol. The answer is the arrow's place.
  abbrev pub adding_arrow : Abstract P → ℕ → ℕ → P → ℕ → Bool → Outcome P ℕ
  adding_arrow b t p l q satisfiable = by (admitted b t Edits) b (λ c.
      cond (state_exists b p && state_exists b q)
      (cond satisfiable
      (cond (has_room b 1)
      (answers (length b.arrows) (with_arrows b (b.arrows ++ (record { source = p; label = l; target = q } ∷ []))))
      (refused TooSmall b))
      (refused EmptyLabel b))
      (refused NoSuchState b))

  -- Strike: 8, 7, 5. Later arrows move down one place.
  abbrev pub striking : Abstract P → ℕ → ℕ → Outcome P (Unit {0})
  striking b t k = by (admitted b t Edits) b (λ c.
      cond (nat_lt k (length b.arrows))
      (answers tt (with_arrows b (remove b.arrows k)))
      (refused NoSuchArrow b))

  -- Settle: 8, 7. How many pairs are kept is said beside it.
  abbrev pub settling : Abstract P → ℕ → Outcome P (Unit {0})
  settling b t = by (admitted b t Settles) b (λ c. answers tt (with_condition b c))

  -- Ask: 6, 2. The answer is whether p, q is among the kept pairs.
  abbrev pub asking : Abstract P → (ℕ → ℕ → Bool) → ℕ → ℕ → Result Bool Refusal
  asking b K p q = result_and (judged b.condition Reads) (cond (state_exists b p && state_exists b q) (Ok (K p q)) (Err NoSuchState))

  -- Copy rows into n words: 6, 3.
  abbrev pub copying : Abstract P → ℕ → Result (Unit {0}) Refusal
  copying b n = result_and (judged b.condition Reads) (cond (nat_le (4 * length b.marks) n) (Ok tt) (Err TooSmall))

  -- a settled book with no states
  abbrev pub book_is_empty : Abstract P → Bool
  book_is_empty b = is_settled b.condition && length b.marks == 0

  -- Reduce into the book t: 6, 9; whether 3 applies is said beside it.
  abbrev pub reducing : Abstract P → Abstract P → Result (Unit {0}) Refusal
  reducing b t = result_and (judged b.condition Reads) (cond (book_is_empty t) (Ok tt) (Err TargetTaken))
