-- What stands at a moment of a history, what is right to answer then, and what a history is. Assumes nothing.
use Rattle.std.specs.Prelude.{◌≡◌, ℕ, ◌+◌, ◌<◌, Bool, T, ◌⊎◌, List, [], ◌∷◌, length, take, drop, Ok, Err, Decides, MatchResult, Result}
use Rattle.std.specs.Result.{result_map_both}
use Rattle.bits.specs.Matrix.{pair}
use Rattle.automata.specs.Automata.{Automaton}
use Rattle.automata.specs.Automata as automata
use Rattle.automata.specs.Below.{pairs}
use Rattle.automata.specs.Simulation.{Keeps}
use Rattle.automata.specs.Simulation as simulation
use Rattle.automata.specs.Minimal.{Minimal}
use Rattle.reduction.specs.declared.Counts as reduction
use Rattle.rulebook.specs.declared.parts.Refusal.{Refusal}
use Rattle.rulebook.specs.declared.parts.Condition.TheVariants.{Settled}
use Rattle.rulebook.specs.Model.{Abstract, Outcome, machine, opening, adding_state, re_marking, adding_arrow, striking, settling, asking, copying}
use Rattle.rulebook.specs.Reducing.{Copied, ReduceGives}
use Rattle.histories.specs.declared.calls.Call.{Call}
use Rattle.histories.specs.declared.calls.Call.TheVariants.{Open, AddState, ReMark, AddArrow, Strike, Settle, Ask, CopyRows, TestWord, Reduce}
use Rattle.histories.specs.declared.calls.Answer.{Answer}
use Rattle.histories.specs.declared.calls.Answer.TheVariants as answer
use Rattle.histories.specs.Present.{left_by, part}

-- what a call says: an answer, or why it is declined
abbrev pub Said : Type 0
Said = Result Answer Refusal

-- what a result says: its value, by the case of an answer, or why the call is declined
abbrev pub said : {R : Type 0} → (R → Answer) → Result R Refusal → Said
said f r = result_map_both f (λ e. e) r

-- the same of what comes of a call
abbrev pub answering : {P R : Type 0} → (R → Answer) → Outcome P R → Outcome P Answer
answering f o = record { answer = said f o.answer; next = o.next }

-- a declined call says why; of an accepted one X holds
abbrev pub Unless : {R : Type 0} → Result R Refusal → Said → Type 0 → Type 0
Unless r a X = MatchResult r (λ _. X) (λ e. a ≡ Err e)

-- the book and the pairs that it keeps; what is lent beside the calls: the target with its pairs, and the words for rows
pub record Moment (P : Type 0) : Type 0 where
  pub book : Abstract P
  pub kept : ℕ → ℕ → Bool
  pub target : Abstract P
  pub order : ℕ → ℕ → Bool
  pub words : List ℕ

-- so many pairs of states are in some simulation
abbrev pub Counted : {V : Type 0} → Automaton V → ℕ → Type 0
Counted M n = (K : ℕ → ℕ → Bool) × Keeps M K × (n ≡ pairs K M.size)

-- the part from i up to j of the words, if there is such a part, holds the kept pairs; the rest is as it was
pub record CopiedPart (i j n : ℕ) (K : ℕ → ℕ → Bool) (old new : List ℕ) : Type 0 where
  pub here : Copied n K (part i j old) (part i j new)
  pub before : take i new ≡ take i old
  pub behind : drop (i + length (part i j old)) new ≡ drop (i + length (part i j old)) old
  pub long : length new ≡ length old

abbrev pub CopiesWhole : {R : Type 0} → Result R Refusal → ℕ → (ℕ → ℕ → Bool) → List ℕ → List ℕ → Type 0
CopiesWhole r n K old new = MatchResult r (λ _. Copied n K old new) (λ _. new ≡ old)

abbrev pub Copies : {R : Type 0} → Result R Refusal → (i j n : ℕ) → (ℕ → ℕ → Bool) → List ℕ → List ℕ → Type 0
Copies r i j n K old new = MatchResult r (λ _. CopiedPart i j n K old new) (λ _. new ≡ old)

-- what settle answers of the automaton, and what becomes of the kept pairs
abbrev pub Settles : {R V : Type 0} → Result R Refusal → Automaton V → (ℕ → ℕ → Bool) → Said → (ℕ → ℕ → Bool) → Type 0
Settles r M K a K' = MatchResult r (λ _. (n : ℕ) × (a ≡ Ok (answer.Pairs n)) × Keeps M K' × (n ≡ pairs K' M.size)) (λ e. (a ≡ Err e) × (K' ≡ K))

-- what reduce answers, and what becomes of the target
pub record FilledBy {P V : Type 0} (holds : P → V → Bool) (b : Abstract P) (K : ℕ → ℕ → Bool) (t : Abstract P) (L : ℕ → ℕ → Bool) (a : Said) (t' : Abstract P) (L' : ℕ → ℕ → Bool) : Type 0 where
  pub result : Result reduction.Counts Refusal
  pub says : a ≡ said answer.Counts result
  pub reduces : ReduceGives holds b K t L result t' L'

module _ {P : Type 0} where
  -- what is lent is as it was
  pub record Still (m n : Moment P) : Type 0 where
    pub target : n.target ≡ m.target
    pub order : n.order ≡ m.order
    pub words : n.words ≡ m.words

  -- rows go into their part of the words, or nothing is altered; nothing else that is lent changes
  pub record RowsCopied (i j : ℕ) (m n : Moment P) : Type 0 where
    pub target : n.target ≡ m.target
    pub order : n.order ≡ m.order
    pub words : Copies (copying m.book (length (part i j m.words))) i j (length m.book.marks) m.kept m.words n.words

  -- a settled book keeps no pair but of its states
  abbrev pub KeptWithin : Moment P → Type 0
  KeptWithin m = m.book.condition ≡ Settled → (p q : ℕ) → T (m.kept p q) → (p < length m.book.marks) × (q < length m.book.marks)

  -- no call but an accepted settle changes the kept pairs
  abbrev pub KeptBy : Moment P → Call P → Moment P → Type 0
  KeptBy m (Settle t) n = Unit {0}
  KeptBy m _ n = n.kept ≡ m.kept

module _ {P V : Type 0} where
  -- a settled book keeps exactly the pairs that some simulation has
  abbrev pub Whole : (P → V → Bool) → Moment P → Type 0
  Whole holds m = m.book.condition ≡ Settled → Keeps (machine holds m.book) m.kept

  -- a history starts from a book with no states, as a new one is, or from one that keeps the right pairs, as one that was just
  -- filled does, or one that another history left
  abbrev pub Start : (P → V → Bool) → Moment P → Type 0
  Start holds m = (m.book.marks ≡ []) ⊎ Whole holds m

  -- the target is what reduce makes of it
  pub record TargetFilled (holds : P → V → Bool) (m : Moment P) (a : Said) (n : Moment P) : Type 0 where
    pub target : FilledBy holds m.book m.kept m.target m.order a n.target n.order
    pub words : n.words ≡ m.words

  -- what a call does beside the book
  abbrev pub Beside : (P → V → Bool) → Moment P → Call P → Said → Moment P → Type 0
  Beside holds m (CopyRows i j) a n = RowsCopied i j m n
  Beside holds m Reduce a n = TargetFilled holds m a n
  Beside holds m _ a n = Still m n

  -- the target of an accepted reduce accepts the same words as the book, each simulates the other, nothing that does so has fewer
  -- states or linked pairs than the answer says, and the target keeps the right pairs, so that it is a start of its own
  pub record ReducedRight (holds : P → V → Bool) (b t : Abstract P) (L : ℕ → ℕ → Bool) (c : reduction.Counts) : Type 0 where
    pub minimal : Minimal (machine holds b) (machine holds t) L c.arrows
    pub states : c.states ≡ length t.marks
    pub arrows : c.arrows ≡ length t.arrows
    pub starts : Keeps (machine holds t) L

  -- what a call answers, whatever pairs the book keeps: its value, or why it is declined. Of an accepted settle it also says which
  -- pairs are then kept; what reduce answers stands with its target.
  abbrev pub Says : List V → (P → V → Bool) → (P → Bool) → Moment P → Call P → Said → Moment P → Type 0
  Says text holds sat m Open a n = a ≡ said answer.Ticket (opening m.book).answer
  Says text holds sat m (AddState t k) a n = a ≡ said answer.State (adding_state m.book t k).answer
  Says text holds sat m (ReMark t p k) a n = a ≡ said answer.Mark (re_marking m.book t p k).answer
  Says text holds sat m (AddArrow t p l q) a n = a ≡ said answer.Place (adding_arrow m.book t p l q (sat l)).answer
  Says text holds sat m (Strike t k) a n = a ≡ said (λ _. answer.Done) (striking m.book t k).answer
  Says text holds sat m (Settle t) a n = Settles (settling m.book t).answer (machine holds m.book) m.kept a n.kept
  Says text holds sat m (Ask p q) a n = a ≡ said answer.Kept (asking m.book m.kept p q)
  Says text holds sat m (CopyRows i j) a n = a ≡ said (λ _. answer.Done) (copying m.book (length (part i j m.words)))
  Says text holds sat m (TestWord i j) a n = (k : Bool) × (a ≡ Ok (answer.Accepts k)) × Decides k (automata.Accepts (machine holds m.book) (part i j text))
  Says text holds sat m Reduce a n = Unit {0}

  -- the answer that is right where the book stands as at m, and n is what then stands; a word is a part of the text
  abbrev pub Right : List V → (P → V → Bool) → (P → Bool) → Moment P → Call P → Said → Moment P → Type 0
  Right text holds sat m (Settle t) a n = Unless (settling m.book t).answer a ((k : ℕ) × (a ≡ Ok (answer.Pairs k)) × Counted (machine holds m.book) k)
  Right text holds sat m (Ask p q) a n = Unless (asking m.book m.kept p q) a ((k : Bool) × (a ≡ Ok (answer.Kept k)) × Decides k (simulation.Kept (machine holds m.book) p q))
  Right text holds sat m (CopyRows i j) a n = Unless (copying m.book (length (part i j m.words))) a ((a ≡ Ok answer.Done) × Keeps (machine holds m.book) (pair (part i j n.words)))
  Right text holds sat m Reduce a n = (c : reduction.Counts) → a ≡ Ok (answer.Counts c) → ReducedRight holds m.book n.target n.order c
  Right text holds sat m c a n = Says text holds sat m c a n

  -- one call: the book that then stands is the present one; the answer, what was lent and the kept pairs are as the call says, and these
  -- are pairs of states. Where W holds of the start, the answer is right, and a settled book keeps exactly the pairs that some simulation
  -- has.
  pub record Step (W : Type 0) (text : List V) (holds : P → V → Bool) (sat : P → Bool) (m : Moment P) (c : Call P) (a : Said) (n : Moment P) : Type 0 where
    pub book : n.book ≡ left_by sat m.book c
    pub beside : Beside holds m c a n
    pub says : Says text holds sat m c a n
    pub kept : KeptBy m c n
    pub within : KeptWithin n
    pub right : W → Right text holds sat m c a n
    pub whole : W → Whole holds n

  -- the calls one after another, from m to n
  abbrev pub History : Type 0 → List V → (P → V → Bool) → (P → Bool) → Moment P → List (Call P) → List Said → Moment P → Type 0
  History W text holds sat m [] [] n = n ≡ m
  History W text holds sat m [] (a ∷ more) n = ⊥
  History W text holds sat m (c ∷ cs) [] n = ⊥
  History W text holds sat m (c ∷ cs) (a ∷ more) n = (k : Moment P) × Step W text holds sat m c a k × History W text holds sat k cs more n
