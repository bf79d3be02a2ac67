-- What the steps of settle promise one another, over the kept pairs before and after a step: the words of private contracts,
-- which the public ones do not cite. Assumes nothing.
use Rattle.std.specs.Prelude.{◌≡◌, ℕ, ◌+◌, ◌*◌, ◌<◌, ◌≤◌, Bool, true, false, not, ◌&&◌, ◌||◌, T, List, length, ◌≢◌, nat_lt, slice_index_or, MatchOption}
use Rattle.std.specs.declared.option.Option.{Option}
use Rattle.bits.specs.Matrix.{pair}
use Rattle.automata.specs.declared.Arrow.{Arrow}
use Rattle.automata.specs.declared.Mark.{Mark}
use Rattle.automata.specs.declared.Mark.TheVariants.{Neither}
use Rattle.automata.specs.Below.{count, pairs}
use Rattle.automata.specs.Automata.{Automaton, automaton, mark_accepts}
use Rattle.automata.specs.Simulation.{Answer, Wide}
use Rattle.engine.specs.declared.book.Indexed.{Indexed}

-- both are states, and q accepts where p does
unfoldable pub allowed : List Mark → ℕ → ℕ → Bool
allowed marks p q = (nat_lt p (length marks) && nat_lt q (length marks)) && (mark_accepts (slice_index_or marks q Neither) || not (mark_accepts (slice_index_or marks p Neither)))

-- the automaton of an indexed book
abbrev pub machine : {L P V : Type 0} → (L → P → V → Bool) → Indexed L P → Automaton V
machine holds b = automaton (holds b.labels.now) b.marks.now b.arrows.now

abbrev pub size : {L P : Type 0} → Indexed L P → ℕ
size b = length b.marks.now

-- `old` became `new` by k pairs that went, none of them of a simulation
pub record Swept {V : Type 0} (M : Automaton V) (old new : List ℕ) (k : ℕ) : Type 0 where
  pub count : pairs (pair new) M.size + k ≡ pairs (pair old) M.size
  pub fewer : (p q : ℕ) → pair new p q ≡ true → pair old p q ≡ true
  pub wide : Wide M (pair old) → Wide M (pair new)
  pub still : k ≡ 0 → new ≡ old

-- only pairs p, q with this q differ
abbrev pub Only : ℕ → (old new : List ℕ) → Type 0
Only q old new = (i j : ℕ) → (j ≢ q) → pair new i j ≡ pair old i j

-- `below` has each other state below n that is kept below q
abbrev pub Gathered : (n q : ℕ) → (rows below : List ℕ) → Type 0
Gathered n q rows below = (p : ℕ) → p < n → (p ≢ q) → pair rows p q ≡ true → pair below 0 p ≡ true

-- q answers each read of p
abbrev pub Answered : {V : Type 0} → Automaton V → (ℕ → ℕ → Bool) → ℕ → ℕ → Type 0
Answered {V} M K p q = (a : V) (p' : ℕ) → p' < M.size → T (M.reads p a p') → Answer M K q a p'

-- by `old`, q answers each read of the arrow that leads to t, if the arrow's source is kept below q in `new`
abbrev pub Met : {P V : Type 0} → (P → V → Bool) → Automaton V → (old new : List ℕ) (q t : ℕ) → Arrow P → Type 0
Met {P} {V} holds M old new q t x = x.target ≡ t → pair new x.source q ≡ true → (a : V) → holds x.label a ≡ true → Answer M (pair old) q a t

-- the flag of the arrow's source is set, if it leads to q
abbrev pub Woken : {P : Type 0} → ℕ → List ℕ → Arrow P → Type 0
Woken q flags x = x.target ≡ q → pair flags 0 x.source ≡ true

-- a state whose flag is off answers each read of what is kept below it
abbrev pub Quiet : {V : Type 0} → Automaton V → (rows flags : List ℕ) → Type 0
Quiet M rows flags = (q : ℕ) → q < M.size → pair flags 0 q ≡ false → (p : ℕ) → pair rows p q ≡ true → Answered M (pair rows) p q

-- a state from `low` up to `high` whose flag is set, if any is
abbrev pub Found : List ℕ → (low high : ℕ) → Option ℕ → Type 0
Found flags low high r = MatchOption r ((q : ℕ) → low ≤ q → q < high → pair flags 0 q ≡ false) (λ q. (q < high) × (pair flags 0 q ≡ true))

-- what is left to do: it falls with each visit
abbrev pub work : List ℕ → ℕ → List ℕ → ℕ
work rows n flags = pairs (pair rows) n * 257 + count (pair flags 0) 256
