-- Books over style marks as numbers, as another language hands them over, and what the two calls promise of them. Assumes
-- nothing.
use Rattle.std.specs.Prelude.{◌≡◌, ℕ, ◌<◌, ◌≤◌, Bool, false, ◌⊎◌, List, map, length, take, drop}
use Rattle.std.specs.List.{AllByRecursion}
use Rattle.automata.specs.declared.Arrow.{Arrow}
use Rattle.automata.specs.declared.Mark.{Mark}
use Rattle.automata.specs.declared.Mark.TheVariants.{Neither, Initial, Accepting, Both}
use Rattle.automata.specs.Automata.{Automaton, automaton, mark}
use Rattle.automata.specs.Below.{pairs}
use Rattle.automata.specs.Minimal.{Minimal}
use Rattle.automata.specs.Simulation.{Greatest, Keeps}
use Rattle.bits.specs.Bit.{bit}
use Rattle.bits.specs.Matrix.{pair}
use Rattle.reduction.specs.Filled.{Bounded, Filled}
use Rattle.exported.specs.declared.Rule.{Rule}

-- bit 0 of a code says that a state is initial, bit 1 that it is accepting
abbrev pub mark_of : ℕ → Mark
mark_of code = mark (bit code 0) (bit code 1)

abbrev pub code_of : Mark → ℕ
code_of Neither = 0
code_of Initial = 1
code_of Accepting = 2
code_of Both = 3

abbrev pub arrow_of : Rule → Arrow ℕ
arrow_of x = record { source = x.source; label = x.label; target = x.target }

abbrev pub rule_of : Arrow ℕ → Rule
rule_of x = record { source = x.source; target = x.target; label = x.label }

-- the automaton that the codes and the rules say: a label holds of the style marks whose bits are set
abbrev pub book_of : List ℕ → List Rule → Automaton ℕ
book_of codes rules = automaton bit (map mark_of codes) (map arrow_of rules)

-- the numbers make a book of at most 256 states and 8,192 arrows between them, and a whole matrix of pairs
pub record Sound (codes : List ℕ) (rules : List Rule) (rows : List ℕ) : Type 0 where
  pub book : Bounded (map mark_of codes) (map arrow_of rules)
  pub square : length rows ≡ 1024

-- the rows hold exactly the greatest simulation, and so many pairs
pub record Settled (codes : List ℕ) (rules : List Rule) (rows : List ℕ) (number : ℕ) : Type 0 where
  pub keeps : Keeps (book_of codes rules) (pair rows)
  pub greatest : Greatest (book_of codes rules) (pair rows)
  pub empty : (p q : ℕ) → (length codes ≤ p) ⊎ (length codes ≤ q) → pair rows p q ≡ false
  pub count : number ≡ pairs (pair rows) (length codes)

-- the buffers of a target can take any reduced book but for its arrows
pub record Roomy (codes rows : List ℕ) : Type 0 where
  pub states : 256 ≤ length codes
  pub square : length rows ≡ 1024

-- the first codes and rules and the rows are the reduction of a book by the pairs K, so many states and arrows; it is least if these
-- are the greatest simulation
pub record Made (M : Automaton ℕ) (K : ℕ → ℕ → Bool) (codes : List ℕ) (rules : List Rule) (rows : List ℕ) (states arrows : ℕ) : Type 0 where
  pub filled : Filled bit M K states arrows (map mark_of codes) (map arrow_of rules) rows
  pub small : AllByRecursion (λ c. c < 4) (take states codes)
  pub least : Greatest M K → Minimal M (book_of (take states codes) (take arrows rules)) (pair rows) arrows

-- what stands past the first k is as it was
abbrev pub Past : {X : Type 0} → ℕ → List X → List X → Type 0
Past k old new = drop k new ≡ drop k old
