-- What holds of every book: the ends of its arrows exist, and while it is settled its kept pairs are reflexive and
-- transitive on its states and nothing beyond. Assumes nothing.
use Rattle.std.specs.Prelude.{◌≡◌, ℕ, ◌<◌, true, ◌&&◌, List, slice_index_or}
use Rattle.bits.specs.Matrix.{pair}
use Rattle.automata.specs.declared.Arrow.{Arrow}
use Rattle.automata.specs.Automata.{Within}
use Rattle.automata.specs.Simulation.{through}
use Rattle.rulebook.specs.declared.parts.Condition.{Condition}
use Rattle.rulebook.specs.declared.parts.Condition.TheVariants.{Settled}
use Rattle.rulebook.specs.Refusals.{is_settled}

-- both ends of each of the first m arrows are among the first n states
abbrev pub EndsIn : {P : Type 0} → ℕ → ℕ → List (Arrow P) → Type 0
EndsIn {P} n m xs = (k : ℕ) (d : Arrow P) → k < m → Within n (slice_index_or xs k d)

abbrev pub Reflexive : Condition → ℕ → List ℕ → Type 0
Reflexive c n rows = c ≡ Settled → (p : ℕ) → p < n → pair rows p p ≡ true

-- what is kept through a state is kept
abbrev pub Transitive : Condition → ℕ → List ℕ → Type 0
Transitive c n rows = (p r : ℕ) → (is_settled c && through n (pair rows) (pair rows) p r) ≡ true → pair rows p r ≡ true

-- only pairs of states are kept
abbrev pub OnStates : Condition → ℕ → List ℕ → Type 0
OnStates c n rows = (p q : ℕ) → (is_settled c && pair rows p q) ≡ true → (p < n) × (q < n)
