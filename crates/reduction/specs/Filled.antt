-- What can be reduced, what the target then holds, and when it is refused. Assumes nothing.
use Rattle.std.specs.Prelude.{◌≡◌, ℕ, ◌<◌, ◌≤◌, min, Bool, false, ◌⊎◌, List, length, take, slice_index_or}
use Rattle.std.specs.List.{AllByRecursion}
use Rattle.automata.specs.declared.Arrow.{Arrow}
use Rattle.automata.specs.declared.Mark.{Mark}
use Rattle.automata.specs.Automata.{Automaton, Within}
use Rattle.automata.specs.Reduction.{Tells, reduced_ends}
use Rattle.automata.specs.Book.{ReducedBook}
use Rattle.bits.specs.Matrix.{pair}

-- at most 256 states and 8,192 arrows between them
pub record Bounded {P : Type 0} (marks : List Mark) (arrows : List (Arrow P)) : Type 0 where
  pub states : length marks ≤ 256
  pub few : length arrows ≤ 8192
  pub within : AllByRecursion (Within (length marks)) arrows

-- the same of the ends, arrow by arrow
abbrev pub EndsBelow : {P : Type 0} → ℕ → List (Arrow P) → Type 0
EndsBelow {P} n arrows = (k : ℕ) (d : Arrow P) → k < length arrows → Within n (slice_index_or arrows k d)

-- the target's first marks and arrows and its kept pairs are the reduction of M by K, and no other pair is kept
pub record Filled {P V : Type 0} (holds : P → V → Bool) (M : Automaton V) (K : ℕ → ℕ → Bool) (states number : ℕ) (marks : List Mark) (arrows : List (Arrow P)) (rows : List ℕ) : Type 0 where
  pub book : ReducedBook holds M K (take states marks) (take number arrows) (pair rows)
  pub rest : (p q : ℕ) → (states ≤ p) ⊎ (states ≤ q) → pair rows p q ≡ false
  pub states_fit : states ≤ length marks
  pub arrows_fit : number ≤ min (length arrows) 8192

-- a table of so many places, of which at most 8,192 count, has too few for the arrows of the reduction
abbrev pub Crowded : {V : Type 0} → Automaton V → (ℕ → ℕ → Bool) → ℕ → Type 0
Crowded M K room = (linked : ℕ → ℕ → Bool) → Tells M K linked → min room 8192 < length (reduced_ends M K linked)
