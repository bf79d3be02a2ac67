-- What is worked out of a book before it is reduced: its classes, with their names, marks and arrows. Assumes nothing.
use Rattle.std.specs.Prelude.{◌≡◌, ℕ, ◌<◌, Bool, List, map, slice_index}
use Rattle.labels.specs.declared.LabelAlgebra.{Ghosts}
use Rattle.automata.specs.declared.Arrow.{Arrow}
use Rattle.automata.specs.Automata.{Automaton, automaton}
use Rattle.automata.specs.Reduction.{name, Pruned}
use Rattle.bits.specs.Matrix.{pair}
use Rattle.reduction.specs.declared.source.Source.{Source}

-- the classes of the arrows' sources
abbrev pub sources : {P : Type 0} → (ℕ → ℕ → Bool) → List (Arrow P) → List ℕ
sources K arrows = map (λ x. name K x.source) arrows

-- each state below n has its name
abbrev pub Named : (ℕ → ℕ → Bool) → ℕ → List ℕ → Type 0
Named K n names = (p : ℕ) → p < n → slice_index names p ≡ name K p

module _ {A V P : Type 0} {G : Ghosts A V P} where
  -- the kept pairs of a book, its automaton, and what this is after merging and pruning
  abbrev pub kept_of : Source A V P G → ℕ → ℕ → Bool
  kept_of s = pair s.rows.now.words

  abbrev pub book_of : Source A V P G → Automaton V
  book_of s = automaton (G.holds s.labels.now) s.marks.now s.arrows.now

  abbrev pub pruned_of : Source A V P G → Automaton V
  pruned_of s = Pruned (book_of s) (kept_of s)
