-- What it is for a list of marks, a list of arrows and a relation to hold a reduction. Assumes nothing.
use Rattle.std.specs.Prelude.{◌≡◌, ℕ, ◌<◌, Bool, List, map, length}
use Rattle.std.specs.List.{AllZip, AllByRecursion}
use Rattle.automata.specs.declared.Arrow.{Arrow}
use Rattle.automata.specs.declared.Mark.{Mark}
use Rattle.automata.specs.Automata.{Automaton}
use Rattle.automata.specs.Reduction.{Tells, Reduction, reduced_marks, reduced_ends, reduced_kept}

abbrev pub ends : {P : Type 0} → List (Arrow P) → List (ℕ × ℕ)
ends arrows = map (λ x. (x.source, x.target)) arrows

-- the marks and the ends are those of the reduction, in its order, and a label holds of just what is left after step 4
pub record ReducedBook {P V : Type 0} (holds : P → V → Bool) (M : Automaton V) (K : ℕ → ℕ → Bool) (marks : List Mark) (arrows : List (Arrow P)) (L : ℕ → ℕ → Bool) : Type 0 where
  pub linked : ℕ → ℕ → Bool
  pub told : Tells M K linked
  pub marked : marks ≡ reduced_marks M K linked
  pub drawn : ends arrows ≡ reduced_ends M K linked
  pub labelled : AllByRecursion (λ x. (a : V) → holds x.label a ≡ (Reduction M K linked).reads x.source a x.target) arrows
  pub kept : (i j : ℕ) → i < length marks → j < length marks → L i j ≡ reduced_kept M K linked i j

-- the same marks, ends and kept pairs, and labels that hold of the same symbols
pub record SameBook {P V : Type 0} (holds : P → V → Bool) (marks marks' : List Mark) (arrows arrows' : List (Arrow P)) (L L' : ℕ → ℕ → Bool) : Type 0 where
  pub marked : marks ≡ marks'
  pub drawn : ends arrows ≡ ends arrows'
  pub labelled : AllZip (λ x y. (a : V) → holds x.label a ≡ holds y.label a) arrows arrows'
  pub kept : (i j : ℕ) → i < length marks → j < length marks → L i j ≡ L' i j
