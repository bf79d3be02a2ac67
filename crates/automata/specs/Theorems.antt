-- The theorems, each the contract of a function. Assumes nothing.
use Rattle.std.specs.Prelude.{◌≡◌, ℕ, ◌<◌, ◌≤◌, Bool, T, List, length, ◌==◌, ◌≢◌, nat_eq}
use Rattle.std.specs.List.{AllByRecursion}
use Rattle.automata.specs.declared.Arrow.{Arrow}
use Rattle.automata.specs.declared.Mark.{Mark}
use Rattle.automata.specs.Automata.{Automaton, automaton, Accepts, Reachable, Within}
use Rattle.automata.specs.Simulation.{Simulation, Simulated, Wide, Greatest, Keeps, Fails, through}
use Rattle.automata.specs.Reduction.{same, name, Merged, Pruned, Tells, staying, class, Reduction, reduced_ends, reduced_kept}
use Rattle.automata.specs.Labels.{Algebra, Lawful, merged_label, pruned_label}
use Rattle.automata.specs.Book.{ReducedBook, SameBook}
use Rattle.automata.specs.Minimal.{Equivalent, Reduced, Least, Minimal, Alike}

-- simulations, the greatest one, and the kept pairs
pub record Simulations (V : Type 0) : Type 0 where
  pub identity : (M : Automaton V) → Simulation M M nat_eq
  pub composed : (M N O : Automaton V) (R S : ℕ → ℕ → Bool) → Simulation M N R → Simulation N O S → Simulation M O (through N.size R S)
  pub reflexive : (M : Automaton V) (K : ℕ → ℕ → Bool) → Greatest M K → (p : ℕ) → p < M.size → T (K p p)
  pub transitive : (M : Automaton V) (K : ℕ → ℕ → Bool) → Greatest M K → (p q r : ℕ) → p < M.size → q < M.size → r < M.size → T (K p q) → T (K q r) → T (K p r)
  pub one : (M : Automaton V) (K L : ℕ → ℕ → Bool) → Greatest M K → Greatest M L → (p q : ℕ) → p < M.size → q < M.size → K p q ≡ L p q
  pub keeps : (M : Automaton V) (K : ℕ → ℕ → Bool) → (Greatest M K → Keeps M K) × (Keeps M K → Greatest M K)

-- to strike out a pair that fails keeps every simulation within; and where no pair fails, what is left is the greatest
pub record Settling (V : Type 0) : Type 0 where
  pub struck : (M : Automaton V) (K L : ℕ → ℕ → Bool) (p q : ℕ) → Wide M K → p < M.size → q < M.size → Fails M K p q → ((x y : ℕ) → (x ≡ p → y ≢ q) → T (K x y) → T (L x y)) → Wide M L
  pub done : (M : Automaton V) (K : ℕ → ℕ → Bool) → Wide M K → ((p q : ℕ) → p < M.size → q < M.size → T (K p q) → Fails M K p q → ⊥) → Greatest M K

-- every word that the first accepts, the second accepts
abbrev pub Inclusion : Type 0 → Type 0
Inclusion V = (M N : Automaton V) → Simulated M N → (w : List V) → Accepts M w → Accepts N w

-- a name is the least state kept both ways with the ones it names, and theirs alone; the classes that stay are
-- those that can be reached, and their numbers rise with their names
pub record Steps (V : Type 0) : Type 0 where
  pub named : (M : Automaton V) (K : ℕ → ℕ → Bool) → Greatest M K → (p : ℕ) → p < M.size → T (same K p (name K p)) × ((q : ℕ) → q < M.size → T (same K p q) → name K p ≤ q)
  pub classes : (M : Automaton V) (K : ℕ → ℕ → Bool) → Greatest M K → (p q : ℕ) → p < M.size → q < M.size → same K p q ≡ (name K p == name K q)
  pub stays : (M : Automaton V) (K linked : ℕ → ℕ → Bool) → Tells M K linked → (i : ℕ) → i < length (staying M K linked) → Reachable (Pruned M K) (class M K linked i)
  pub numbered : (M : Automaton V) (K linked : ℕ → ℕ → Bool) → Tells M K linked → (c : ℕ) → Reachable (Pruned M K) c → (i : ℕ) × (i < length (staying M K linked)) × (class M K linked i ≡ c)
  pub rises : (M : Automaton V) (K linked : ℕ → ℕ → Bool) (i j : ℕ) → i < j → j < length (staying M K linked) → class M K linked i < class M K linked j

-- the reduced automaton and the original simulate each other, and accept the same words
abbrev pub Faithful : Type 0 → Type 0
Faithful V = (M : Automaton V) (K linked : ℕ → ℕ → Bool) → Greatest M K → Tells M K linked → Equivalent M (Reduction M K linked)

-- the reduced automaton is reduced, and its greatest simulation is step 3's order and p, p
abbrev pub Reduces : Type 0 → Type 0
Reduces V = (M : Automaton V) (K linked : ℕ → ℕ → Bool) → Greatest M K → Tells M K linked → Reduced (Reduction M K linked) (reduced_kept M K linked)

-- no automaton that the original simulates and that simulates the original has fewer states or linked pairs
abbrev pub Fewest : Type 0 → Type 0
Fewest V = (M : Automaton V) (K linked : ℕ → ℕ → Bool) → Greatest M K → Tells M K linked → Least M (length (staying M K linked)) (length (reduced_ends M K linked))

-- the reads of step 2 and of step 4, written with join, meet and complement
pub record Labelled (P V : Type 0) : Type 0 where
  pub merged : (A : Algebra P V) → Lawful A → (marks : List Mark) (arrows : List (Arrow P)) (K : ℕ → ℕ → Bool) → AllByRecursion (Within (length marks)) arrows
      → (c d : ℕ) (a : V) → A.holds (merged_label A arrows K c d) a ≡ (Merged (automaton A.holds marks arrows) K).reads c a d
  pub pruned : (A : Algebra P V) → Lawful A → (marks : List Mark) (arrows : List (Arrow P)) (K : ℕ → ℕ → Bool) → AllByRecursion (Within (length marks)) arrows
      → (c d : ℕ) (a : V) → A.holds (pruned_label A arrows K c d) a ≡ (Pruned (automaton A.holds marks arrows) K).reads c a d
  pub told : (A : Algebra P V) → Lawful A → (marks : List Mark) (arrows : List (Arrow P)) (K : ℕ → ℕ → Bool) → AllByRecursion (Within (length marks)) arrows
      → Tells (automaton A.holds marks arrows) K (λ c d. A.satisfiable (pruned_label A arrows K c d))

-- marks and arrows that hold a reduction are that automaton, so that it is minimal; and there is only one such book
pub record Books (P V : Type 0) : Type 0 where
  pub alike : (holds : P → V → Bool) (M : Automaton V) (K : ℕ → ℕ → Bool) (marks : List Mark) (arrows : List (Arrow P)) (L : ℕ → ℕ → Bool)
      → (b : ReducedBook holds M K marks arrows L) → Alike (automaton holds marks arrows) (Reduction M K b.linked)
  pub minimal : (holds : P → V → Bool) (M : Automaton V) (K : ℕ → ℕ → Bool) (marks : List Mark) (arrows : List (Arrow P)) (L : ℕ → ℕ → Bool)
      → Greatest M K → ReducedBook holds M K marks arrows L → Minimal M (automaton holds marks arrows) L (length arrows)
  pub sole : (holds : P → V → Bool) (M : Automaton V) (K : ℕ → ℕ → Bool) (marks marks' : List Mark) (arrows arrows' : List (Arrow P)) (L L' : ℕ → ℕ → Bool)
      → ReducedBook holds M K marks arrows L → ReducedBook holds M K marks' arrows' L' → SameBook holds marks marks' arrows arrows' L L'
