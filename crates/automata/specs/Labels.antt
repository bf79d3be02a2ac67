-- The labels of step 2 and of step 4, written with join, meet and complement. Assumes nothing.
use Rattle.std.specs.Prelude.{◌≡◌, ℕ, Bool, false, cond, not, ◌&&◌, ◌||◌, T, List, [], ◌∷◌, ◌==◌}
use Rattle.automata.specs.declared.Arrow.{Arrow}
use Rattle.automata.specs.Reduction.{name, below}

-- predicates over symbols, and what is done with them
pub record Algebra (P V : Type 0) : Type 0 where
  pub symbol : V → Bool
  pub holds : P → V → Bool
  pub satisfiable : P → Bool
  pub none : P
  pub join : P → P → P
  pub meet : P → P → P
  pub complement : P → P

-- a predicate holds of symbols only, and the operations mean what they are called
pub record Lawful {P V : Type 0} (A : Algebra P V) : Type 0 where
  pub proper : (p : P) (a : V) → T (A.holds p a) → T (A.symbol a)
  pub none : (a : V) → A.holds A.none a ≡ false
  pub join : (p q : P) (a : V) → A.holds (A.join p q) a ≡ (A.holds p a || A.holds q a)
  pub meet : (p q : P) (a : V) → A.holds (A.meet p q) a ≡ (A.holds p a && A.holds q a)
  pub complement : (p : P) (a : V) → A.holds (A.complement p) a ≡ (A.symbol a && not (A.holds p a))
  pub sample : (p : P) → T (A.satisfiable p) → (a : V) × T (A.holds p a)
  pub fits : (p : P) (a : V) → T (A.holds p a) → T (A.satisfiable p)

-- the arrow leads from a state of the class c to one of the class d; to one of a class above d
unfoldable pub between : {P : Type 0} → (ℕ → ℕ → Bool) → ℕ → ℕ → Arrow P → Bool
between K c d x = name K x.source == c && name K x.target == d

unfoldable pub over : {P : Type 0} → (ℕ → ℕ → Bool) → ℕ → ℕ → Arrow P → Bool
over K c d x = name K x.source == c && below K d (name K x.target)

module _ {P V : Type 0} (A : Algebra P V) where
  -- the join of the labels of the arrows that pass
  unfoldable pub joined : (Arrow P → Bool) → List (Arrow P) → P
  joined f [] = A.none
  joined f (x ∷ xs) = cond (f x) (A.join x.label (joined f xs)) (joined f xs)

  -- step 2: the label from C to D
  abbrev pub merged_label : List (Arrow P) → (ℕ → ℕ → Bool) → ℕ → ℕ → P
  merged_label arrows K c d = joined (between K c d) arrows

  -- step 4: from it go the symbols that are also on C to E, for each E above D
  abbrev pub pruned_label : List (Arrow P) → (ℕ → ℕ → Bool) → ℕ → ℕ → P
  pruned_label arrows K c d = A.meet (merged_label arrows K c d) (A.complement (joined (over K c d) arrows))
