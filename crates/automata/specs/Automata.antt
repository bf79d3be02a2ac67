-- Automata over any type of symbols, made from marks and arrows; the words that they accept, and the states that they reach.
-- Sets and relations are tests, and only states below `size` count. Assumes nothing.
use Rattle.std.specs.Prelude.{ℕ, ◌<◌, Bool, true, false, ◌&&◌, ◌||◌, T, List, [], ◌∷◌, length, ◌==◌, ◌≢◌, slice_index_or}
use Rattle.std.specs.List.{AllByRecursion}
use Rattle.automata.specs.declared.Arrow.{Arrow}
use Rattle.automata.specs.declared.Mark.{Mark}
use Rattle.automata.specs.declared.Mark.TheVariants.{Neither, Initial, Accepting, Both}

pub record Automaton (V : Type 0) : Type 0 where
  pub size : ℕ
  pub initial : ℕ → Bool
  pub accepting : ℕ → Bool
  pub reads : ℕ → V → ℕ → Bool

abbrev pub mark_is_start : Mark → Bool
mark_is_start Neither = false
mark_is_start Initial = true
mark_is_start Accepting = false
mark_is_start Both = true

abbrev pub mark_accepts : Mark → Bool
mark_accepts Neither = false
mark_accepts Initial = false
mark_accepts Accepting = true
mark_accepts Both = true

-- the mark of a state that is initial, and accepting, or not
abbrev pub mark : Bool → Bool → Mark
mark false false = Neither
mark true false = Initial
mark false true = Accepting
mark true true = Both

-- some arrow that passes has a label that holds of a
unfoldable pub some_label : {P V : Type 0} → (P → V → Bool) → (Arrow P → Bool) → List (Arrow P) → V → Bool
some_label holds f [] a = false
some_label holds f (x ∷ xs) a = (f x && holds x.label a) || some_label holds f xs a

-- the arrow leads from p to q
abbrev pub leads : {P : Type 0} → ℕ → ℕ → Arrow P → Bool
leads p q x = x.source == p && x.target == q

-- p reads a to q when some arrow from p to q has a label that holds of a
abbrev pub automaton : {P V : Type 0} → (P → V → Bool) → List Mark → List (Arrow P) → Automaton V
automaton holds marks arrows = record {
  size = length marks;
  initial = λ p. mark_is_start (slice_index_or marks p Neither);
  accepting = λ p. mark_accepts (slice_index_or marks p Neither);
  reads = λ p a q. some_label holds (leads p q) arrows a;
}

-- both ends of the arrow exist
abbrev pub Within : {P : Type 0} → ℕ → Arrow P → Type 0
Within n x = (x.source < n) × (x.target < n)

module _ {V : Type 0} where
  -- from p the word leads to an accepting state
  abbrev pub AcceptsFrom : Automaton V → ℕ → List V → Type 0
  AcceptsFrom M p [] = T (M.accepting p)
  AcceptsFrom M p (a ∷ w) = (q : ℕ) × (q < M.size) × T (M.reads p a q) × AcceptsFrom M q w

  abbrev pub Accepts : Automaton V → List V → Type 0
  Accepts M w = (p : ℕ) × (p < M.size) × T (M.initial p) × AcceptsFrom M p w

  -- p reads at least one symbol to q
  abbrev pub Linked : Automaton V → ℕ → ℕ → Type 0
  Linked M p q = (a : V) × T (M.reads p a q)

  -- the states that some word leads to
  pub data Reachable (M : Automaton V) : ℕ → Type 0 where
    start : {p : ℕ} → p < M.size → T (M.initial p) → Reachable M p
    step : {p q : ℕ} → Reachable M p → (a : V) → q < M.size → T (M.reads p a q) → Reachable M q

  -- the test tells to which states those in D are linked
  pub record Told (M : Automaton V) (D : ℕ → Type 0) (linked : ℕ → ℕ → Bool) : Type 0 where
    pub so : (p q : ℕ) → D p → q < M.size → T (linked p q) → Linked M p q
    pub if : (p q : ℕ) → D p → q < M.size → Linked M p q → T (linked p q)

-- no two places hold the same
abbrev pub Distinct : {X : Type 0} → List X → Type 0
Distinct [] = Unit {0}
Distinct (x ∷ xs) = AllByRecursion (λ y. x ≢ y) xs × Distinct xs

-- different pairs of linked states
pub record Links {V : Type 0} (M : Automaton V) (l : List (ℕ × ℕ)) : Type 0 where
  pub linked : AllByRecursion (λ x. (x.0 < M.size) × (x.1 < M.size) × Linked M x.0 x.1) l
  pub distinct : Distinct l
