-- Simulations, the greatest one, the pairs that are kept, and pairs that fail. Assumes nothing.
use Rattle.std.specs.Prelude.{ℕ, ◌<◌, Bool, ◌&&◌, T, ◌⊎◌}
use Rattle.automata.specs.Below.{any_below}
use Rattle.automata.specs.Automata.{Automaton}

-- from p to r through some q below n
abbrev pub through : ℕ → (ℕ → ℕ → Bool) → (ℕ → ℕ → Bool) → ℕ → ℕ → Bool
through n R S p r = any_below n (λ q. R p q && S q r)

module _ {V : Type 0} where
  -- q reads a to a state that is related to p'
  pub record Answer (N : Automaton V) (R : ℕ → ℕ → Bool) (q : ℕ) (a : V) (p' : ℕ) : Type 0 where
    pub to : ℕ
    pub here : to < N.size
    pub read : T (N.reads q a to)
    pub kept : T (R p' to)

  -- of each related pair: where the first accepts, so does the second, which answers each of its reads
  pub record Simulation (M N : Automaton V) (R : ℕ → ℕ → Bool) : Type 0 where
    pub accepts : {p q : ℕ} → p < M.size → q < N.size → T (R p q) → T (M.accepting p) → T (N.accepting q)
    pub follows : {p q : ℕ} → p < M.size → q < N.size → T (R p q) → {a : V} {p' : ℕ} → p' < M.size → T (M.reads p a p') → Answer N R q a p'

  -- each initial state of M is related to an initial state of N
  pub record SimulatedBy (M N : Automaton V) (R : ℕ → ℕ → Bool) : Type 0 where
    pub simulation : Simulation M N R
    pub starts : {p : ℕ} → p < M.size → T (M.initial p) → (q : ℕ) × (q < N.size) × T (N.initial q) × T (R p q)

  -- M is simulated by N
  abbrev pub Simulated : Automaton V → Automaton V → Type 0
  Simulated M N = (R : ℕ → ℕ → Bool) × SimulatedBy M N R

  -- every simulation is within K
  abbrev pub Wide : Automaton V → (ℕ → ℕ → Bool) → Type 0
  Wide M K = (R : ℕ → ℕ → Bool) → Simulation M M R → (p q : ℕ) → p < M.size → q < M.size → T (R p q) → T (K p q)

  pub record Greatest (M : Automaton V) (K : ℕ → ℕ → Bool) : Type 0 where
    pub simulation : Simulation M M K
    pub contains : Wide M K

  -- some simulation has the pair
  abbrev pub Kept : Automaton V → ℕ → ℕ → Type 0
  Kept M p q = (R : ℕ → ℕ → Bool) × Simulation M M R × T (R p q)

  -- K has just the pairs that some simulation has
  abbrev pub Keeps : Automaton V → (ℕ → ℕ → Bool) → Type 0
  Keeps M K = (p q : ℕ) → p < M.size → q < M.size → (T (K p q) → Kept M p q) × (Kept M p q → T (K p q))

  -- p has a read that q does not answer
  pub record Unanswered (M : Automaton V) (K : ℕ → ℕ → Bool) (p q : ℕ) : Type 0 where
    pub symbol : V
    pub to : ℕ
    pub here : to < M.size
    pub read : T (M.reads p symbol to)
    pub none : Answer M K q symbol to → ⊥

  -- the pair breaks one of the two rules
  abbrev pub Fails : Automaton V → (ℕ → ℕ → Bool) → ℕ → ℕ → Type 0
  Fails M K p q = (T (M.accepting p) × (T (M.accepting q) → ⊥)) ⊎ Unanswered M K p q
