-- What it is to be equivalent, to be reduced, and to be least. Assumes nothing.
use Rattle.std.specs.Prelude.{◌≡◌, ℕ, ◌<◌, ◌≤◌, Bool, T, List, length}
use Rattle.automata.specs.Below.{pairs}
use Rattle.automata.specs.Automata.{Automaton, Accepts, Told, Links, Reachable}
use Rattle.automata.specs.Simulation.{Simulated, Greatest}

module _ {V : Type 0} where
  -- each simulates the other, and they accept the same words
  pub record Equivalent (M N : Automaton V) : Type 0 where
    pub up : Simulated M N
    pub down : Simulated N M
    pub words : (w : List V) → (Accepts M w → Accepts N w) × (Accepts N w → Accepts M w)

  -- K is the greatest simulation, and no two states simulate each other; of two states to which p reads a, and of two initial
  -- states, neither is below the other; every state is reached
  pub record Reduced (M : Automaton V) (K : ℕ → ℕ → Bool) : Type 0 where
    pub greatest : Greatest M K
    pub apart : {p q : ℕ} → p < M.size → q < M.size → T (K p q) → T (K q p) → p ≡ q
    pub reads : {p q r : ℕ} (a : V) → p < M.size → q < M.size → r < M.size → T (M.reads p a q) → T (M.reads p a r) → T (K q r) → q ≡ r
    pub starts : {p q : ℕ} → p < M.size → q < M.size → T (M.initial p) → T (M.initial q) → T (K p q) → p ≡ q
    pub reached : {p : ℕ} → p < M.size → Reachable M p

  -- N has at least so many states and linked pairs: as many different pairs can be listed, and no test for them counts fewer
  pub record AtLeast (N : Automaton V) (number links : ℕ) : Type 0 where
    pub states : number ≤ N.size
    pub listed : (l : List (ℕ × ℕ)) × Links N l × (length l ≡ links)
    pub counted : (linked : ℕ → ℕ → Bool) → Told N (λ p. p < N.size) linked → links ≤ pairs linked N.size

  -- every automaton that M simulates and that simulates M, of any number of states and with any sets of symbols
  abbrev pub Least : Automaton V → ℕ → ℕ → Type 0
  Least M number links = (N : Automaton V) → Simulated M N → Simulated N M → AtLeast N number links

  -- T, with the kept pairs L and so many linked pairs, is equivalent to M, reduced and least
  pub record Minimal (M T : Automaton V) (L : ℕ → ℕ → Bool) (links : ℕ) : Type 0 where
    pub equivalent : Equivalent M T
    pub reduced : Reduced T L
    pub least : Least M T.size links

  -- the same number of states, with the same marks and reads
  pub record Alike (M N : Automaton V) : Type 0 where
    pub size : M.size ≡ N.size
    pub initial : (p : ℕ) → p < M.size → M.initial p ≡ N.initial p
    pub accepting : (p : ℕ) → p < M.size → M.accepting p ≡ N.accepting p
    pub reads : (p : ℕ) (a : V) (q : ℕ) → p < M.size → q < M.size → M.reads p a q ≡ N.reads p a q
