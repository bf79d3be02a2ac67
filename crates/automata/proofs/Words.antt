-- A simulation carries each accepting run over. Assumes nothing.
use Rattle.std.proofs.Common.{ℕ, ◌<◌, Bool, T, List, [], ◌∷◌}
use Rattle.automata.specs.Automata.{Automaton, AcceptsFrom}
use Rattle.automata.specs.Simulation.{Simulation}
use Rattle.automata.specs.Theorems.{Inclusion}

carried : {V : Type 0} {M N : Automaton V} {R : ℕ → ℕ → Bool} → Simulation M N R → {p q : ℕ} → p < M.size → q < N.size → T (R p q) → (w : List V) → AcceptsFrom M p w → AcceptsFrom N q w
carried s hp hq r [] h = s.accepts hp hq r h
carried s hp hq r (a ∷ w) h = let f = s.follows hp hq r h.1 h.2 in (f.to, f.here, f.read, carried s h.1 f.here f.kept w h.3)

pub inclusion : (V : Type 0) → Inclusion V
inclusion V M N s w h = let f = s.1.starts h.1 h.2 in (f.0, f.1, f.2, carried s.1.simulation h.1 f.1 f.3 w h.3)
