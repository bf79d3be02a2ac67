-- The greatest simulation by striking out. Assumes nothing.
use Rattle.std.proofs.Common.{◌≡◌, ℕ, ◌<◌, Bool, ◌&&◌, T, inl, inr}
use Rattle.automata.specs.Below.{any_below}
use Rattle.automata.specs.Automata.{Automaton}
use Rattle.automata.specs.Simulation.{Simulation, Wide, Greatest, Fails}
use Rattle.automata.specs.Theorems.{Settling}
use Rattle.automata.proofs.Tests.{both, parts, unless}
use Rattle.automata.proofs.Below.{found, finds}

module _ {V : Type 0} (M : Automaton V) (K : ℕ → ℕ → Bool) (w : Wide M K) where
  -- no simulation has a pair that fails
  pub refuted : (R : ℕ → ℕ → Bool) (p q : ℕ) → Simulation M M R → p < M.size → q < M.size → Fails M K p q → T (R p q) → ⊥
  refuted R p q s hp hq (inl x) t = x.1 (s.accepts hp hq t x.0)
  refuted R p q s hp hq (inr u) t =
      let a = s.follows hp hq t u.here u.read in
      u.none (record { to = a.to; here = a.here; read = a.read; kept = w R s u.to a.to u.here a.here a.kept })

  struck : (L : ℕ → ℕ → Bool) (p q : ℕ) → p < M.size → q < M.size → Fails M K p q → ((x y : ℕ) → (x ≡ p → y ≡ q → ⊥) → T (K x y) → T (L x y)) → Wide M L
  struck L p q hp hq bad keeps R s x y hx hy t = keeps x y (λ e d. refuted R p q s hp hq bad (rw (e, d) at t)) (w R s x y hx hy t)

  done : ((p q : ℕ) → p < M.size → q < M.size → T (K p q) → Fails M K p q → ⊥) → Greatest M K
  done ok = record {
    simulation = record {
      accepts = λ {p} {q} hp hq t x. unless (M.accepting q) (λ n. ok p q hp hq t (inl (x, n)));
      follows = λ {p} {q} hp hq t {a} {p'} h x.
          let m = found _ _ (unless (any_below M.size (λ r. M.reads q a r && K p' r)) (λ n. ok p q hp hq t (inr (record { symbol = a; to = p'; here = h; read = x; none = λ y. n (finds _ _ y.to y.here (both _ _ y.read y.kept)) })))) in
          let k = parts _ _ m.2 in
          record { to = m.0; here = m.1; read = k.0; kept = k.1 };
    };
    contains = w;
  }

pub settling : (V : Type 0) → Settling V
settling V = record { struck = λ M K L p q w. struck M K w L p q; done = done }
