-- The same state, and one simulation after another, are simulations; so the greatest is reflexive and transitive. Assumes nothing.
use Rattle.std.proofs.Common.{◌≡◌, ℕ, ◌<◌, Bool, T, eqb, subst, eqb→eq}
use lib.Dec.{eqb_refl}
use Rattle.automata.specs.Automata.{Automaton}
use Rattle.automata.specs.Simulation.{Simulation, Simulated, Greatest, Keeps, through}
use Rattle.automata.specs.Theorems.{Simulations}
use Rattle.automata.proofs.Tests.{both, parts, T_same}
use Rattle.automata.proofs.Below.{found, finds}

pub joins : (n : ℕ) (R S : ℕ → ℕ → Bool) (p r : ℕ) {q : ℕ} → q < n → T (R p q) → T (S q r) → T (through n R S p r)
joins n R S p r {q} h x y = finds _ _ q h (both _ _ x y)

pub record Preorder (n : ℕ) (K : ℕ → ℕ → Bool) : Type 0 where
  pub self : {p : ℕ} → p < n → T (K p p)
  pub trans : {p q r : ℕ} → p < n → q < n → r < n → T (K p q) → T (K q r) → T (K p r)

module _ {V : Type 0} where
  identity : (M : Automaton V) → Simulation M M eqb
  identity M = record {
    accepts = λ {p} {q} hp hq e t. subst (λ (x : ℕ). T (M.accepting x)) (eqb→eq p q e) t;
    follows = λ {p} {q} hp hq e {a} {p'} hp' t. record { to = p'; here = hp'; read = subst (λ (x : ℕ). T (M.reads x a p')) (eqb→eq p q e) t; kept = eqb_refl p' };
  }

  pub composed : {M N O : Automaton V} {R S : ℕ → ℕ → Bool} → Simulation M N R → Simulation N O S → Simulation M O (through N.size R S)
  composed {N = N} {R = R} {S = S} r s = record {
    accepts = λ hp hq t x. let m = found _ _ t in let k = parts _ _ m.2 in s.accepts m.1 hq k.1 (r.accepts hp m.1 k.0 x);
    follows = λ hp hq t hp' x.
        let m = found _ _ t in
        let k = parts _ _ m.2 in
        let f = r.follows hp m.1 k.0 hp' x in
        let g = s.follows m.1 hq k.1 f.here f.read in
        record { to = g.to; here = g.here; read = g.read; kept = joins _ R S _ _ f.here f.kept g.kept };
  }

  pub preorder : (M : Automaton V) (K : ℕ → ℕ → Bool) → Greatest M K → Preorder M.size K
  preorder M K g = record {
    self = λ {p} h. g.contains eqb (identity M) p p h h (eqb_refl p);
    trans = λ {p} {q} {r} hp hq hr x y. g.contains _ (composed g.simulation g.simulation) p r hp hr (joins _ K K _ _ hq x y);
  }

  pub simulated_trans : {M N O : Automaton V} → Simulated M N → Simulated N O → Simulated M O
  simulated_trans {N = N} r s = (
    through N.size r.0 s.0,
    record {
      simulation = composed r.1.simulation s.1.simulation;
      starts = λ hp t.
          let q = r.1.starts hp t in
          let u = s.1.starts q.1 q.2 in
          (u.0, u.1, u.2, joins _ r.0 s.0 _ _ q.1 q.3 u.3);
    },
  )

  one : (M : Automaton V) (K L : ℕ → ℕ → Bool) → Greatest M K → Greatest M L → (p q : ℕ) → p < M.size → q < M.size → K p q ≡ L p q
  one M K L g h p q hp hq = T_same (K p q) (L p q) (h.contains K g.simulation p q hp hq) (g.contains L h.simulation p q hp hq)

  -- all simulations together are one
  together : (M : Automaton V) (K : ℕ → ℕ → Bool) → Keeps M K → Greatest M K
  together M K k = record {
    simulation = record {
      accepts = λ {p} {q} hp hq t x. let s = (k p q hp hq).0 t in s.1.accepts hp hq s.2 x;
      follows = λ {p} {q} hp hq t {a} {p'} h x.
          let s = (k p q hp hq).0 t in
          let f = s.1.follows hp hq s.2 h x in
          record { to = f.to; here = f.here; read = f.read; kept = (k p' f.to h f.here).1 (s.0, s.1, f.kept) };
    };
    contains = λ R s p q hp hq t. (k p q hp hq).1 (R, s, t);
  }

pub simulations : (V : Type 0) → Simulations V
simulations V = record {
  identity = identity;
  composed = λ M N O R S r s. composed r s;
  reflexive = λ M K g p h. (preorder M K g).self h;
  transitive = λ M K g p q r hp hq hr x y. (preorder M K g).trans hp hq hr x y;
  one = one;
  keeps = λ M K. (λ g p q hp hq. (λ t. (K, g.simulation, t), λ s. g.contains s.0 s.1 p q hp hq s.2), together M K);
}
