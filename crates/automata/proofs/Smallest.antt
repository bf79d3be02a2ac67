-- A reduced automaton is a least one among those that simulate it and that it simulates. Assumes nothing.
use Rattle.std.proofs.Common.{◌≡◌, ℕ, ◌<◌, ◌≤◌, Bool, T, List, [], ◌∷◌, length, sym, subst}
use Rattle.std.specs.List.{AllZip, AllByRecursion}
use Rattle.std.proofs.lemmas.List.Elements.{length_all_zip}
use Rattle.automata.specs.Automata.{Automaton, Reachable, start, step, Linked, Links, Distinct}
use Rattle.automata.specs.Simulation.{SimulatedBy}
use Rattle.automata.specs.Minimal.{Reduced}
use Rattle.automata.proofs.Simulations.{composed, joins}
use Rattle.automata.proofs.Pigeons.{pigeons}

module _ {V : Type 0} (A B : Automaton V) (K : ℕ → ℕ → Bool) (red : Reduced A K) (S : ℕ → ℕ → Bool) (s : SimulatedBy A B S) (R : ℕ → ℕ → Bool) (r : SimulatedBy B A R) where
  -- p of A and b of B simulate one another
  record Twin (p b : ℕ) : Type 0 where
    in_A : p < A.size
    in_B : b < B.size
    up : T (S p b)
    down : T (R b p)

  -- through a state of B
  round : {p b q : ℕ} → p < A.size → b < B.size → q < A.size → T (S p b) → T (R b q) → T (K p q)
  round {p} {b} {q} hp hb hq x y = red.greatest.contains _ (composed s.simulation r.simulation) p q hp hq (joins _ S R _ _ hb x y)

  -- no two states have one twin
  one : {p q b : ℕ} → Twin p b → Twin q b → p ≡ q
  one x y = red.apart x.in_A y.in_A (round x.in_A x.in_B y.in_A x.up y.down) (round y.in_A y.in_B x.in_A y.up x.down)

  -- b is over p and under q, and nothing but p itself is over p
  twins : {p b q : ℕ} → p < A.size → b < B.size → q < A.size → T (S p b) → T (R b q) → (T (K p q) → p ≡ q) → Twin p b
  twins {p} {b} {q} hp hb hq x y highest =
      let e = highest (round hp hb hq x y) in
      record { in_A = hp; in_B = hb; up = x; down = subst (λ (z : ℕ). T (R b z)) (sym e) y }

  -- a twin of p reads what p reads, to a twin of where p reads it
  twin_step : {p b q : ℕ} (a : V) → Twin p b → q < A.size → T (A.reads p a q) → (c : ℕ) × T (B.reads b a c) × Twin q c
  twin_step a t hq x =
      let f = s.simulation.follows t.in_A t.in_B t.up hq x in
      let g = r.simulation.follows t.in_B t.in_A t.down f.here f.read in
      (f.to, f.read, twins hq f.here g.here f.kept g.kept (red.reads a t.in_A hq g.here x g.read))

  -- every state that is reached has a twin
  twin : {p : ℕ} → Reachable A p → (b : ℕ) × Twin p b
  twin (start h t) =
      let f = s.starts h t in
      let g = r.starts f.1 f.2 in
      (f.0, twins h f.1 g.1 f.3 g.3 (red.starts h g.1 t g.2))
  twin (step m a h t) = let b = twin m in let c = twin_step a b.1 h t in (c.0, c.2)

  pub fewest_states : A.size ≤ B.size
  fewest_states = pigeons A.size B.size Twin (λ p h. let t = twin (red.reached h) in (t.0, t.1.in_B, t.1)) (λ p q b hp hq x y. one x y)

  -- a link of B between twins of the ends of a link of A
  abbrev Over : ℕ × ℕ → ℕ × ℕ → Type 0
  Over l m = Twin l.0 m.0 × Twin l.1 m.1

  abbrev Link : Automaton V → ℕ × ℕ → Type 0
  Link M x = (x.0 < M.size) × (x.1 < M.size) × Linked M x.0 x.1

  over : (l : List (ℕ × ℕ)) → AllByRecursion (Link A) l → (m : List (ℕ × ℕ)) × AllByRecursion (Link B) m × AllZip Over l m
  over [] h = ([], tt, tt)
  over (x ∷ xs) h =
      let k = h.0 in
      let b = twin (red.reached k.0) in
      let c = twin_step k.2.0 b.1 k.1 k.2.1 in
      let rest = over xs h.1 in
      ((b.0, c.0) ∷ rest.0, ((b.1.in_B, c.2.in_B, (k.2.0, c.1)), rest.1), ((b.1, c.2), rest.2))

  single : (x z y w : ℕ × ℕ) → Over x y → Over z w → y ≡ w → x ≡ z
  single x z y w o u e = λ i. (one o.0 (subst (λ (v : ℕ × ℕ). Twin z.0 v.0) (sym e) u.0) i, one o.1 (subst (λ (v : ℕ × ℕ). Twin z.1 v.1) (sym e) u.1) i)

  apart : (x y : ℕ × ℕ) → Over x y → (xs ys : List (ℕ × ℕ)) → AllZip Over xs ys → AllByRecursion (λ z. x ≡ z → ⊥) xs → AllByRecursion (λ z. y ≡ z → ⊥) ys
  apart x y o [] [] os h = tt
  apart x y o [] (w ∷ ys) os h = absurd os
  apart x y o (z ∷ xs) [] os h = absurd os
  apart x y o (z ∷ xs) (w ∷ ys) os h = (λ e. h.0 (single x z y w o os.0 e), apart x y o xs ys os.1 h.1)

  distinct : (xs ys : List (ℕ × ℕ)) → AllZip Over xs ys → Distinct xs → Distinct ys
  distinct [] [] os h = tt
  distinct [] (y ∷ ys) os h = absurd os
  distinct (x ∷ xs) [] os h = absurd os
  distinct (x ∷ xs) (y ∷ ys) os h = (apart x y os.0 xs ys os.1 h.0, distinct xs ys os.1 h.1)

  pub fewest_links : (l : List (ℕ × ℕ)) → Links A l → (m : List (ℕ × ℕ)) × Links B m × (length m ≡ length l)
  fewest_links l h =
      let o = over l h.linked in
      (o.0, record { linked = o.1; distinct = distinct l o.0 o.2 h.distinct }, sym (length_all_zip Over l o.0 o.2))
