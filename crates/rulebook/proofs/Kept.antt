-- Kept pairs as the invariants of a book say them. Assumes nothing.
use Rattle.std.proofs.Common.{◌≡◌, ℕ, ◌<◌, ◌≤◌, Bool, true, false, ◌&&◌, T, ◌⊎◌, List, sym, ap, ◌∙◌, inl, inr}
use Rattle.std.proofs.lemmas.Bool.{false≢true, cases_lt, and_parts}
use Rattle.bits.specs.Matrix.{pair}
use Rattle.automata.specs.Below.{any_below}
use Rattle.automata.specs.Simulation.{through}
use Rattle.automata.proofs.Tests.{both, parts}
use Rattle.automata.proofs.Below.{found, finds}
use Rattle.automata.proofs.Simulations.{Preorder}
use Rattle.reduction.proofs.Naming.{to_T, from_T}
use Rattle.rulebook.specs.declared.parts.Condition.{Condition}
use Rattle.rulebook.specs.declared.parts.Condition.TheVariants.{Settled}
use Rattle.rulebook.specs.Refusals.{is_settled}
use Rattle.rulebook.specs.Invariants.{Reflexive, Transitive, OnStates}

pub through_none : (K : ℕ → ℕ → Bool) (p r : ℕ) → through 0 K K p r ≡ true → ⊥
unfolding any_below
through_none K p r e = false≢true e

module _ (n : ℕ) (rows : List ℕ) where
  -- a kept pair is of states, where no other pair is kept
  inside : ((p q : ℕ) → (n ≤ p) ⊎ (n ≤ q) → pair rows p q ≡ false) → (p q : ℕ) → pair rows p q ≡ true → (p < n) × (q < n)
  inside empty p q e = (here p (λ l. false≢true (sym (empty p q (inl l)) ∙ e)), here q (λ l. false≢true (sym (empty p q (inr l)) ∙ e)))
    where
      here : (k : ℕ) → (n ≤ k → ⊥) → k < n
      here k f = elim (cases_lt k n) [ inl l ↦ l | inr l ↦ absurd (f l) ]

  kept-through : Preorder n (pair rows) → ((p q : ℕ) → pair rows p q ≡ true → (p < n) × (q < n)) → (p r : ℕ) → T (through n (pair rows) (pair rows) p r) → pair rows p r ≡ true
  kept-through o within p r t =
      let m = found n _ t in
      let k = parts _ _ m.2 in
      from_T _ (o.trans (within p m.0 (from_T _ k.0)).0 m.1 (within m.0 r (from_T _ k.1)).1 k.0 k.1)

  -- a preorder on the states and nothing beyond is what a settled book may keep
  pub ordered : (c : Condition) → Preorder n (pair rows) → ((p q : ℕ) → (n ≤ p) ⊎ (n ≤ q) → pair rows p q ≡ false) → Reflexive c n rows × Transitive c n rows × OnStates c n rows
  ordered c o empty = (
    (λ s p h. from_T _ (o.self h)),
    (λ p r e. kept-through o (inside empty) p r (to_T (and_parts (is_settled c) _ e).1)),
    λ p q e. inside empty p q (and_parts (is_settled c) _ e).1,
  )

  -- and what it keeps is one
  pub preorder_of : (c : Condition) → c ≡ Settled → Reflexive c n rows → Transitive c n rows → Preorder n (pair rows)
  preorder_of c s r t = record {
    self = λ {p} h. to_T (r s p h);
    trans = λ {p} {q} {r} hp hq hr x y. to_T (t p r (ap (λ x. is_settled x && through n (pair rows) (pair rows) p r) s ∙ from_T _ (finds n _ q hq (both _ _ x y))));
  }
