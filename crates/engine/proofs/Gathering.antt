-- Pairs that are added or taken out. Assumes nothing.
use Rattle.std.proofs.Common.{◌≡◌, ℕ, true, false, ◌⊎◌, List, sym, ap, ◌∙◌, inl, inr}
use Rattle.std.proofs.lemmas.Bool.{cases_eq, both_ways}
use Rattle.bits.specs.Matrix.{pair, Changed}
use Rattle.engine.specs.Columns.{Gathered}

pub same_pair : (i j p q : ℕ) → ((i ≡ p) × (j ≡ q)) ⊎ (i ≡ p → j ≡ q → ⊥)
same_pair i j p q = elim (cases_eq i p) [ inl e ↦ elim (cases_eq j q) [ inl d ↦ inl (e, d) | inr ne ↦ inr (λ _ d. ne d) ] | inr ne ↦ inr (λ e _. ne e) ]

-- a pair that is added, or taken out
pub changed_more : (old new : List ℕ) (p q : ℕ) → Changed true old new p q → (i j : ℕ) → pair old i j ≡ true → pair new i j ≡ true
changed_more old new p q c i j e = elim (same_pair i j p q) [
  | inl x ↦ ap (λ y. pair new y j) x.0 ∙ ap (pair new p) x.1 ∙ c.here
  | inr ne ↦ c.others i j ne ∙ e
]

pub changed_fewer : (old new : List ℕ) (p q : ℕ) → Changed false old new p q → (i j : ℕ) → pair new i j ≡ true → pair old i j ≡ true
changed_fewer old new p q c i j e = elim (same_pair i j p q) [
  | inl x ↦ absurd (both_ways (pair new i j) (ap (λ y. pair new y j) x.0 ∙ ap (pair new p) x.1 ∙ c.here) e)
  | inr ne ↦ sym (c.others i j ne) ∙ e
]

-- p goes from both
pub gathered_less : (n q p : ℕ) (rows rows' below below' : List ℕ) → Changed false rows rows' p q → Changed false below below' 0 p → Gathered n q rows below → Gathered n q rows' below'
gathered_less n q p rows rows' below below' c d g i h away e = elim (cases_eq i p) [
  | inl same ↦ absurd (both_ways (pair rows' i q) (ap (λ y. pair rows' y q) same ∙ c.here) e)
  | inr ne ↦ d.others 0 i (λ _ s. ne s) ∙ g i h away (changed_fewer rows rows' p q c i q e)
]
