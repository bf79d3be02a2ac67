-- The kept pairs of a matrix, set one by one. Assumes nothing.
use Rattle.std.proofs.Common.{◌≡◌, ℕ, ◌+◌, Bool, true, false, ◌&&◌, ltb, List, sym, refl, ◌∙◌, inl, inr, arith}
use Rattle.std.proofs.lemmas.Bool.{cases_eq, lt-ltb, le-ltb, and_left}
use Rattle.std.proofs.lemmas.Bool.Decides.{nat_tests}
use Rattle.bits.specs.Matrix.{pair, Changed}

-- one place more, which is now as A has it
pub placed_more : (A f g : ℕ → Bool) (q : ℕ) → ((j : ℕ) → f j ≡ (ltb j q && A j)) → g q ≡ A q → ((j : ℕ) → (j ≡ q → ⊥) → g j ≡ f j) → (j : ℕ) → g j ≡ (ltb j (q + 1) && A j)
placed_more A f g q was here others j = elim (cases_eq j q) [
  | inl e ↦ rw (e, lt-ltb q (q + 1) (omega arith)) here
  | inr ne ↦ let s = others j ne in let o = was j in grind (arith, nat_tests)
]

-- the row i up to q, and the other rows as they were
pub record Row (A : ℕ → Bool) (old new : List ℕ) (i q : ℕ) : Type 0 where
  pub here : (j : ℕ) → pair new i j ≡ (ltb j q && A j)
  pub others : (p j : ℕ) → (p ≡ i → ⊥) → pair new p j ≡ pair old p j

module _ (A : ℕ → Bool) (old : List ℕ) (i : ℕ) where
  pub row_none : ((j : ℕ) → pair old i j ≡ false) → Row A old old i 0
  row_none empty = record { here = λ j. empty j ∙ sym (and_left (ltb j 0) (A j) (le-ltb j 0 (omega arith))); others = λ p j ne. refl }

  pub row_on : (new next : List ℕ) (q : ℕ) → A q ≡ true → Changed true new next i q → Row A old new i q → Row A old next i (q + 1)
  row_on new next q on changed r = record {
    here = placed_more A (pair new i) (pair next i) q r.here (changed.here ∙ sym on) (λ j ne. changed.others i j (λ _. ne));
    others = λ p j ne. changed.others p j (λ e _. ne e) ∙ r.others p j ne;
  }

  pub row_off : (new : List ℕ) (q : ℕ) → A q ≡ false → Row A old new i q → Row A old new i (q + 1)
  row_off new q off r = record {
    here = placed_more A (pair new i) (pair new i) q r.here (r.here q ∙ and_left (ltb q q) (A q) (le-ltb q q (omega arith)) ∙ sym off) (λ j ne. refl);
    others = r.others;
  }
