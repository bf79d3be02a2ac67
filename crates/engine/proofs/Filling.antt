-- The first fill of the matrix. Assumes nothing.
use Rattle.std.proofs.Common.{◌≡◌, ℕ, ◌+◌, ◌<◌, ◌≤◌, Bool, true, false, ◌&&◌, ◌||◌, ltb, List, length, get_or, sym, refl, ap, ◌∙◌, inl, inr, arith}
use Rattle.std.proofs.lemmas.List.{get_or_past}
use Rattle.std.proofs.lemmas.Bool.{cases_eq, cases_lt, lt-ltb, le-ltb, and_right}
use Rattle.std.proofs.lemmas.Bool.Decides.{nat_tests}
use Rattle.bits.specs.Matrix.{pair}
use Rattle.automata.specs.declared.Mark.{Mark}
use Rattle.automata.specs.declared.Mark.TheVariants.{Neither}
use Rattle.automata.specs.Automata.{mark_accepts}
use Rattle.engine.specs.Columns.{allowed}

module _ (marks : List Mark) (p q : ℕ) where
  pub allowed_accepting : p < length marks → mark_accepts (get_or marks p Neither) ≡ true → (ltb q (length marks) && mark_accepts (get_or marks q Neither)) ≡ allowed marks p q
  unfolding allowed
  allowed_accepting hp a = rw (lt-ltb p (length marks) hp, a) (ap (λ b. ltb q (length marks) && b) (either (mark_accepts (get_or marks q Neither))))
    where
      either : (b : Bool) → b ≡ (b || false)
      either true = refl
      either false = refl

  pub allowed_other : p < length marks → mark_accepts (get_or marks p Neither) ≡ false → (ltb q (length marks) && true) ≡ allowed marks p q
  unfolding allowed
  allowed_other hp a = rw (lt-ltb p (length marks) hp, a) (ap (λ b. ltb q (length marks) && b) (either (mark_accepts (get_or marks q Neither))))
    where
      either : (b : Bool) → true ≡ (b || true)
      either true = refl
      either false = refl

  pub allowed_row : length marks ≤ p → false ≡ allowed marks p q
  unfolding allowed
  allowed_row hp = rw (le-ltb p (length marks) hp)

  pub allowed_column : length marks ≤ q → false ≡ allowed marks p q
  unfolding allowed
  allowed_column hq = grind (arith, nat_tests)

-- a row of bits by what was asked of each state
pub row_of : (A : ℕ → Bool) (row : List ℕ) (n : ℕ) → ((q : ℕ) → q < n → pair row 0 q ≡ A q) → ((q : ℕ) → n ≤ q → pair row 0 q ≡ false) → (q : ℕ) → pair row 0 q ≡ (ltb q n && A q)
row_of A row n tested past q = elim (cases_lt q n) [
  | inl h ↦ tested q h ∙ ap (λ b. b && A q) (sym (lt-ltb q n h))
  | inr h ↦ past q h ∙ ap (λ b. b && A q) (sym (le-ltb q n h))
]

-- the same where the mark of what is no state passes no test
pub marked : (f : Mark → Bool) (marks : List Mark) (row : List ℕ) → f Neither ≡ false → ((q : ℕ) → q < length marks → pair row 0 q ≡ f (get_or marks q Neither)) → ((q : ℕ) → length marks ≤ q → pair row 0 q ≡ false)
    → (q : ℕ) → pair row 0 q ≡ f (get_or marks q Neither)
marked f marks row none tested past q = elim (cases_lt q (length marks)) [
  | inl h ↦ tested q h
  | inr h ↦ past q h ∙ sym none ∙ ap f (sym (get_or_past marks q Neither h))
]

-- one row more
pub filled_more : (marks : List Mark) (old new row : List ℕ) (p : ℕ) → ((i q : ℕ) → pair old i q ≡ (ltb i p && allowed marks i q)) → ((q : ℕ) → pair new p q ≡ pair row 0 q) → ((q : ℕ) → pair row 0 q ≡ allowed marks p q)
    → ((i q : ℕ) → (i ≡ p → ⊥) → pair new i q ≡ pair old i q) → (i q : ℕ) → pair new i q ≡ (ltb i (p + 1) && allowed marks i q)
filled_more marks old new row p was here is others i q = elim (cases_eq i p) [
  | inl e ↦ rw e (here q ∙ is q ∙ ap (λ b. b && allowed marks p q) (sym (lt-ltb p (p + 1) (omega arith))))
  | inr ne ↦ others i q ne ∙ was i q ∙ ap (λ b. b && allowed marks i q) (below i p ne)
]
  where
    below : (i p : ℕ) → (i ≡ p → ⊥) → ltb i p ≡ ltb i (p + 1)
    below i p ne = grind (arith, nat_tests)

pub filled_all : (marks : List Mark) (rows : List ℕ) (p : ℕ) → length marks ≤ p → ((i q : ℕ) → pair rows i q ≡ (ltb i p && allowed marks i q)) → (i q : ℕ) → pair rows i q ≡ allowed marks i q
filled_all marks rows p top was i q = was i q ∙ elim (cases_lt i (length marks)) [
  | inl h ↦ ap (λ b. b && allowed marks i q) (lt-ltb i p (omega arith))
  | inr h ↦ ap (λ b. ltb i p && b) (sym (allowed_row marks i q h)) ∙ and_right (ltb i p) false refl ∙ allowed_row marks i q h
]
