-- An array made by calls that do not change the closure. Assumes nothing.
use denote.Param.Members.{Mut}
use Rattle.std.proofs.Common.{◌≡◌, ℕ, zero, suc, ◌+◌, ◌<◌, ◌≤◌, List, get_or, sym, subst, inl, inr, arith}
use Rattle.std.specs.Array.{IsFromFnResult, IsFromFnResultFrom}
use Rattle.std.specs.Fn.{Called}
use Rattle.std.proofs.lemmas.Bool.{cases_eq}

module _ {F B : Type 0} (g : Mut F (ℕ × Unit {0}) B) (f : F) (G : ℕ → B → Type 0) (calls : (i : ℕ) (y : B) (q : F) → Called g f (i, tt) y q → (q ≡ f) × G i y) (ys : List B) where
  made_from : (n i : ℕ) → IsFromFnResultFrom g f ys i n → (k : ℕ) (d : B) → i ≤ k → k < i + n → G k (get_or ys k d)
  made_from zero i made k d lo hi = absurd (omega arith)
  made_from (suc n) i made k d lo hi =
      let c = calls i made.1 made.0 made.3 in
      elim (cases_eq k i) [
        | inl e ↦ subst (λ j. G j (get_or ys j d)) (sym e) (subst (G i) (sym (made.2.1 d)) c.1)
        | inr ne ↦ made_from n (i + 1) (subst (λ p. IsFromFnResultFrom g p ys (i + 1) n) c.0 made.4) k d (omega arith) (omega arith)
      ]

  -- of each element holds what holds of the call at its index
  pub made_each : (n : ℕ) → IsFromFnResult g f ys n → (k : ℕ) (d : B) → k < n → G k (get_or ys k d)
  made_each n made k d lt = made_from n 0 made.each k d (omega arith) (omega arith)
