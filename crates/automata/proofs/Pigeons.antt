-- As many numbers below m as below n, if each below n has one of its own below m. Assumes nothing.
use Rattle.std.proofs.Common.{◌≡◌, ℕ, zero, suc, ◌<◌, ◌≤◌, ◌⊎◌, sym, refl, subst, inl, inr, suc-le-suc, zero-le, not-suc-le-zero, arith}
use Rattle.std.proofs.lemmas.Bool.{cases_eq}

pub pigeons : (n m : ℕ) (E : ℕ → ℕ → Type 0) → ((p : ℕ) → p < n → (b : ℕ) × (b < m) × E p b) → ((p q b : ℕ) → p < n → q < n → E p b → E q b → p ≡ q) → n ≤ m
pigeons zero m E f i = zero-le
pigeons (suc n) zero E f i = absurd (not-suc-le-zero (f n (omega arith)).1)
pigeons (suc n) (suc m) E f i = suc-le-suc (pigeons n m E' f' i')
  where
    last : (b : ℕ) × (b < suc m) × E n b
    last = f n (omega arith)

    E' : ℕ → ℕ → Type 0
    E' p b = (E p b × (b ≡ last.0 → ⊥)) ⊎ (E p m × (b ≡ last.0))

    alone : (p : ℕ) → p < n → (b : ℕ) → E p b → E n b → ⊥
    alone p h b x y = let e : p ≡ n = i p n b (omega arith) (omega arith) x y in omega arith

    put : (p : ℕ) → p < n → (b : ℕ) → b < suc m → E p b → (b ≡ m) ⊎ (b ≡ m → ⊥) → (b : ℕ) × (b < m) × E' p b
    put p h b hb x (inl e) =
        let y : E p m = subst (E p) e x in
        let ne : last.0 ≡ m → ⊥ = λ z. alone p h m y (subst (E n) z last.2) in
        (last.0, omega (arith, last.1, ne), inr (y, refl))
    put p h b hb x (inr ne) = (b, omega arith, inl (x, λ z. alone p h b x (subst (E n) (sym z) last.2)))

    f' : (p : ℕ) → p < n → (b : ℕ) × (b < m) × E' p b
    f' p h = let r = f p (omega arith) in put p h r.0 r.1 r.2 (cases_eq r.0 m)

    both : (p q b : ℕ) → p < n → q < n → E' p b → E' q b → p ≡ q
    both p q b hp hq (inl x) (inl y) = i p q b (omega arith) (omega arith) x.0 y.0
    both p q b hp hq (inl x) (inr y) = absurd (x.1 y.1)
    both p q b hp hq (inr x) (inl y) = absurd (y.1 x.1)
    both p q b hp hq (inr x) (inr y) = i p q m (omega arith) (omega arith) x.0 y.0

    i' : (p q b : ℕ) → p < n → q < n → E' p b → E' q b → p ≡ q
    i' = both
