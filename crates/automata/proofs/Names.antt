-- Classes and their names, over a reflexive and transitive test; members, and the highest. Assumes nothing.
use Rattle.std.proofs.Common.{◌≡◌, ℕ, ◌<◌, ◌≤◌, Bool, T, eqb, ◌⊎◌, subst, inl, inr, ⊎_elim, arith, eqb→eq, T_not}
use lib.Dec.{not_T, eqb_refl}
use Rattle.std.proofs.lemmas.Bool.{cases_eq, cases_lt}
use Rattle.automata.specs.Reduction.{same, name, member, below, highest}
use Rattle.automata.proofs.Tests.{both, parts}
use Rattle.automata.proofs.Below.{found, finds, least_le, least_passes, least_none}
use Rattle.automata.proofs.Simulations.{Preorder}

pub equal : (p q : ℕ) → p ≡ q → T (eqb p q)
equal p q e = subst (λ (x : ℕ). T (eqb p x)) e (eqb_refl p)

module _ (K : ℕ → ℕ → Bool) where
  pub same_from : (p q : ℕ) → T (K p q) → T (K q p) → T (same K p q)
  unfolding same
  same_from p q x y = both _ _ x y

  pub same_to : (p q : ℕ) → T (same K p q) → T (K p q) × T (K q p)
  unfolding same
  same_to p q t = parts _ _ t

  pub name_le : (p : ℕ) → name K p ≤ p
  unfolding name
  name_le p = least_le p (same K p)

  name_none : (p q : ℕ) → q < name K p → T (same K p q) → ⊥
  unfolding name
  name_none p q h t = least_none p (same K p) q h t

  name_passes : (p : ℕ) → name K p < p → T (same K p (name K p))
  unfolding name
  name_passes p h = least_passes p (same K p) h

  pub member_from : (n : ℕ) (f : ℕ → Bool) (c p : ℕ) → p < n → name K p ≡ c → T (f p) → T (member n K f c)
  unfolding member
  member_from n f c p h e t = finds _ _ p h (both _ _ (equal (name K p) c e) t)

  pub member_to : (n : ℕ) (f : ℕ → Bool) (c : ℕ) → T (member n K f c) → (p : ℕ) × (p < n) × (name K p ≡ c) × T (f p)
  unfolding member
  member_to n f c t = let m = found _ _ t in let k = parts _ _ m.2 in (m.0, m.1, eqb→eq (name K m.0) c k.0, k.1)

  pub below_from : (c d : ℕ) → (c ≡ d → ⊥) → T (K c d) → T (below K c d)
  unfolding below
  below_from c d ne t = both _ _ (not_T _ (λ e. ne (eqb→eq c d e))) t

  pub below_to : (c d : ℕ) → T (below K c d) → (c ≡ d → ⊥) × T (K c d)
  unfolding below
  below_to c d t = let k = parts _ _ t in (λ e. T_not _ k.0 (equal c d e), k.1)

  pub highest_from : (n : ℕ) (f : ℕ → Bool) (c : ℕ) → T (f c) → ((e : ℕ) → e < n → T (f e) → T (K c e) → c ≡ e) → T (highest n K f c)
  unfolding highest
  highest_from n f c t none = both _ _ t (not_T _ (λ s. let m = found _ _ s in let k = parts _ _ m.2 in let u = below_to c m.0 k.1 in u.0 (none m.0 m.1 k.0 u.1)))

  pub highest_to : (n : ℕ) (f : ℕ → Bool) (c : ℕ) → T (highest n K f c) → T (f c) × ((e : ℕ) → e < n → T (f e) → T (K c e) → c ≡ e)
  unfolding highest
  highest_to n f c t =
      let k = parts _ _ t in
      (k.0, λ e h x y. ⊎_elim (λ s. s) (λ ne. absurd (T_not _ k.1 (finds _ _ e h (both _ _ x (below_from c e ne y))))) (cases_eq c e))

  -- with K reflexive and transitive below n
  module _ (n : ℕ) (pre : Preorder n K) where
    open pre use {self, trans}

    pub named : (p : ℕ) → p < n → T (K p (name K p)) × T (K (name K p) p)
    named p h = go (cases_eq (name K p) p)
      where
        go : (name K p ≡ p) ⊎ (name K p ≡ p → ⊥) → T (K p (name K p)) × T (K (name K p) p)
        go (inl e) = rw e (self h, self h)
        go (inr ne) = same_to p (name K p) (name_passes p (omega (arith, name_le p)))

    pub name_here : (p : ℕ) → p < n → name K p < n
    name_here p h = omega (arith, name_le p)

    -- the name is the least of what is kept both ways with p
    pub name_least : (p q : ℕ) → T (same K p q) → name K p ≤ q
    name_least p q t = ⊎_elim (λ h. absurd (name_none p q h t)) (λ h. h) (cases_lt q (name K p))

    lower : (p q : ℕ) → p < n → q < n → T (K p q) → T (K q p) → name K p ≤ name K q
    lower p q hp hq x y =
        let k = named q hq in
        let h = name_here q hq in
        name_least p (name K q) (same_from p (name K q) (trans hp hq h x k.0) (trans h hq hp k.1 y))

    pub one_name : (p q : ℕ) → p < n → q < n → T (K p q) → T (K q p) → name K p ≡ name K q
    one_name p q hp hq x y = omega (arith, lower p q hp hq x y, lower q p hq hp y x)

    pub name_self : (p : ℕ) → p < n → name K (name K p) ≡ name K p
    name_self p h = let k = named p h in one_name (name K p) p (name_here p h) h k.1 k.0
