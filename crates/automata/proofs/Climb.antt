-- Above each state that passes stands a highest one. Assumes nothing.
use Rattle.std.proofs.Common.{◌≡◌, ℕ, zero, suc, ◌<◌, ◌≤◌, Bool, T, ◌⊎◌, sym, refl, subst, inl, inr, not-suc-le-zero, arith}
use Rattle.std.proofs.lemmas.Bool.{cases_eq}
use Rattle.automata.specs.Reduction.{highest}
use Rattle.automata.proofs.Tests.{test}
use Rattle.automata.proofs.Simulations.{Preorder}
use Rattle.automata.proofs.Names.{highest_from}

-- over a preorder in which no two that pass are kept both ways
module _ (K : ℕ → ℕ → Bool) (n : ℕ) (pre : Preorder n K) (f : ℕ → Bool) (apart : (c d : ℕ) → c < n → d < n → T (f c) → T (f d) → T (K c d) → T (K d c) → c ≡ d) where
  open pre use {self, trans}

  -- a state over x that passes, with none over it below m
  record High (x m : ℕ) : Type 0 where
    at : ℕ
    here : at < n
    passes : T (f at)
    over : T (K x at)
    none : (k : ℕ) → k < m → T (f k) → T (K at k) → at ≡ k

  last : {m : ℕ} (P : ℕ → Type 0) → ((k : ℕ) → k < m → P k) → P m → (k : ℕ) → k < suc m → P k
  last {m} P g z k h = go (cases_eq k m)
    where
      go : (k ≡ m) ⊎ (k ≡ m → ⊥) → P k
      go (inl e) = subst P (sym e) z
      go (inr ne) = g k (omega arith)

  climb : {x : ℕ} → x < n → T (f x) → (m : ℕ) → m ≤ n → High x m
  climb {x} hx t zero h = record { at = x; here = hx; passes = t; over = self hx; none = λ k l. absurd (not-suc-le-zero l) }
  climb {x} hx t (suc m) h = go (climb hx t m (omega arith))
    where
      go : High x m → High x (suc m)
      go r = pick (test (f m)) (test (K r.at m)) (cases_eq r.at m)
        where
          stay : (T (f m) → T (K r.at m) → r.at ≡ m) → High x (suc m)
          stay here = record { at = r.at; here = r.here; passes = r.passes; over = r.over; none = last (λ k. T (f k) → T (K r.at k) → r.at ≡ k) r.none here }

          pick : T (f m) ⊎ (T (f m) → ⊥) → T (K r.at m) ⊎ (T (K r.at m) → ⊥) → (r.at ≡ m) ⊎ (r.at ≡ m → ⊥) → High x (suc m)
          pick (inr nf) b c = stay (λ u. absurd (nf u))
          pick (inl u) (inr nb) c = stay (λ _ s. absurd (nb s))
          pick (inl u) (inl b) (inl e) = stay (λ _ _. e)
          pick (inl u) (inl b) (inr ne) = record {
            at = m;
            here = h;
            passes = u;
            over = trans hx r.here h r.over b;
            -- what is over m is over where we stood, so it is where we stood, and m would be that too
            none = last (λ k. T (f k) → T (K m k) → m ≡ k)
                (λ k l v s.
                let hk : k < n = omega arith in
                let e : r.at ≡ k = r.none k l v (trans r.here h hk b s) in
                absurd (ne (apart r.at m r.here h r.passes u b (subst (λ (z : ℕ). T (K m z)) (sym e) s))))
                (λ _ _. refl);
          }

  pub climbed : {x : ℕ} → x < n → T (f x) → (e : ℕ) × (e < n) × T (highest n K f e) × T (K x e)
  climbed hx t = let r = climb hx t n (omega arith) in (r.at, r.here, highest_from K n f r.at r.passes r.none, r.over)
