-- What is reached in as many links as there are states is all that can be reached. Assumes nothing.
use Rattle.std.proofs.Common.{ℕ, zero, suc, ◌<◌, ◌≤◌, Bool, not, ◌&&◌, T, ◌⊎◌, inl, inr, ⊎_elim, zero-le, arith, T_not}
use lib.Dec.{not_T}
use Rattle.automata.specs.Below.{any_below, count}
use Rattle.automata.specs.Automata.{Automaton, Told, Reachable, start, step}
use Rattle.automata.specs.Reduction.{reached}
use Rattle.automata.proofs.Tests.{both, parts, or_l, or_r, ways, test, unless}
use Rattle.automata.proofs.Below.{found, finds, count_less, count_full}

module _ (n : ℕ) (l : ℕ → ℕ → Bool) (g : ℕ → Bool) where
  abbrev G : ℕ → ℕ → Bool
  G = reached n l g

  first : (d : ℕ) → T (g d) → T (G 0 d)
  unfolding reached
  first d t = t

  later : (m d : ℕ) → T (G m d) → T (G (suc m) d)
  unfolding reached
  later m d t = or_l _ _ t

  further : (m c d : ℕ) → c < n → T (G m c) → T (l c d) → T (G (suc m) d)
  unfolding reached
  further m c d h t x = or_r (G m d) _ (finds _ _ c h (both _ _ t x))

  came : (m d : ℕ) → T (G (suc m) d) → T (G m d) ⊎ ((c : ℕ) × (c < n) × T (G m c) × T (l c d))
  unfolding reached
  came m d t = ⊎_elim (λ u. inl u) (λ u. let k = found _ _ u in let s = parts _ _ k.2 in inr (k.0, k.1, s.0, s.1)) (ways (G m d) _ t)

  -- one link more leads to nothing new
  abbrev Closed : ℕ → Type 0
  Closed m = (d : ℕ) → d < n → T (G (suc m) d) → T (G m d)

  closed_more : (m : ℕ) → Closed m → Closed (suc m)
  closed_more m k d h t = ⊎_elim (λ u. u) (λ s. further m s.0 d s.1 (k s.0 s.1 s.2) s.3) (came (suc m) d t)

  -- each link leads to a new state, until nothing new is found
  grows : (m : ℕ) → Closed m ⊎ (m ≤ count (G m) n)
  grows zero = inr zero-le
  grows (suc m) = ⊎_elim (λ k. inl (closed_more m k)) (λ h. go h (test (any_below n (λ d. G (suc m) d && not (G m d))))) (grows m)
    where
      go : m ≤ count (G m) n → T (any_below n (λ d. G (suc m) d && not (G m d))) ⊎ (T (any_below n (λ d. G (suc m) d && not (G m d))) → ⊥) → Closed (suc m) ⊎ (suc m ≤ count (G (suc m)) n)
      go h (inl t) =
          let k = found _ _ t in
          let s = parts _ _ k.2 in
          let less = count_less (G m) (G (suc m)) n k.0 (λ d _. later m d) k.1 s.0 (T_not _ s.1) in
          inr (omega arith)
      go h (inr off) = inl (closed_more m (λ d hd t. unless (G m d) (λ not_d. off (finds _ _ d hd (both _ _ t (not_T _ not_d))))))

  closed : Closed n
  closed = ⊎_elim (λ k. k) (λ full d h t. count_full (G n) n d full h) (grows n)

  starts : (m d : ℕ) → T (g d) → T (G m d)
  starts zero d t = first d t
  starts (suc m) d t = later m d (starts m d t)

pub reachable_here : {V : Type 0} {M : Automaton V} {p : ℕ} → Reachable M p → p < M.size
reachable_here (start h t) = h
reachable_here (step m a h t) = h

module _ {V : Type 0} (M : Automaton V) (l : ℕ → ℕ → Bool) (told : Told M (Reachable M) l) where
  reached_so : (m d : ℕ) → d < M.size → T (reached M.size l M.initial m d) → Reachable M d
  unfolding reached
  reached_so zero d h t = start h t
  reached_so (suc m) d h t = go (λ c. reached_so m c) (came M.size l M.initial m d t)
    where
      go : ((c : ℕ) → c < M.size → T (reached M.size l M.initial m c) → Reachable M c) → T (reached M.size l M.initial m d) ⊎ ((c : ℕ) × (c < M.size) × T (reached M.size l M.initial m c) × T (l c d)) → Reachable M d
      go r (inl u) = r d h u
      go r (inr s) = let c = r s.0 s.1 s.2 in let x = told.so s.0 d c h s.3 in step c x.0 h x.1

  pub reached_is : (d : ℕ) → d < M.size → T (reached M.size l M.initial M.size d) → Reachable M d
  reached_is d h t = reached_so M.size d h t

  pub is_reached : {d : ℕ} → Reachable M d → T (reached M.size l M.initial M.size d)
  is_reached (start {p = p} h t) = starts M.size l M.initial M.size p t
  is_reached (step {p = p} {q = q} m a h t) = closed M.size l M.initial q h (further M.size l M.initial M.size p q (reachable_here m) (is_reached m) (told.if p q m h (a, t)))
