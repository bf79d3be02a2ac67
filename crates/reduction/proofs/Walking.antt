-- The classes that can be reached, visited one by one. Assumes nothing.
use Rattle.std.proofs.Common.{◌≡◌, ℕ, ◌<◌, ◌≤◌, Option, Some, None, MatchOption, zero-le, Bool, true, false, not, ◌&&◌, ◌||◌, T, List, length, get_or, set, Decides, sym, refl, ◌∙◌, subst, inl, inr, T_not, get_or-set_other, get_or-set_same}
use Rattle.std.proofs.lemmas.Bool.{cases_eq, or_cases, or_left, or_right, both_ways}
use Rattle.automata.specs.Below.{count}
use Rattle.automata.specs.Automata.{Automaton, Linked, Told, Reachable, start, step}
use Rattle.automata.proofs.Below.{count_less}
use Rattle.automata.proofs.Reach.{reachable_here}
use Rattle.reduction.proofs.Naming.{to_T, from_T}

module _ {V : Type 0} (M : Automaton V) where
  -- what is done is told, and leads to what is reached; the rest has no links yet
  pub record Walking (reached done : ℕ → Bool) (links : ℕ → ℕ → Bool) : Type 0 where
    pub sound : (c : ℕ) → c < M.size → reached c ≡ true → Reachable M c
    pub starts : (c : ℕ) → c < M.size → M.initial c ≡ true → reached c ≡ true
    pub told : (c d : ℕ) → c < M.size → d < M.size → done c ≡ true → Decides (links c d) (Linked M c d) × (links c d ≡ true → reached d ≡ true)
    pub empty : (c d : ℕ) → done c ≡ false → links c d ≡ false

  pub walking_none : (reached done : ℕ → Bool) (links : ℕ → ℕ → Bool) → ((c : ℕ) → c < M.size → reached c ≡ M.initial c) → ((c : ℕ) → done c ≡ false) → ((c d : ℕ) → links c d ≡ false) → Walking reached done links
  walking_none reached done links same none empty = record {
    sound = λ c h e. start h (to_T (sym (same c h) ∙ e));
    starts = λ c h e. same c h ∙ e;
    told = λ c d h k e. absurd (both_ways (done c) (none c) e);
    empty = λ c d _. empty c d;
  }

  pub walking_more : (reached done reached' done' : ℕ → Bool) (links links' : ℕ → ℕ → Bool) (c : ℕ) → c < M.size → reached c ≡ true
      → done' c ≡ true → ((i : ℕ) → (i ≡ c → ⊥) → done' i ≡ done i)
      → ((i j : ℕ) → (i ≡ c → ⊥) → links' i j ≡ links i j)
      → ((d : ℕ) → d < M.size → Decides (links' c d) (Linked M c d))
      → ((d : ℕ) → reached' d ≡ (links' c d || reached d))
      → Walking reached done links → Walking reached' done' links'
  walking_more reached done reached' done' links links' c hc at_c now' same_done same_links tells grown w = record {
    sound = λ d h e. elim (or_cases (links' c d) (reached d) (sym (grown d) ∙ e)) [
      | inl t ↦ let l = (tells d h).0 t in step (w.sound c hc at_c) l.0 h l.1
      | inr t ↦ w.sound d h t
    ];
    starts = λ d h e. grown d ∙ or_right (links' c d) (reached d) (w.starts d h e);
    told = λ i d hi hd e. elim (cases_eq i c) [
      | inl q ↦ subst (λ (x : ℕ). Decides (links' x d) (Linked M x d) × (links' x d ≡ true → reached' d ≡ true)) (sym q) (tells d hd, λ t. grown d ∙ or_left (links' c d) (reached d) t)
      | inr ne ↦
          let o = w.told i d hi hd (sym (same_done i ne) ∙ e) in
          (subst (λ (b : Bool). Decides b (Linked M i d)) (sym (same_links i d ne)) o.0, λ t. grown d ∙ or_right (links' c d) (reached d) (o.1 (sym (same_links i d ne) ∙ t)))
    ];
    empty = λ i d off. elim (cases_eq i c) [
      | inl q ↦ absurd (both_ways (done' i) off (subst (λ (x : ℕ). done' x ≡ true) (sym q) now'))
      | inr ne ↦ same_links i d ne ∙ w.empty i d (sym (same_done i ne) ∙ off)
    ];
  }

  module _ (reached done : ℕ → Bool) (links : ℕ → ℕ → Bool) (all_done : (c : ℕ) → c < M.size → reached c ≡ true → done c ≡ true) (w : Walking reached done links) where
    arrives : {c : ℕ} → Reachable M c → reached c ≡ true
    arrives (start {p = c} h t) = w.starts c h (from_T _ t)
    arrives (step {p = p} {q = q} m a h t) = let o = w.told p q (reachable_here m) h (all_done p (reachable_here m) (arrives m)) in o.1 (o.0.1 (a, t))

    pub walked_stays : (c : ℕ) → c < M.size → Decides (reached c) (Reachable M c)
    walked_stays c h = (w.sound c h, λ r. arrives r)

    pub walked_told : Told M (Reachable M) links
    walked_told = record {
      so = λ p q r h t. (w.told p q (reachable_here r) h (all_done p (reachable_here r) (arrives r))).0.0 (from_T _ t);
      if = λ p q r h l. to_T ((w.told p q (reachable_here r) h (all_done p (reachable_here r) (arrives r))).0.1 l);
    }

-- what a search for one that is reached and not done finds
pub first_waiting : (reached done : ℕ → Bool) (n : ℕ) (o : Option ℕ)
    → MatchOption o ((k : ℕ) → 0 ≤ k → k < n → (reached k && not (done k)) ≡ false) (λ c. (0 ≤ c) × (c < n) × ((reached c && not (done c)) ≡ true) × ((k : ℕ) → 0 ≤ k → k < c → (reached k && not (done k)) ≡ false))
    → MatchOption o ((c : ℕ) → c < n → reached c ≡ true → done c ≡ true) (λ c. (c < n) × (reached c ≡ true) × (done c ≡ false))
first_waiting reached done n None none = λ c h on. over (reached c) (done c) (none c zero-le h) on
  where
    over : (a b : Bool) → (a && not b) ≡ false → a ≡ true → b ≡ true
    over true true e on = refl
    over true false e on = sym e
    over false b e on = absurd (both_ways false refl on)
first_waiting reached done n (Some c) is = (is.1, left' (reached c) (done c) is.2, right' (reached c) (done c) is.2)
  where
    left' : (a b : Bool) → (a && not b) ≡ true → a ≡ true
    left' true b e = refl
    left' false b e = absurd (both_ways false refl e)

    right' : (a b : Bool) → (a && not b) ≡ true → b ≡ false
    right' true true e = absurd (both_ways false refl e)
    right' true false e = refl
    right' false b e = absurd (both_ways false refl e)

-- one more is done
pub fewer_left : (done : List Bool) (n c : ℕ) → c < n → c < length done → get_or done c false ≡ false
    → count (λ k. not (get_or (set done c true) k false)) n < count (λ k. not (get_or done k false)) n
fewer_left done n c h room off = count_less (λ k. not (get_or (set done c true) k false)) (λ k. not (get_or done k false)) n c
    (λ k _ t. elim (cases_eq k c) [
      | inl e ↦ absurd (T_not _ t (to_T (rw e here)))
      | inr ne ↦ subst (λ (b : Bool). T (not b)) (get_or-set_other done c k true false ne) t
    ])
    h (rw off tt) (λ t. T_not _ t (to_T here))
  where
    here : get_or (set done c true) c false ≡ true
    here = get_or-set_same done c true false room
