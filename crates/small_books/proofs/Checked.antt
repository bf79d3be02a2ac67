-- A greatest simulation and a test for links, checked by computing, where all symbols read are below a bound. Assumes nothing.
use mathlib.Core.Bool.{Bool, true, false, cond, not, ◌&&◌, ◌||◌}
use mathlib.Core.List.{List}
use mathlib.Core.Logic.{inl, inr, ⊎_elim}
use Prim.Native.Nat.{ℕ, ◌<◌}
use lib.Dec.{T, T_not, not_T, ltb, ltb→lt}
use Rattle.bits.specs.Bit.{bit}
use Rattle.automata.specs.declared.Arrow.{Arrow}
use Rattle.automata.specs.declared.Mark.{Mark}
use Rattle.automata.specs.Below.{any_below}
use Rattle.automata.specs.Automata.{Automaton, Reachable, Told, leads}
use Rattle.automata.specs.Simulation.{Wide, Greatest, Fails}
use Rattle.automata.specs.Reduction.{Pruned}
use Rattle.automata.proofs.Tests.{both, parts, or_l, or_r, ways, unless}
use Rattle.automata.proofs.Below.{found, finds}
use Rattle.automata.proofs.Reach.{reachable_here}
use Rattle.automata.proofs.Settling.{refuted, settling}
use Rattle.automata.proofs.Names.{member_to, highest_to}
use Rattle.automata.proofs.Labels.{label_found}
use Rattle.small_books.specs.Books.{book}

-- every symbol that M reads is below b
abbrev pub Bounded : Automaton ℕ → ℕ → Type 0
Bounded M b = (p a q : ℕ) → T (M.reads p a q) → a < b

-- a pair below n passes
unfoldable pub any_pair : ℕ → (ℕ → ℕ → Bool) → Bool
any_pair n f = any_below n (λ p. any_below n (f p))

pair_finds : (n : ℕ) (f : ℕ → ℕ → Bool) (p q : ℕ) → p < n → q < n → T (f p q) → T (any_pair n f)
unfolding any_pair
pair_finds n f p q hp hq t = finds _ _ p hp (finds _ _ q hq t)

module _ (M : Automaton ℕ) (b : ℕ) where
  -- the pair breaks a rule
  unfoldable pub fails : (ℕ → ℕ → Bool) → ℕ → ℕ → Bool
  fails K p q = (M.accepting p && not (M.accepting q)) || any_below b (λ a. any_below M.size (λ p'. M.reads p a p' && not (any_below M.size (λ q'. M.reads q a q' && K p' q'))))

  -- K has a pair that breaks a rule, or lacks one that breaks none even if all pairs are kept
  unfoldable pub wrong : (ℕ → ℕ → Bool) → ℕ → ℕ → Bool
  wrong K p q = cond (K p q) (fails K p q) (not (fails (λ _ _. true) p q))

  -- the test and what is read differ
  unfoldable pub mistold : (ℕ → ℕ → Bool) → ℕ → ℕ → Bool
  mistold l p q = cond (l p q) (not (any_below b (λ a. M.reads p a q))) (any_below b (λ a. M.reads p a q))

  module _ (bounded : Bounded M b) where
    fails_from : (K : ℕ → ℕ → Bool) (p q : ℕ) → Fails M K p q → T (fails K p q)
    unfolding fails
    fails_from K p q (inl x) = or_l (M.accepting p && not (M.accepting q)) _ (both _ _ x.0 (not_T _ x.1))
    fails_from K p q (inr u) = or_r (M.accepting p && not (M.accepting q)) _
        (finds _ _ u.symbol (bounded p u.symbol u.to u.read) (finds _ _ u.to u.here (both _ _ u.read
        (not_T _ (λ t. let m = found _ _ t in let k = parts _ _ m.2 in u.none (record { to = m.0; here = m.1; read = k.0; kept = k.1 }))))))

    fails_to : (K : ℕ → ℕ → Bool) (p q : ℕ) → T (fails K p q) → Fails M K p q
    unfolding fails
    fails_to K p q t = ⊎_elim
        (λ x. let k = parts _ _ x in inl (k.0, T_not _ k.1))
        (λ x. let a = found _ _ x in let m = found _ _ a.2 in let k = parts _ _ m.2 in
        inr (record { symbol = a.0; to = m.0; here = m.1; read = k.0; none = λ y. T_not _ k.1 (finds _ _ y.to y.here (both _ _ y.read y.kept)) }))
        (ways (M.accepting p && not (M.accepting q)) _ t)

    pub greatest_checked : (K : ℕ → ℕ → Bool) → (T (any_pair M.size (wrong K)) → ⊥) → Greatest M K
    unfolding wrong
    greatest_checked K right = (settling _).done M K wide (λ p q hp hq t bad. right (pair_finds _ (wrong K) p q hp hq (breaks (K p q) p q t (fails_from K p q bad))))
      where
        breaks : (k : Bool) (p q : ℕ) → T k → T (fails K p q) → T (cond k (fails K p q) (not (fails (λ _ _. true) p q)))
        breaks true p q t f = f
        breaks false p q t f = absurd t

        lacks : (k : Bool) (p q : ℕ) → (T k → ⊥) → (T (fails (λ _ _. true) p q) → ⊥) → T (cond k (fails K p q) (not (fails (λ _ _. true) p q)))
        lacks true p q t f = absurd (t tt)
        lacks false p q t f = not_T _ f

        wide : Wide M K
        wide R s p q hp hq t = unless (K p q) (λ out. right (pair_finds _ (wrong K) p q hp hq (lacks (K p q) p q out (λ bad. refuted M (λ _ _. true) (λ _ _ _ _ _ _ _. tt) R p q s hp hq (fails_to (λ _ _. true) p q bad) t))))

    pub told_checked : (l : ℕ → ℕ → Bool) → (T (any_pair M.size (mistold l)) → ⊥) → Told M (Reachable M) l
    unfolding mistold
    told_checked l right = record {
      so = λ p q r hq t. let hp = reachable_here r in let m = found _ _ (unless (any_below b (λ a. M.reads p a q)) (λ none. right (pair_finds _ (mistold l) p q hp hq (over (l p q) p q t none)))) in (m.0, m.2);
      if = λ p q r hq x. let hp = reachable_here r in unless (l p q) (λ out. right (pair_finds _ (mistold l) p q hp hq (under (l p q) p q out (finds _ _ x.0 (bounded p x.0 q x.1) x.1))));
    }
      where
        over : (k : Bool) (p q : ℕ) → T k → (T (any_below b (λ a. M.reads p a q)) → ⊥) → T (cond k (not (any_below b (λ a. M.reads p a q))) (any_below b (λ a. M.reads p a q)))
        over true p q t f = not_T _ f
        over false p q t f = absurd t

        under : (k : Bool) (p q : ℕ) → (T k → ⊥) → T (any_below b (λ a. M.reads p a q)) → T (cond k (not (any_below b (λ a. M.reads p a q))) (any_below b (λ a. M.reads p a q)))
        under true p q t f = absurd (t tt)
        under false p q t f = f

-- style marks are below 64
pub book_bounded : (marks : List Mark) (arrows : List (Arrow ℕ)) → Bounded (book marks arrows) 64
unfolding bit
book_bounded marks arrows p a q t = let x = label_found bit (leads p q) a arrows t in ltb→lt a 64 (parts (ltb a 64) _ x.3).0

-- what is left after step 4 was read
pub pruned_bounded : (M : Automaton ℕ) (K : ℕ → ℕ → Bool) (b : ℕ) → Bounded M b → Bounded (Pruned M K) b
pruned_bounded M K b bounded c a d t =
    let m = member_to K M.size _ c (highest_to K _ _ d t).0 in
    let k = member_to K M.size _ d m.3 in
    bounded m.0 a k.0 k.3
