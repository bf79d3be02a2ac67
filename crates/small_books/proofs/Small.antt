-- The small books, by computing. Assumes nothing.
use mathlib.Core.Path.{◌≡◌, refl, ◌∙◌}
use mathlib.Core.Bool.{Bool, true, false, not, ◌&&◌, ◌||◌}
use mathlib.Core.List.{List, []}
use Prim.Native.Nat.{ℕ, ◌-◌, ◌^◌}
use lib.Dec.{T, eqb, leb, ltb, lit<}
use Rattle.bits.specs.Bit.{bit}
use Rattle.labels.specs.Segments.{is_point, segment, point_holds}
use Rattle.automata.specs.declared.Arrow.{Arrow}
use Rattle.automata.specs.declared.Mark.{Mark}
use Rattle.automata.specs.Below.{any_below, least_below, sum_to, pairs, rising, rows}
use Rattle.automata.specs.Automata.{some_label}
use Rattle.automata.specs.Reduction.{same, name, member, below, highest, reached, Pruned, reduced_marks, reduced_ends}
use Rattle.small_books.specs.Books.{book, Settles, Reduces, SmallBooks}
use Rattle.small_books.proofs.Checked.{any_pair, fails, wrong, mistold, greatest_checked, told_checked, book_bounded, pruned_bounded}

-- no pair is wrongly kept or lacking, and so many are kept
settles : (marks : List Mark) (arrows : List (Arrow ℕ)) (K : ℕ → ℕ → Bool) (n : ℕ) → (T (any_pair (book marks arrows).size (wrong (book marks arrows) 64 K)) → ⊥) → pairs K (book marks arrows).size ≡ n → Settles marks arrows n
settles marks arrows K n right e = record { kept = K; greatest = greatest_checked (book marks arrows) 64 (book_bounded marks arrows) K right; counted = e }

-- and l tells the links
reduces : (marks : List Mark) (arrows : List (Arrow ℕ)) (K l : ℕ → ℕ → Bool) (n : ℕ) (marks' : List Mark) (ends' : List (ℕ × ℕ))
    → (T (any_pair (book marks arrows).size (wrong (book marks arrows) 64 K)) → ⊥) → pairs K (book marks arrows).size ≡ n
    → (T (any_pair (book marks arrows).size (mistold (Pruned (book marks arrows) K) 64 l)) → ⊥)
    → reduced_marks (book marks arrows) K l ≡ marks' → reduced_ends (book marks arrows) K l ≡ ends' → Reduces marks arrows n marks' ends'
unfolding settles
reduces marks arrows K l n marks' ends' right e tells m d = record {
  settles = settles marks arrows K n right e;
  linked = l;
  told = told_checked (Pruned (book marks arrows) K) 64 (pruned_bounded (book marks arrows) K 64 (book_bounded marks arrows)) l tells;
  marked = m;
  drawn = d;
}

flipped : (c : ℕ) → point_holds [] (2 ^ 64 - 1 - 1) c ≡ (is_point c && not (point_holds [] 1 c))
unfolding bit segment
flipped c = none (is_point c)
  where
    none : (b : Bool) → (b && false) ≡ (b && not (b && true))
    none true = refl
    none false = refl

uncut : (p : ℕ) → ((c : ℕ) → point_holds [] p c ≡ (is_point c && not (point_holds [] 1 c))) → (c : ℕ) → point_holds [] p c ≡ false
unfolding bit segment
uncut p others c = others c ∙ none (is_point c)
  where
    none : (b : Bool) → (b && not (b && true)) ≡ false
    none true = refl
    none false = refl

pub small_books : SmallBooks
unfolding any_pair fails wrong mistold any_below least_below some_label bit pairs sum_to rising rows same name member below highest reached segment
small_books = record {
  nothing = reduces _ _ (λ _ _. true) (λ _ _. false) _ _ _ (λ t. t) refl (λ t. t) refl refl;
  single = settles _ _ (λ _ _. true) _ (λ t. t) refl;
  empty_word = (0, lit< tt, tt, tt);
  below = reduces _ _ (λ p q. leb p q) (λ _ _. false) _ _ _ (λ t. t) refl (λ t. t) refl refl;
  twins = reduces _ _ (λ p q. eqb p q || (ltb 0 p && ltb 0 q)) (λ c d. eqb c 0 && eqb d 1) _ _ _ (λ t. t) refl (λ t. t) refl refl;
  joined = reduces _ _ (λ p q. eqb p q || (ltb p 2 && ltb q 2)) (λ c d. eqb c 0 && eqb d 2) _ _ _ (λ t. t) refl (λ t. t) refl refl;
  looped = settles _ _ (λ p q. leb q p) _ (λ t. t) refl;
  struck = settles _ _ (λ _ _. true) _ (λ t. t) refl;
  flipped = flipped;
  uncut = uncut;
  before = refl;
  after = refl;
  every_step = reduces _ _ (λ p q. eqb p q || (eqb p 3 || ((eqb p 0 && eqb q 2) || (eqb p 2 && eqb q 0)))) (λ c d. eqb c 0 && eqb d 1) _ _ _ (λ t. t) refl (λ t. t) refl refl;
}
