-- Names, marks and the highest classes, found one by one. Assumes nothing.
use Rattle.std.proofs.Common.{◌≡◌, ℕ, zero, suc, ◌+◌, ◌<◌, ◌≤◌, Bool, true, false, not, ◌&&◌, ◌||◌, T, eqb, Option, Some, None, MatchOption, unwrap_or, List, [], ◌∷◌, ◌++◌, map, length, get_or, set, replicate, sym, refl, ap, subst, ◌∙◌, inl, inr, add-one, add-zero, zero-add, zero-le, arith, get_or-set_other, get_or-set_same}
use Rattle.std.specs.List.{AllByRecursion, list_any, range_with_len}
use Rattle.std.proofs.ByRecursion.{all_from_every, All-get_or}
use Rattle.std.proofs.lemmas.List.Folds.{list_any-append}
use Rattle.std.proofs.lemmas.Bool.{cases_eq, cases_order, eq-eqb, ne_eqb, both_ways}
use Rattle.automata.specs.declared.Arrow.{Arrow}
use Rattle.automata.specs.declared.Mark.{Mark}
use Rattle.automata.specs.declared.Mark.TheVariants.{Neither, Initial, Accepting, Both}
use Rattle.automata.specs.Automata.{mark, mark_is_start, mark_accepts, Within}
use Rattle.automata.specs.Below.{any_below, least_below}
use Rattle.automata.specs.Reduction.{same, name, member, below, highest}
use Rattle.automata.proofs.Tests.{T_same, back}
use Rattle.reduction.specs.Filled.{EndsBelow}
use Rattle.reduction.specs.Sorted.{sources, Named}
use Rattle.bits.proofs.Pairs.{get_or_blank}
use Rattle.automata.proofs.Below.{least_le, least_passes, least_none}

pub to_T : {b : Bool} → b ≡ true → T b
to_T e = back e tt

pub from_T : (b : Bool) → T b → b ≡ true
from_T b t = T_same b true (λ _. tt) (λ _. t)

pub map_agree : {X Y : Type 0} (f g : X → Y) (xs : List X) → AllByRecursion (λ x. f x ≡ g x) xs → map f xs ≡ map g xs
map_agree f g [] e = refl
map_agree f g (x ∷ xs) e = rw (e.0, map_agree f g xs e.1)

range_more : (a n : ℕ) → range_with_len a (suc n) ≡ range_with_len a n ++ (a + n) ∷ []
range_more a zero = ap (λ x. x ∷ []) (sym (add-zero a))
range_more a (suc n) = ap (λ l. a ∷ l) (range_more (a + 1) n) ∙ (let e : a + 1 + n ≡ a + suc n = omega arith in ap (λ x. a ∷ (range_with_len (a + 1) n ++ x ∷ [])) e)

-- some number below n passes
any_below_is : (f : ℕ → Bool) (n : ℕ) → list_any f (range_with_len 0 n) ≡ any_below n f
unfolding any_below
any_below_is f zero = refl
any_below_is f (suc n) = ap (list_any f) (range_more 0 n) ∙ list_any-append f (range_with_len 0 n) ((0 + n) ∷ []) ∙ rw (any_below_is f n, zero-add n) (flip (any_below n f) (f n))
  where
    flip : (a b : Bool) → (a || (b || false)) ≡ (b || a)
    flip false false = refl
    flip false true = refl
    flip true false = refl
    flip true true = refl

-- the ends of all arrows, said arrow by arrow and of the list
pub all_ends : {P : Type 0} (n : ℕ) (xs : List (Arrow P)) → EndsBelow n xs → AllByRecursion (Within n) xs
all_ends n xs within = all_from_every (Within n) xs (λ k d _ lt. within k d lt)

pub ends_below : {P : Type 0} (n : ℕ) (xs : List (Arrow P)) → AllByRecursion (Within n) xs → EndsBelow n xs
ends_below n xs all k d lt = All-get_or (Within n) xs k d lt all

module _ (K : ℕ → ℕ → Bool) where
  -- the first that is kept both ways with p, or p
  name_is : (p r : ℕ) → r ≤ p → (r < p → same K p r ≡ true) → ((q : ℕ) → q < r → same K p q ≡ false) → r ≡ name K p
  unfolding name
  name_is p r low is none = elim (cases_order r (least_below p (same K p))) [
    | inl e ↦ e
    | inr (inl l) ↦ absurd (least_none p (same K p) r l (to_T (is (omega (arith, least_le p (same K p))))))
    | inr (inr l) ↦ absurd (both_ways _ (none _ l) (from_T _ (least_passes p (same K p) (omega arith))))
  ]

  -- what a search finds, or p
  pub name_found : (p : ℕ) (o : Option ℕ) → MatchOption o ((q : ℕ) → 0 ≤ q → q < p → same K p q ≡ false) (λ r. (0 ≤ r) × (r < p) × (same K p r ≡ true) × ((q : ℕ) → 0 ≤ q → q < r → same K p q ≡ false)) → unwrap_or o p ≡ name K p
  name_found p None none = name_is p p (omega arith) (λ l. absurd (omega arith)) (λ q l. none q zero-le l)
  name_found p (Some r) is = name_is p r (omega (arith, is.1)) (λ _. is.2) (λ q l. is.3 q zero-le l)

  pub sources_are : {P : Type 0} (n : ℕ) (names : List ℕ) → Named K n names → (xs : List (Arrow P)) → EndsBelow n xs → map (λ x. get_or names x.source 0) xs ≡ sources K xs
  sources_are n names named xs within = map_agree _ _ xs (all_from_every _ xs (λ k d _ lt. named (get_or xs k d).source (within k d lt).0))

  -- no state yet
  pub unmarked : (g : Mark → Bool) → g Neither ≡ false → (f : ℕ → Bool) (n c : ℕ) → g (get_or (replicate n Neither) c Neither) ≡ member 0 K f c
  unfolding member any_below
  unmarked g none f n c = ap g (get_or_blank n c Neither) ∙ none

  member_more : (f : ℕ → Bool) (p c : ℕ) → member (p + 1) K f c ≡ ((eqb (name K p) c && f p) || member p K f c)
  unfolding member any_below
  member_more f p c = rw add-one refl

  -- one state more
  pub marked_more : (g : Mark → Bool) (f : ℕ → Bool) (out : List Mark) (p c : ℕ) (x : Mark) → c ≡ name K p → c < length out → g x ≡ (f p || g (get_or out c Neither))
      → ((d : ℕ) → g (get_or out d Neither) ≡ member p K f d) → (d : ℕ) → g (get_or (set out c x) d Neither) ≡ member (p + 1) K f d
  marked_more g f out p c x named lt is was d = elim (cases_eq d c) [
    | inl e ↦ rw (member_more f p d, e, get_or-set_same out c x Neither lt, is, was c, eq-eqb (name K p) c (sym named)) refl
    | inr ne ↦ rw (member_more f p d, get_or-set_other out c d x Neither ne, ne_eqb (name K p) d (λ e. ne (sym e ∙ sym named))) (was d)
  ]

  -- what passes and is below no other that does
  pub highest_is : (n : ℕ) (f : ℕ → Bool) (c : ℕ) (b : Bool) → b ≡ list_any (λ e. f e && below K c e) (range_with_len 0 n) → f c ≡ true → not b ≡ highest n K f c
  unfolding highest
  highest_is n f c b e on = rw (on, e, any_below_is (λ e. f e && below K c e) n) refl

  pub highest_not : (n : ℕ) (f : ℕ → Bool) (c : ℕ) → f c ≡ false → false ≡ highest n K f c
  unfolding highest
  highest_not n f c off = rw off refl

-- the classes are marked as the first states of them, by whatever relation the names are
abbrev pub MergedBy : (Mark → Bool) → List ℕ → List Mark → ℕ → List Mark → Type 0
MergedBy g names marks n out = (K : ℕ → ℕ → Bool) → Named K (length marks) names → (c : ℕ) → g (get_or out c Neither) ≡ member n K (λ p. g (get_or marks p Neither)) c

pub merged_more : (g : Mark → Bool) (names : List ℕ) (marks out : List Mark) (p c : ℕ) (x m : Mark) → p < length marks → c ≡ get_or names p 0 → m ≡ get_or marks p Neither → c < length out → g x ≡ (g m || g (get_or out c Neither)) → MergedBy g names marks p out → MergedBy g names marks (p + 1) (set out c x)
merged_more g names marks out p c x m h name mark lt is was K named = marked_more K g (λ p. g (get_or marks p Neither)) out p c x (name ∙ named p h) lt (is ∙ ap (λ y. g y || g (get_or out c Neither)) mark) (was K named)

pub marked_all : (g : Mark → Bool) (names : List ℕ) (marks out : List Mark) (n : ℕ) → n ≡ length marks → MergedBy g names marks n out → MergedBy g names marks (length marks) out
marked_all g names marks out n e was = subst (λ k. MergedBy g names marks k out) e was

-- a mark says whether its state is initial, and whether it is accepting
pub mark_of_both : (m : Mark) → m ≡ mark (mark_is_start m) (mark_accepts m)
mark_of_both Neither = refl
mark_of_both Initial = refl
mark_of_both Accepting = refl
mark_of_both Both = refl
