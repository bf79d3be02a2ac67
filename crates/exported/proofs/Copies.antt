-- Lists copied element by element, with a function applied. Assumes nothing.
use Rattle.std.proofs.Common.{◌≡◌, ℕ, ◌+◌, ◌<◌, ◌≤◌, List, [], ◌∷◌, map, length, get_or, take, drop, set, sym, refl, ap, ◌∙◌, ap₂, subst, inl, inr, arith, get_or-set_other, get_or-set_same, length-take-le}
use Rattle.std.specs.List.{AllByRecursion}
use Rattle.std.proofs.lemmas.Bool.{cases_eq}
use Rattle.std.proofs.lemmas.List.{same_lists, length-map, get_or-take, get_or-map, get_or_default, drop-set-lt}

-- one element more, of which R holds
pub made_more : {X Y : Type 0} (R : X → Y → Type 0) (xs : List X) (ys : List Y) (i : ℕ) (x : X) (y : Y) → i < length xs → i < length ys → x ≡ get_or xs i x → R x y
    → ((k : ℕ) (d : X) (e : Y) → k < i → R (get_or xs k d) (get_or ys k e)) → (k : ℕ) (d : X) (e : Y) → k < i + 1 → R (get_or xs k d) (get_or (set ys i y) k e)
made_more R xs ys i x y hx hy is here was k d e lt = elim (cases_eq k i) [
  | inl same ↦ subst (λ j. R (get_or xs j d) (get_or (set ys i y) j e)) (sym same)
      (subst (R (get_or xs i d)) (sym (get_or-set_same ys i y e hy)) (subst (λ z. R z y) (is ∙ get_or_default xs i x d hx) here))
  | inr ne ↦ subst (R (get_or xs k d)) (sym (get_or-set_other ys i k y e ne)) (was k d e (omega arith))
]

-- what is made of each element by a function is the map
pub made_map : {X Y : Type 0} (f : X → Y) (x : X) (xs : List X) (ys : List Y) → length xs ≤ length ys → ((k : ℕ) (d : X) (e : Y) → k < length xs → get_or ys k e ≡ f (get_or xs k d)) → take (length xs) ys ≡ map f xs
made_map f x xs ys room made =
    let long : length (take (length xs) ys) ≡ length xs = length-take-le (length xs) ys room in
    same_lists (take (length xs) ys) (map f xs) (long ∙ sym (length-map xs f)) (λ k d lt.
    let h : k < length xs = omega (arith, long) in
    get_or-take (length xs) ys k d h ∙ made k x d h ∙ sym (get_or-map f xs k x d h))

pub all_unmapped : {X Y : Type 0} (G : Y → Type 0) (f : X → Y) (xs : List X) → AllByRecursion G (map f xs) → AllByRecursion (λ x. G (f x)) xs
all_unmapped G f [] a = tt
all_unmapped G f (x ∷ xs) a = (a.0, all_unmapped G f xs a.1)

-- what stands past a place that is written stays
pub past_more : {X : Type 0} (old new : List X) (k i : ℕ) (x : X) → i < k → drop k new ≡ drop k old → drop k (set new i x) ≡ drop k old
past_more old new k i x lt was = drop-set-lt k new i x lt ∙ was

map_back : {X Y : Type 0} (f : X → Y) (g : Y → X) → ((x : X) → g (f x) ≡ x) → (xs : List X) → map g (map f xs) ≡ xs
map_back f g back [] = refl
map_back f g back (x ∷ xs) = ap₂ ◌∷◌ (back x) (map_back f g back xs)

-- written by one function and read by the other, a list is as it was
pub read_back : {X Y : Type 0} (f : X → Y) (g : Y → X) → ((x : X) → g (f x) ≡ x) → (xs : List X) (ys : List Y) → ys ≡ map f xs → map g ys ≡ xs
read_back f g back xs ys is = ap (map g) is ∙ map_back f g back xs
