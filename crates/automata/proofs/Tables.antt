-- Lists with no two alike, and the table of the pairs that pass. Assumes nothing.
use Rattle.std.proofs.Common.{◌≡◌, ℕ, zero, suc, ◌+◌, ◌<◌, ◌≤◌, Bool, true, false, cond, T, ◌⊎◌, List, [], ◌∷◌, ◌++◌, map, length, sym, refl, ap, ◌∙◌, subst, inl, inr, zero-le, not-suc-le-zero, arith}
use mathlib.Core.List.Memᴰ
use mathlib.Core.List.{Memᴰ}
use Rattle.std.specs.List.{AllByRecursion}
use Rattle.std.proofs.ByRecursion.{All-append, All-weaker, All-map}
use Rattle.std.proofs.lemmas.List.{length-append, length-map}
use Rattle.std.proofs.lemmas.Bool.{cases_eq}
use Rattle.automata.specs.Below.{sum_to, count, pairs, rising, beside, rows, table}
use Rattle.automata.specs.Automata.{Distinct}
use Rattle.automata.proofs.Below.{rising_all, rising_mem}

module _ {X : Type 0} where
  without : {x : X} (l : List X) → Memᴰ x l → (m : List X) × (length l ≡ suc (length m)) × ((y : X) → (x ≡ y → ⊥) → Memᴰ y l → Memᴰ y m)
  without {x} [] h = elim h [ ]
  without {x} (z ∷ l) (Memᴰ.head e) = (l, refl, λ y ne h. other y ne h)
    where
      other : (y : X) → (x ≡ y → ⊥) → Memᴰ y (z ∷ l) → Memᴰ y l
      other y ne (Memᴰ.head u) = absurd (ne (e ∙ sym u))
      other y ne (Memᴰ.tail u) = u
  without {x} (z ∷ l) (Memᴰ.tail h) = go (without l h)
    where
      go : (m : List X) × (length l ≡ suc (length m)) × ((y : X) → (x ≡ y → ⊥) → Memᴰ y l → Memᴰ y m) → (m : List X) × (length (z ∷ l) ≡ suc (length m)) × ((y : X) → (x ≡ y → ⊥) → Memᴰ y (z ∷ l) → Memᴰ y m)
      go r = (z ∷ r.0, ap suc r.1, other)
        where
          other : (y : X) → (x ≡ y → ⊥) → Memᴰ y (z ∷ l) → Memᴰ y (z ∷ r.0)
          other y ne (Memᴰ.head u) = Memᴰ.head u
          other y ne (Memᴰ.tail u) = Memᴰ.tail (r.2 y ne u)

  each : {P Q R : X → Type 0} (l : List X) → ((x : X) → P x → Q x → R x) → AllByRecursion P l → AllByRecursion Q l → AllByRecursion R l
  each [] f p q = tt
  each (x ∷ l) f p q = (f x p.0 q.0, each l f p.1 q.1)

  -- a list with no two alike, and all in another, is no longer
  pub fits : (l m : List X) → Distinct l → AllByRecursion (λ x. Memᴰ x m) l → length l ≤ length m
  fits [] m d h = zero-le
  fits (x ∷ l) m d h =
      let w = without m h.0 in
      let i = fits l w.0 d.1 (each l w.2 d.0 h.1) in
      omega arith

  distinct_append : {P : X → Type 0} (l m : List X) → Distinct l → Distinct m → AllByRecursion P l → ((x : X) → P x → AllByRecursion (λ y. x ≡ y → ⊥) m) → Distinct (l ++ m)
  distinct_append [] m d e p h = e
  distinct_append (x ∷ l) m d e p h = (All-append (λ y. x ≡ y → ⊥) l m d.0 (h x p.0), distinct_append l m d.1 e p.1 h)

-- beside one number, different ones
distinct_beside : (p : ℕ) (l : List ℕ) → Distinct l → Distinct (map (beside p) l)
distinct_beside p [] d = tt
distinct_beside p (x ∷ l) d = (All-map (λ z. beside p x ≡ z → ⊥) (beside p) l (All-weaker (λ y. x ≡ y → ⊥) (λ y. beside p x ≡ beside p y → ⊥) (λ y ne e. ne (ap (λ (v : ℕ × ℕ). v.1) e)) l d.0), distinct_beside p l d.1)

module _ (f : ℕ → Bool) where
  rising_distinct : (n : ℕ) → Distinct (rising f n)
  unfolding rising
  rising_distinct zero = tt
  rising_distinct (suc n) = go (f n) (rising_distinct n)
    where
      go : (b : Bool) → Distinct (rising f n) → Distinct (rising f n ++ cond b (n ∷ []) [])
      go true d = distinct_append (rising f n) (n ∷ []) d (tt, tt) (rising_all f n) (λ x k. (λ e. omega (arith, k.0), tt))
      go false d = distinct_append (rising f n) [] d tt (rising_all f n) (λ x k. tt)

  length-rising : (n : ℕ) → length (rising f n) ≡ count f n
  unfolding rising sum_to
  length-rising zero = refl
  length-rising (suc n) = go (f n) (length-rising n)
    where
      go : (b : Bool) → length (rising f n) ≡ count f n → length (rising f n ++ cond b (n ∷ []) []) ≡ count f n + cond b 1 0
      go true e = omega (arith, length-append (rising f n) (n ∷ []))
      go false e = omega (arith, length-append (rising f n) [])

module _ (R : ℕ → ℕ → Bool) (n : ℕ) where
  abbrev In : ℕ → ℕ × ℕ → Type 0
  In m x = (x.0 < m) × (x.1 < n) × T (R x.0 x.1)

  row_all : (m : ℕ) → AllByRecursion (λ x. (x.0 ≡ m) × In (suc m) x) (map (beside m) (rising (R m) n))
  row_all m = All-map (λ x. (x.0 ≡ m) × In (suc m) x) (beside m) (rising (R m) n) (All-weaker (λ c. (c < n) × T (R m c)) (λ c. (m ≡ m) × In (suc m) (beside m c)) (λ c k. (refl, (omega arith, k.0, k.1))) (rising (R m) n) (rising_all (R m) n))

  -- what is listed passes
  pub rows_all : (m : ℕ) → AllByRecursion (In m) (rows R n m)
  unfolding rows
  rows_all zero = tt
  rows_all (suc m) =
      All-append (In (suc m)) (rows R n m) (map (beside m) (rising (R m) n))
      (All-weaker (In m) (In (suc m)) (λ x k. (omega arith, k.1, k.2)) (rows R n m) (rows_all m))
      (All-weaker (λ x. (x.0 ≡ m) × In (suc m) x) (In (suc m)) (λ x k. k.1) (map (beside m) (rising (R m) n)) (row_all m))

  pub rows_distinct : (m : ℕ) → Distinct (rows R n m)
  unfolding rows
  rows_distinct zero = tt
  rows_distinct (suc m) =
      distinct_append (rows R n m) (map (beside m) (rising (R m) n)) (rows_distinct m) (distinct_beside m (rising (R m) n) (rising_distinct (R m) n)) (rows_all m)
      (λ x k. All-weaker (λ y. (y.0 ≡ m) × In (suc m) y) (λ y. x ≡ y → ⊥) (λ y j e. let u = ap (λ (v : ℕ × ℕ). v.0) e in omega arith) (map (beside m) (rising (R m) n)) (row_all m))

  -- each pair that passes is listed
  pub rows_has : (m p q : ℕ) → p < m → q < n → T (R p q) → Memᴰ (beside p q) (rows R n m)
  unfolding rows
  rows_has zero p q h k t = absurd (not-suc-le-zero h)
  rows_has (suc m) p q h k t = go (λ h. rows_has m p q h k t) (cases_eq p m)
    where
      go : (p < m → Memᴰ (beside p q) (rows R n m)) → (p ≡ m) ⊎ (p ≡ m → ⊥) → Memᴰ (beside p q) (rows R n m ++ map (beside m) (rising (R m) n))
      go r (inl e) = Memᴰ.append_right (rows R n m) (subst (λ (x : ℕ). Memᴰ (beside x q) (map (beside m) (rising (R m) n))) (sym e) (Memᴰ.map (beside m) (rising_mem (R m) n q k (subst (λ (x : ℕ). T (R x q)) e t))))
      go r (inr ne) = Memᴰ.append_left (map (beside m) (rising (R m) n)) (r (omega arith))

  length-rows : (m : ℕ) → length (rows R n m) ≡ sum_to (λ p. count (R p) n) m
  unfolding rows sum_to
  length-rows zero = refl
  length-rows (suc m) = omega (arith, length-append (rows R n m) (map (beside m) (rising (R m) n)), length-map (rising (R m) n) (beside m), length-rising (R m) n, length-rows m)

-- as many pairs are listed as are counted
pub length-table : (R : ℕ → ℕ → Bool) (n : ℕ) → length (table R n) ≡ pairs R n
unfolding pairs
length-table R n = length-rows R n n
