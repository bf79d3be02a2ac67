-- Lists of classes and of arrows, one more at a time. Assumes nothing.
use Rattle.std.proofs.Common.{◌≡◌, ℕ, zero, suc, ◌+◌, ◌<◌, ◌≤◌, Bool, true, false, cond, T, List, [], ◌∷◌, ◌++◌, filter, map, length, get_or, take, set, sym, refl, ap, ◌∙◌, subst, inl, inr, add-one, arith}
use Rattle.std.specs.List.{AllByRecursion}
use Rattle.std.proofs.ByRecursion.{All-push, All-weaker}
use Rattle.std.proofs.lemmas.List.{append-nil, append_assoc, length-append, length-map, length_push, map_push, take_all, take_more_set}
use Rattle.std.proofs.lemmas.List.Filters.{length-filter_more}
use Rattle.std.proofs.lemmas.Bool.{cases_eq}
use Rattle.automata.specs.declared.Arrow.{Arrow}
use Rattle.automata.specs.Below.{rising, beside, rows}
use Rattle.automata.specs.Book.{ends}
use Rattle.automata.proofs.Below.{rising_all}
use Rattle.reduction.specs.Drawn.{Drawn}

module _ (f : ℕ → Bool) where
  pub rising_none : [] ≡ rising f 0
  unfolding rising
  rising_none = refl

  pub rising_on : (n : ℕ) → f n ≡ true → rising f (n + 1) ≡ rising f n ++ n ∷ []
  unfolding rising
  rising_on n on = rw (add-one, on) refl

  pub rising_off : (n : ℕ) → f n ≡ false → rising f (n + 1) ≡ rising f n
  unfolding rising
  rising_off n off = rw (add-one, off) (append-nil (rising f n))

  pub rising_few : (n : ℕ) → length (rising f n) ≤ n
  unfolding rising
  rising_few zero = omega arith
  rising_few (suc n) = go (f n) (rising_few n)
    where
      go : (b : Bool) → length (rising f n) ≤ n → length (rising f n ++ cond b (n ∷ []) []) ≤ suc n
      go true h = omega (arith, length-append (rising f n) (n ∷ []))
      go false h = omega (arith, length-append (rising f n) [])

  rising_le : (m n : ℕ) → m ≤ n → length (rising f m) ≤ length (rising f n)
  unfolding rising
  rising_le m zero h = let e : m ≡ 0 = omega arith in rw e (omega arith)
  rising_le m (suc n) h = elim (cases_eq m (suc n)) [
    | inl e ↦ rw e (omega arith)
    | inr ne ↦ omega (arith, rising_le m n (omega arith), length-append (rising f n) (cond (f n) (n ∷ []) []))
  ]

  -- one more that passes is still among those below n
  rising_room : (m n : ℕ) → f m ≡ true → m < n → length (rising f m) < length (rising f n)
  rising_room m n on h = omega (arith, rising_le (m + 1) n (omega arith), ap length (rising_on m on), length_push (rising f m) m)

-- the first elements that pass, counted by place
counted_first : (p : ℕ → Bool) (xs : List ℕ) (i : ℕ) → i ≤ length xs → length (filter p (take i xs)) ≡ length (rising (λ j. p (get_or xs j 0)) i)
unfolding rising
counted_first p xs zero h = refl
counted_first p xs (suc i) h =
    let lt : i < length xs = omega arith in
    let e : suc i ≡ i + 1 = sym (add-one i) in
    ap (λ n. length (filter p (take n xs))) e ∙ length-filter_more p xs i 0 lt
    ∙ ap (λ n. n + cond (p (get_or xs i 0)) 1 0) (counted_first p xs i (omega arith))
    ∙ sym (length-append (rising (λ j. p (get_or xs j 0)) i) _ ∙ ap (λ n. length (rising (λ j. p (get_or xs j 0)) i) + n) (one (p (get_or xs i 0))))
  where
    one : (b : Bool) → length (cond b (i ∷ []) []) ≡ cond b 1 0
    one true = refl
    one false = refl

pub counted_all : (p : ℕ → Bool) (xs : List ℕ) → length (filter p xs) ≡ length (rising (λ j. p (get_or xs j 0)) (length xs))
counted_all p xs = ap (λ l. length (filter p l)) (sym (take_all (length xs) xs (omega arith))) ∙ counted_first p xs (length xs) (omega arith)

pub rising_low : (f : ℕ → Bool) (n : ℕ) (xs : List ℕ) → xs ≡ rising f n → AllByRecursion (λ c. c < n) xs
rising_low f n xs is = subst (AllByRecursion (λ c. c < n)) (sym is) (All-weaker (λ c. (c < n) × T (f c)) (λ c. c < n) (λ c p. p.0) (rising f n) (rising_all f n))

-- tests that agree below n list the same
module _ (R : ℕ → ℕ → Bool) (n : ℕ) where
  pub rows_none : [] ≡ rows R n 0
  unfolding rows
  rows_none = refl

  rows_more : (m : ℕ) → rows R n (m + 1) ≡ rows R n m ++ map (beside m) (rising (R m) n)
  unfolding rows
  rows_more m = rw add-one refl

  pub length-rows_more : (m : ℕ) → length (rows R n (m + 1)) ≡ length (rows R n m) + length (rising (R m) n)
  length-rows_more m = ap length (rows_more m) ∙ length-append (rows R n m) _ ∙ ap (λ k. length (rows R n m) + k) (length-map (rising (R m) n) (beside m))

  pub rows_le : (l m : ℕ) → l ≤ m → length (rows R n l) ≤ length (rows R n m)
  unfolding rows
  rows_le l zero h = let e : l ≡ 0 = omega arith in rw e (omega arith)
  rows_le l (suc m) h = elim (cases_eq l (suc m)) [
    | inl e ↦ rw e (omega arith)
    | inr ne ↦ omega (arith, rows_le l m (omega arith), length-append (rows R n m) (map (beside m) (rising (R m) n)))
  ]

module _ {P V : Type 0} (h : P → V → Bool) (F : ℕ → V → ℕ → Bool) (R : ℕ → ℕ → Bool) (n : ℕ) where
  pub drawn_none : (xs : List (Arrow P)) → Drawn h F (rows R n 0) 0 xs
  unfolding rows
  drawn_none xs = record { count = refl; drawn = refl; labelled = tt }

  -- the rows before i, and of the row i what comes before j
  abbrev pub SoFar : ℕ → ℕ → ℕ → List (Arrow P) → Type 0
  SoFar i j used xs = Drawn h F (rows R n i ++ map (beside i) (rising (R i) j)) used xs

  pub so_far_none : (i used : ℕ) (xs : List (Arrow P)) → Drawn h F (rows R n i) used xs → SoFar i 0 used xs
  so_far_none i used xs d = rw (sym (rising_none (R i)), append-nil (rows R n i)) d

  so_far_on : (i j : ℕ) → R i j ≡ true → rows R n i ++ map (beside i) (rising (R i) (j + 1)) ≡ (rows R n i ++ map (beside i) (rising (R i) j)) ++ beside i j ∷ []
  so_far_on i j on = rw (rising_on (R i) j on, map_push (beside i) (rising (R i) j) j) (sym (append_assoc (rows R n i) (map (beside i) (rising (R i) j)) (beside i j ∷ [])))

  pub so_far_more : (i j used : ℕ) (xs ys : List (Arrow P)) (label : P) → R i j ≡ true → used < length xs → ys ≡ set xs used (record { source = i; label = label; target = j }) → ((a : V) → h label a ≡ F i a j) → SoFar i j used xs → SoFar i (j + 1) (used + 1) ys
  so_far_more i j used xs ys label on room put same d = rw put (record {
    count = omega (arith, d.count, ap length (so_far_on i j on), length_push (rows R n i ++ map (beside i) (rising (R i) j)) (beside i j));
    drawn = ap ends (take_more_set xs used x room) ∙ map_push _ (take used xs) x ∙ ap (λ l. l ++ beside i j ∷ []) d.drawn ∙ sym (so_far_on i j on);
    labelled = rw (take_more_set xs used x room) (All-push _ (take used xs) x d.labelled same);
  })
    where
      x : Arrow P
      x = record { source = i; label = label; target = j }

  pub so_far_skip : (i j used : ℕ) (xs : List (Arrow P)) → R i j ≡ false → SoFar i j used xs → SoFar i (j + 1) used xs
  so_far_skip i j used xs off d = rw (rising_off (R i) j off) d

  pub so_far_all : (i j used : ℕ) (xs : List (Arrow P)) → j ≡ n → SoFar i j used xs → Drawn h F (rows R n (i + 1)) used xs
  so_far_all i j used xs e d = rw (rows_more R n i) (subst (λ (m : ℕ). SoFar i m used xs) e d)

  -- there is room for one more that passes
  pub so_far_room : (i j used : ℕ) (xs : List (Arrow P)) (room : ℕ) → R i j ≡ true → j < n → length (rows R n (i + 1)) ≤ room → SoFar i j used xs → used < room
  so_far_room i j used xs room on lt fits d =
      omega (arith, d.count, length-append (rows R n i) (map (beside i) (rising (R i) j)), length-map (rising (R i) j) (beside i), rising_room (R i) j n on lt, length-rows_more R n i)
