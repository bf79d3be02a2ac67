-- Numbers below a bound: what a search finds, the least, how many, and the list of them. Assumes nothing.
use Rattle.std.proofs.Common.{◌≡◌, ℕ, zero, suc, ◌+◌, ◌<◌, ◌≤◌, Bool, true, false, cond, ◌||◌, T, ◌⊎◌, List, [], ◌∷◌, ◌++◌, length, get_or, sym, refl, subst, inl, inr, suc-le-suc, zero-le, not-suc-le-zero, arith}
use mathlib.Core.List.Memᴰ
use mathlib.Core.List.{Memᴰ}
use native.Mathlib.Nat.{sub_self}
use Rattle.std.specs.List.{AllByRecursion}
use Rattle.std.proofs.ByRecursion.{All-append, All-weaker, All-get_or}
use Rattle.std.proofs.lemmas.List.{length-append, get_or_append_left, get_or-append_right}
use Rattle.std.proofs.lemmas.Bool.{cases_eq, cases_lt}
use Rattle.automata.specs.Below.{any_below, least_below, sum_to, count, rising}
use Rattle.automata.proofs.Tests.{or_l, or_r, unless}

pub found : (n : ℕ) (f : ℕ → Bool) → T (any_below n f) → (k : ℕ) × (k < n) × T (f k)
unfolding any_below
found zero f t = absurd t
found (suc n) f t = go (f n) (λ x. x) (λ u. found n f u) t
  where
    go : (b : Bool) → (T b → T (f n)) → (T (any_below n f) → (k : ℕ) × (k < n) × T (f k)) → T (b || any_below n f) → (k : ℕ) × (k < suc n) × T (f k)
    go true i r t = (n, omega arith, i tt)
    go false i r t = let x = r t in (x.0, omega arith, x.2)

pub finds : (n : ℕ) (f : ℕ → Bool) (k : ℕ) → k < n → T (f k) → T (any_below n f)
unfolding any_below
finds zero f k h t = absurd (not-suc-le-zero h)
finds (suc n) f k h t = go (λ l. finds n f k l t) (cases_eq k n)
  where
    go : (k < n → T (any_below n f)) → (k ≡ n) ⊎ (k ≡ n → ⊥) → T (f n || any_below n f)
    go r (inl e) = or_l (f n) (any_below n f) (subst (λ (x : ℕ). T (f x)) e t)
    go r (inr ne) = or_r (f n) (any_below n f) (r (omega arith))

pub least_le : (n : ℕ) (f : ℕ → Bool) → least_below n f ≤ n
unfolding least_below
least_le zero f = zero-le
least_le (suc n) f = go (f 0) (least_le n (λ k. f (suc k)))
  where
    go : (b : Bool) → least_below n (λ k. f (suc k)) ≤ n → cond b 0 (suc (least_below n (λ k. f (suc k)))) ≤ suc n
    go true h = zero-le
    go false h = suc-le-suc h

pub least_passes : (n : ℕ) (f : ℕ → Bool) → least_below n f < n → T (f (least_below n f))
unfolding least_below
least_passes zero f h = absurd (not-suc-le-zero h)
least_passes (suc n) f h = go (f 0) (λ t. t) (λ u. least_passes n (λ k. f (suc k)) u) h
  where
    go : (b : Bool) → (T b → T (f 0)) → (least_below n (λ k. f (suc k)) < n → T (f (suc (least_below n (λ k. f (suc k)))))) → cond b 0 (suc (least_below n (λ k. f (suc k)))) < suc n → T (f (cond b 0 (suc (least_below n (λ k. f (suc k))))))
    go true i r h = i tt
    go false i r h = r (omega arith)

pub least_none : (n : ℕ) (f : ℕ → Bool) (k : ℕ) → k < least_below n f → T (f k) → ⊥
unfolding least_below
least_none zero f k h t = not-suc-le-zero h
least_none (suc n) f k h t = go (f 0) (λ t. t) (λ j. least_none n (λ k. f (suc k)) j) k h t
  where
    go : (b : Bool) → (T (f 0) → T b) → ((j : ℕ) → j < least_below n (λ k. f (suc k)) → T (f (suc j)) → ⊥) → (k : ℕ) → k < cond b 0 (suc (least_below n (λ k. f (suc k)))) → T (f k) → ⊥
    go true i r k h t = not-suc-le-zero h
    go false i r zero h t = i t
    go false i r (suc k) h t = r k (omega arith) t

one_le : (a b : Bool) → (T a → T b) → cond a 1 0 ≤ cond b 1 0
one_le false b i = zero-le
one_le true true i = omega arith
one_le true false i = absurd (i tt)

pub count_le : (f g : ℕ → Bool) (n : ℕ) → ((k : ℕ) → k < n → T (f k) → T (g k)) → count f n ≤ count g n
unfolding sum_to
count_le f g zero i = zero-le
count_le f g (suc n) i = omega (arith, count_le f g n (λ k h. i k (omega arith)), one_le (f n) (g n) (i n (omega arith)))

-- one more passes
pub count_less : (f g : ℕ → Bool) (n d : ℕ) → ((k : ℕ) → k < n → T (f k) → T (g k)) → d < n → T (g d) → (T (f d) → ⊥) → count f n < count g n
unfolding sum_to
count_less f g zero d i h t off = absurd (not-suc-le-zero h)
count_less f g (suc n) d i h t off = go (λ l. count_less f g n d (λ k h. i k (omega arith)) l t off) (cases_eq d n)
  where
    less : (a b : Bool) → T b → (T a → ⊥) → cond a 1 0 < cond b 1 0
    less true b t off = absurd (off tt)
    less false true t off = omega arith
    less false false t off = absurd t

    go : (d < n → count f n < count g n) → (d ≡ n) ⊎ (d ≡ n → ⊥) → count f n + cond (f n) 1 0 < count g n + cond (g n) 1 0
    go r (inl e) = omega (arith, count_le f g n (λ k h. i k (omega arith)), less (f n) (g n) (subst (λ (x : ℕ). T (g x)) e t) (λ u. off (subst (λ (x : ℕ). T (f x)) (sym e) u)))
    go r (inr ne) = omega (arith, r (omega arith), one_le (f n) (g n) (i n (omega arith)))

pub count_most : (f : ℕ → Bool) (n : ℕ) → count f n ≤ n
unfolding sum_to
count_most f zero = zero-le
count_most f (suc n) = omega (arith, count_most f n, one_le (f n) true (λ _. tt))

-- if as many pass as there are, all pass
pub count_full : (f : ℕ → Bool) (n d : ℕ) → n ≤ count f n → d < n → T (f d)
count_full f n d full h = unless (f d) (λ off. let l = count_less f (λ _. true) n d (λ k h t. tt) h tt off in let m = count_most (λ _. true) n in omega arith)

-- where a member stands
place : {p : ℕ} (xs : List ℕ) → Memᴰ p xs → (i : ℕ) × (i < length xs) × (get_or xs i 0 ≡ p)
place [] m = elim m [ ]
place (x ∷ xs) (Memᴰ.head e) = (0, omega arith, sym e)
place (x ∷ xs) (Memᴰ.tail m) = let r = place xs m in (suc r.0, omega arith, r.2)

module _ (f : ℕ → Bool) where
  -- what is listed is below n and passes
  pub rising_all : (n : ℕ) → AllByRecursion (λ c. (c < n) × T (f c)) (rising f n)
  unfolding rising
  rising_all zero = tt
  rising_all (suc n) = go (f n) (λ t. t) (rising_all n)
    where
      go : (b : Bool) → (T b → T (f n)) → AllByRecursion (λ c. (c < n) × T (f c)) (rising f n) → AllByRecursion (λ c. (c < suc n) × T (f c)) (rising f n ++ cond b (n ∷ []) [])
      go true i h = All-append (λ c. (c < suc n) × T (f c)) (rising f n) (n ∷ []) (All-weaker (λ c. (c < n) × T (f c)) (λ c. (c < suc n) × T (f c)) (λ c k. (omega arith, k.1)) (rising f n) h) ((omega arith, i tt), tt)
      go false i h = All-append (λ c. (c < suc n) × T (f c)) (rising f n) [] (All-weaker (λ c. (c < n) × T (f c)) (λ c. (c < suc n) × T (f c)) (λ c k. (omega arith, k.1)) (rising f n) h) tt

  -- each number below n that passes is listed
  pub rising_mem : (n p : ℕ) → p < n → T (f p) → Memᴰ p (rising f n)
  unfolding rising
  rising_mem zero p h t = absurd (not-suc-le-zero h)
  rising_mem (suc n) p h t = go (f n) (λ u. u) (λ k. rising_mem n p k t) (cases_eq p n)
    where
      go : (b : Bool) → (T (f n) → T b) → (p < n → Memᴰ p (rising f n)) → (p ≡ n) ⊎ (p ≡ n → ⊥) → Memᴰ p (rising f n ++ cond b (n ∷ []) [])
      go b i r (inr ne) = Memᴰ.append_left (cond b (n ∷ []) []) (r (omega arith))
      go false i r (inl e) = absurd (i (subst (λ (x : ℕ). T (f x)) e t))
      go true i r (inl e) = Memᴰ.append_right (rising f n) (Memᴰ.head e)

  pub rising_has : (n p : ℕ) → p < n → T (f p) → (i : ℕ) × (i < length (rising f n)) × (get_or (rising f n) i 0 ≡ p)
  rising_has n p h t = place (rising f n) (rising_mem n p h t)

  pub rising_at : (n i : ℕ) → i < length (rising f n) → (get_or (rising f n) i 0 < n) × T (f (get_or (rising f n) i 0))
  rising_at n i h = All-get_or (λ c. (c < n) × T (f c)) (rising f n) i 0 h (rising_all n)

  pub rising_rises : (n i j : ℕ) → i < j → j < length (rising f n) → get_or (rising f n) i 0 < get_or (rising f n) j 0
  unfolding rising
  rising_rises zero i j h k = absurd (not-suc-le-zero k)
  rising_rises (suc n) i j h k = go (f n) (λ l. rising_rises n i j h l) k (cases_lt j (length (rising f n)))
    where
      go : (b : Bool) → (j < length (rising f n) → get_or (rising f n) i 0 < get_or (rising f n) j 0) → j < length (rising f n ++ cond b (n ∷ []) []) → (j < length (rising f n)) ⊎ (length (rising f n) ≤ j) → get_or (rising f n ++ cond b (n ∷ []) []) i 0 < get_or (rising f n ++ cond b (n ∷ []) []) j 0
      go b r k (inl l) = rw (get_or_append_left (rising f n) (cond b (n ∷ []) []) 0 i (omega arith), get_or_append_left (rising f n) (cond b (n ∷ []) []) 0 j l) (r l)
      go true r k (inr l) =
          let e : j ≡ length (rising f n) = omega (arith, length-append (rising f n) (n ∷ [])) in
          rw (get_or_append_left (rising f n) (n ∷ []) 0 i (omega arith), get_or-append_right (rising f n) (n ∷ []) (length (rising f n)) j 0 refl l, e, sub_self) (rising_at n i (omega arith)).0
      go false r k (inr l) = absurd (omega (arith, length-append (rising f n) []))
