-- Numbers below a bound: whether one passes a test, the least that does, how many do, and the list of them. Assumes nothing.
use Rattle.std.specs.Prelude.{ℕ, zero, suc, ◌+◌, Bool, false, cond, ◌||◌, List, [], ◌∷◌, ◌++◌, map}

-- some number below n passes
unfoldable pub any_below : ℕ → (ℕ → Bool) → Bool
any_below zero f = false
any_below (suc n) f = f n || any_below n f

-- the least number below n that passes, or n where none does
unfoldable pub least_below : ℕ → (ℕ → Bool) → ℕ
least_below zero f = zero
least_below (suc n) f = cond (f 0) 0 (suc (least_below n (λ k. f (suc k))))

-- f 0 + f 1 + .. , the numbers below n
unfoldable pub sum_to : (ℕ → ℕ) → ℕ → ℕ
sum_to f zero = 0
sum_to f (suc n) = sum_to f n + f n

-- how many numbers below n pass
abbrev pub count : (ℕ → Bool) → ℕ → ℕ
count f n = sum_to (λ k. cond (f k) 1 0) n

-- how many pairs of numbers below n pass
unfoldable pub pairs : (ℕ → ℕ → Bool) → ℕ → ℕ
pairs R n = sum_to (λ p. count (R p) n) n

-- the numbers below n that pass, rising
unfoldable pub rising : (ℕ → Bool) → ℕ → List ℕ
rising f zero = []
rising f (suc n) = rising f n ++ cond (f n) (n ∷ []) []

abbrev pub beside : ℕ → ℕ → ℕ × ℕ
beside p q = (p, q)

-- the pairs that pass, of a number below m and one below n, by the first, then by the second
unfoldable pub rows : (ℕ → ℕ → Bool) → ℕ → ℕ → List (ℕ × ℕ)
rows R n zero = []
rows R n (suc m) = rows R n m ++ map (beside m) (rising (R m) n)

abbrev pub table : (ℕ → ℕ → Bool) → ℕ → List (ℕ × ℕ)
table R n = rows R n n
