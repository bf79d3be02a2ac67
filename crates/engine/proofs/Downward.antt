-- The numbers below a bound from the last one down, and the first of them that a search finds. Assumes nothing.
use Rattle.std.proofs.Common.{◌≡◌, ℕ, zero, suc, ◌+◌, ◌-◌, ◌<◌, ◌≤◌, Option, Some, None, MatchOption, List, [], ◌∷◌, length, get_or, refl, ap, ◌∙◌, subst, arith}
use Rattle.std.specs.declared.iter.Rev.{Rev}
use Rattle.std.specs.declared.ops.Range.{Range}
use Rattle.std.specs.Iterator.{AlwaysYields}
use Rattle.std.specs.List.{AllWithin, HoldsAt}
use Rattle.std.proofs.lemmas.Iterator.{YieldsList}

-- what a range gives from its end
abbrev pub back : Rev (Range ℕ) → Option ℕ → Rev (Range ℕ) → Type 0
back s r t = (t.iter.start ≡ s.iter.start) × MatchOption r ((s.iter.end - s.iter.start ≡ 0) × (t.iter.end ≡ s.iter.end)) (λ x. (0 < s.iter.end - s.iter.start) × (x ≡ t.iter.end) × (s.iter.end ≡ t.iter.end + 1))

abbrev pub downs : ℕ → List ℕ
downs zero = []
downs (suc n) = n ∷ downs n

gives : (n : ℕ) (s : Rev (Range ℕ)) → s.iter.start ≡ 0 → s.iter.end ≡ n → AlwaysYields back (λ x. x) s (downs n)
gives zero s b e = λ x j p. omega (arith, p.1.0)
gives (suc n) s b e = ((λ j p. omega (arith, p.1.0)), λ x j p. (omega (arith, p.1.1, p.1.2), gives n j (p.0 ∙ b) (omega (arith, p.1.2))))

pub YieldsList-from_rev_range : {s : Rev (Range ℕ)} (n : ℕ) → s.iter ≡ record { start = 0; end = n } → YieldsList back (λ x. x) s (downs n)
YieldsList-from_rev_range {s} n e = record { runs = gives n s (ap (λ y. y.start) e) (ap (λ y. y.end) e) }

length-downs : (n : ℕ) → length (downs n) ≡ n
length-downs zero = refl
length-downs (suc n) = ap suc (length-downs n)

get_or-downs : (n i d : ℕ) → i < n → get_or (downs n) i d + i + 1 ≡ n
get_or-downs zero i d h = absurd (omega arith)
get_or-downs (suc n) zero d h = omega arith
get_or-downs (suc n) (suc i) d h = omega (arith, get_or-downs n i d (omega arith))

pub last_from_first : (n : ℕ) (Yes No : ℕ → Type 0) (r : Option ℕ)
    → MatchOption r (AllWithin No (downs n) 0 (length (downs n))) (λ x. Yes x × (i : ℕ) × (i < length (downs n)) × HoldsAt (λ y. y ≡ x) (downs n) i × AllWithin No (downs n) 0 i)
    → MatchOption r ((q : ℕ) → 0 ≤ q → q < n → No q) (λ x. (x < n) × Yes x)
last_from_first n Yes No (Some x) h =
    let lt : h.1 < n = omega (arith, h.2, length-downs n) in
    (omega (arith, h.3 0, get_or-downs n h.1 0 lt), h.0)
last_from_first n Yes No None h = λ q _ lt.
    let i : ℕ = n - 1 - q in
    let at : get_or (downs n) i 0 ≡ q = omega (arith, get_or-downs n i 0 (omega arith)) in
    subst No at (h i 0 (omega arith) (omega (arith, length-downs n)))
