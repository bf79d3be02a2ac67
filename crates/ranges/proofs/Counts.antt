-- How many numbers pass a test, run by run.
use Rattle.std.proofs.Common.{◌≡◌, ℕ, zero, suc, ◌+◌, ◌-◌, ◌<◌, ◌≤◌, Bool, true, false, cond, sym, refl, ap, ◌∙◌, subst, add-zero, add-suc, add-one, arith}
use Rattle.ranges.specs.Counts.{counted}
use Rattle.ranges.specs.Runs.{Run}

at_most_one : (b : Bool) → cond b 1 0 ≤ 1
at_most_one true = omega arith
at_most_one false = omega arith

pub counted_none : (f : ℕ → Bool) → counted f 0 ≡ 0
unfolding counted
counted_none f = refl

at_most_all : (f : ℕ → Bool) (n : ℕ) → counted f n ≤ n
unfolding counted
at_most_all f zero = omega arith
at_most_all f (suc n) = omega (arith, at_most_all f n, at_most_one (f n))

pub counted_le : (f : ℕ → Bool) (n r : ℕ) → r ≡ counted f n → r ≤ n
counted_le f n r e = omega (arith, e, at_most_all f n)

-- one test less at the low end
pub counted_shift : (f g : ℕ → Bool) (n : ℕ) → ((k : ℕ) → f (k + 1) ≡ g k) → counted f (suc n) ≡ cond (f 0) 1 0 + counted g n
unfolding counted
counted_shift f g zero same = omega arith
counted_shift f g (suc n) same =
    omega (arith, counted_shift f g n same, ap (λ b. cond {A = ℕ} b 1 0) (ap f (sym (add-one n)) ∙ same n))

-- where the test answers the same throughout, all numbers count or none
steady : (b : Bool) (f : ℕ → Bool) (n d : ℕ) → ((k : ℕ) → n ≤ k → k < n + d → f k ≡ b) → counted f (n + d) ≡ counted f n + cond b d 0
unfolding counted
steady b f n zero same = rw add-zero (omega (arith, nothing b))
  where
    nothing : (b : Bool) → cond {A = ℕ} b 0 0 ≡ 0
    nothing true = refl
    nothing false = refl
steady b f n (suc d) same =
    let here : cond (f (n + d)) 1 0 ≡ cond b 1 0 = ap (λ t. cond {A = ℕ} t 1 0) (same (n + d) (omega arith) (omega arith)) in
    rw add-suc (omega (arith, steady b f n d (λ k g h. same k g (omega arith)), more b))
  where
    more : (b : Bool) → cond b d 0 + cond b 1 0 ≡ cond b (suc d) 0
    more true = omega arith
    more false = omega arith

pub counted_steady : (b : Bool) (f : ℕ → Bool) (n m : ℕ) → n ≤ m → ((k : ℕ) → n ≤ k → k < m → f k ≡ b) → counted f m ≡ counted f n + cond b (m - n) 0
counted_steady b f n m h same =
    let e : n + (m - n) ≡ m = omega arith in
    subst (λ t. counted f t ≡ counted f n + cond b (m - n) 0) e (steady b f n (m - n) (λ k g l. same k g (omega arith)))

pub counted_run : (f : ℕ → Bool) (from first last : ℕ) → Run f from first last → counted f (last + 1) ≡ counted f from + (last - first + 1)
counted_run f from first last r =
    omega (
      arith,
      r.order,
      counted_steady false f from first r.low r.before,
      counted_steady true f first (last + 1) (omega (arith, r.order)) (λ k g h. r.inside k g (omega arith)),
    )
