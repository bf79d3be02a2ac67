-- What a rising list of cuts makes of its segments.
use Rattle.std.specs.Prelude.{◌≡◌, ℕ, zero, suc, ◌+◌, ◌-◌, ◌<◌, ◌≤◌, true, cond, ◌⊎◌, List, [], ◌∷◌, length, take, nat_le, nat_lt, slice_index, slice_index_or}
use Rattle.std.proofs.Common.{sym, ap, ap₂, ◌∙◌, subst, inl, inr, arith}
use Rattle.std.proofs.lemmas.List.{get_or-take, length-take-le}
use Rattle.std.proofs.lemmas.List.Sums.{count_by-le-length, sum_by-cons}
use Rattle.std.proofs.lemmas.Bool.{and_from, le-leb, lt-leb, lt-ltb, cases_order}
use Rattle.labels.specs.Segments.{is_point, Rising, goes_on, segment, first_of_segment}

pub segment_le : (cuts : List ℕ) (c : ℕ) → segment cuts c ≤ length cuts
unfolding segment
segment_le cuts c = count_by-le-length (λ cut. nat_le cut c) cuts

pub segment-cons : (cut c : ℕ) (cuts : List ℕ) → segment (cut ∷ cuts) c ≡ cond (nat_le cut c) 1 0 + segment cuts c
unfolding segment
segment-cons cut c cuts = sum_by-cons (λ x. cond (nat_le x c) 1 0) cut cuts

-- where the first s cuts are at or below c, and no other
pub segment_is : (cuts : List ℕ) (c s : ℕ) → s ≤ length cuts → ((i : ℕ) → i < s → slice_index cuts i ≤ c) → ((i : ℕ) → s ≤ i → i < length cuts → c < slice_index cuts i)
    → segment cuts c ≡ s
segment_is [] c s h low high = omega (arith, segment_le [] c)
segment_is (x ∷ cuts) c zero h low high =
    segment-cons x c cuts
    ∙ ap₂ (λ t n. cond t 1 0 + n) (lt-leb x c (high 0 (omega arith) (omega arith)))
    (segment_is cuts c 0 (omega arith) (λ i l. absurd (omega arith)) (λ i a b. high (suc i) (omega arith) (omega arith)))
segment_is (x ∷ cuts) c (suc s) h low high =
    segment-cons x c cuts
    ∙ ap₂ (λ t n. cond t 1 0 + n) (le-leb x c (low 0 (omega arith)))
    (segment_is cuts c s (omega arith) (λ i l. low (suc i) (omega arith)) (λ i a b. high (suc i) (omega arith) (omega arith)))
    ∙ omega arith

module _ (cuts : List ℕ) (r : Rising cuts) where
  rising_by : (d i : ℕ) → i + d + 1 < length cuts → slice_index cuts i < slice_index cuts (i + d + 1)
  rising_by zero i l = subst (λ j. slice_index cuts i < slice_index cuts j) (omega arith) (r.rises i (omega arith))
  rising_by (suc d) i l =
      let a : slice_index_or cuts i 0 < slice_index_or cuts (i + d + 1) 0 = rising_by d i (omega arith) in
      let b : slice_index_or cuts (i + d + 1) 0 < slice_index_or cuts (i + d + 1 + 1) 0 = r.rises (i + d + 1) (omega arith) in
      let e : i + d + 1 + 1 ≡ i + suc d + 1 = omega arith in
      subst (λ j. slice_index cuts i < slice_index cuts j) e (omega arith)

  -- a later cut is larger
  rising : (i j : ℕ) → i < j → j < length cuts → slice_index cuts i < slice_index cuts j
  rising i j l m =
      let e : i + (j - i - 1) + 1 ≡ j = omega arith in
      subst (λ k. slice_index cuts i < slice_index cuts k) e (rising_by (j - i - 1) i (omega arith))

  pub segment_first : (s : ℕ) → s ≤ length cuts → segment cuts (first_of_segment cuts s) ≡ s
  segment_first zero h = segment_is cuts 0 0 h (λ i l. absurd (omega arith)) (λ i a b. r.low i b)
  segment_first (suc s) h =
      segment_is cuts (slice_index cuts s) (suc s) h (λ i l. by_order i (cases_order i s) l) (λ i a b. rising s i (omega arith) b)
    where
      by_order : (i : ℕ) → (i ≡ s) ⊎ ((i < s) ⊎ (s < i)) → i < suc s → slice_index cuts i ≤ slice_index cuts s
      by_order i (inl e) m = omega (arith, ap (λ k. slice_index cuts k) e)
      by_order i (inr (inl k)) m = omega (arith, rising i s k (omega arith))
      by_order i (inr (inr k)) m = absurd (omega arith)

  pub first_le : (s : ℕ) → s ≤ length cuts → first_of_segment cuts s ≤ 1114111
  first_le zero h = omega arith
  first_le (suc s) h = r.high s (omega arith)

  -- a rising list goes on at each of its places
  pub rising_goes_on : (i : ℕ) → i < length cuts → goes_on (take i cuts) (slice_index cuts i) ≡ true
  rising_goes_on i h =
      let n : length (take i cuts) ≡ i = length-take-le i cuts (omega arith) in
      and_from (nat_lt (length (take i cuts)) 63) _ (lt-ltb (length (take i cuts)) 63 (omega (arith, r.few)))
      (and_from (nat_lt (slice_index (take i cuts) (length (take i cuts) - 1)) (slice_index cuts i)) (is_point (slice_index cuts i))
      (lt-ltb (slice_index (take i cuts) (length (take i cuts) - 1)) (slice_index cuts i) (subst (λ k. slice_index (take i cuts) (k - 1) < slice_index cuts i) (sym n) (above i h)))
      (le-leb (slice_index cuts i) 1114111 (r.high i h)))
    where
      above : (i : ℕ) → i < length cuts → slice_index (take i cuts) (i - 1) < slice_index cuts i
      above zero h = r.low 0 h
      above (suc i) h =
          let e : slice_index_or (take (suc i) cuts) i 0 ≡ slice_index_or cuts i 0 = get_or-take (suc i) cuts i 0 (omega arith) in
          let up : slice_index_or cuts i 0 < slice_index_or cuts (suc i) 0 = rising i (suc i) (omega arith) h in
          let below : slice_index_or (take (suc i) cuts) i 0 < slice_index_or cuts (suc i) 0 = omega arith in
          subst (λ k. slice_index (take (suc i) cuts) k < slice_index cuts (suc i)) (omega arith) below
