-- Segments do not fall, and each is what lies between two starts.
use Rattle.std.proofs.Common.{◌≡◌, ℕ, zero, suc, ◌<◌, ◌≤◌, cond, leb, List, [], ◌∷◌, length, get_or, ap, ◌∙◌, inl, inr, arith}
use Rattle.std.proofs.lemmas.Bool.{cases_lt, le-leb, lt-leb}
use Rattle.std.proofs.lemmas.Bool.Decides.{nat_tests}
use Rattle.labels.specs.Segments.{Rising, segment, first_of_segment}
use Rattle.labels.specs.SegmentsLemmas.{segment-cons, segment_le, segment_first, first_le}
use Rattle.ranges.specs.Starts.{start_of}

cut_counts : (cut c d : ℕ) → c ≤ d → cond (leb cut c) 1 0 ≤ cond (leb cut d) 1 0
cut_counts cut c d h = grind (arith, nat_tests)

pub segment_rises : (cuts : List ℕ) (c d : ℕ) → c ≤ d → segment cuts c ≤ segment cuts d
segment_rises [] c d h = omega (arith, segment_le [] c)
segment_rises (x ∷ cuts) c d h = omega (arith, segment-cons x c cuts, segment-cons x d cuts, cut_counts x c d h, segment_rises cuts c d h)

-- with a cut between them, the segments differ
segment_passes : (cuts : List ℕ) (i c d : ℕ) → i < length cuts → c < get_or cuts i 0 → get_or cuts i 0 ≤ d → segment cuts c < segment cuts d
segment_passes [] i c d h low high = absurd (omega arith)
segment_passes (x ∷ cuts) zero c d h low high =
    rw (segment-cons x c cuts, segment-cons x d cuts, lt-leb x c low, le-leb x d high) (omega (arith, segment_rises cuts c d (omega arith)))
segment_passes (x ∷ cuts) (suc i) c d h low high =
    omega (arith, segment-cons x c cuts, segment-cons x d cuts, cut_counts x c d (omega arith), segment_passes cuts i c d (omega arith) low high)

module _ (cuts : List ℕ) (r : Rising cuts) where
  start_within : (s : ℕ) → s ≤ length cuts → start_of cuts s ≡ first_of_segment cuts s
  start_within s h = ap (λ b. cond b (first_of_segment cuts s) 1114112) (le-leb s (length cuts) h)

  pub start_past : (s : ℕ) → length cuts < s → start_of cuts s ≡ 1114112
  start_past s h = ap (λ b. cond b (first_of_segment cuts s) 1114112) (lt-leb s (length cuts) h)

  pub start_point : (s : ℕ) → s ≤ length cuts → start_of cuts s ≤ 1114111
  start_point s h = omega (arith, start_within s h, first_le cuts r s h)

  pub start_le : (s : ℕ) → start_of cuts s ≤ 1114112
  start_le s = elim (cases_lt (length cuts) s) [ inl l ↦ omega (arith, start_past s l) | inr g ↦ omega (arith, start_point s g) ]

  pub segment_start : (s : ℕ) → s ≤ length cuts → segment cuts (start_of cuts s) ≡ s
  segment_start s h = ap (segment cuts) (start_within s h) ∙ segment_first cuts r s h

  below_first : (s k : ℕ) → s ≤ length cuts → k < first_of_segment cuts s → segment cuts k < s
  below_first zero k h l = absurd (omega arith)
  below_first (suc s) k h l =
      omega (arith, segment_passes cuts s k (get_or cuts s 0) (omega arith) l (omega arith), segment_first cuts r (suc s) h)

  -- before a start the segment is an earlier one
  pub before_start : (s k : ℕ) → k < start_of cuts s → segment cuts k < s
  before_start s k h = elim (cases_lt (length cuts) s) [
    | inl l ↦ omega (arith, segment_le cuts k)
    | inr g ↦ below_first s k g (omega (arith, start_within s g))
  ]

  -- from a start on it is that one or a later one
  pub from_start : (s k : ℕ) → start_of cuts s ≤ k → k ≤ 1114111 → s ≤ segment cuts k
  from_start s k h point = elim (cases_lt (length cuts) s) [
    | inl l ↦ absurd (omega (arith, start_past s l))
    | inr g ↦ omega (arith, segment_start s g, segment_rises cuts (start_of cuts s) k h)
  ]

  -- so a code point in an earlier segment lies before it
  pub earlier : (s k : ℕ) → k ≤ 1114111 → segment cuts k < s → k < start_of cuts s
  earlier s k point h = elim (cases_lt k (start_of cuts s)) [ inl l ↦ l | inr g ↦ absurd (omega (arith, from_start s k g point)) ]
