-- Lists of cuts, and the segments that they make of the code points.
use Rattle.std.specs.Prelude.{ℕ, zero, suc, ◌+◌, ◌-◌, ◌<◌, ◌≤◌, Bool, ◌&&◌, List, length, count_by, nat_le, nat_lt, slice_index}
use Rattle.bits.specs.Bit.{bit}

-- the code points are the numbers 0 to 1,114,111
abbrev pub is_point : ℕ → Bool
is_point c = nat_le c 1114111

-- at most 63 cuts, which rise strictly from 1 at least to 1,114,111 at most
pub record Rising (cuts : List ℕ) : Type 0 where
  pub few : length cuts ≤ 63
  pub low : (i : ℕ) → i < length cuts → 0 < slice_index cuts i
  pub high : (i : ℕ) → i < length cuts → slice_index cuts i ≤ 1114111
  pub rises : (i : ℕ) → i + 1 < length cuts → slice_index cuts i < slice_index cuts (i + 1)

-- such a list may go on with one more cut
abbrev pub goes_on : List ℕ → ℕ → Bool
goes_on cuts cut = nat_lt (length cuts) 63 && (nat_lt (slice_index cuts (length cuts - 1)) cut && is_point cut)

-- the segment of c is the number of cuts at or below c
unfoldable pub segment : List ℕ → ℕ → ℕ
segment cuts c = count_by (λ cut. nat_le cut c) cuts

-- a predicate holds of a code point when the bit of its segment is set
abbrev pub point_holds : List ℕ → ℕ → ℕ → Bool
point_holds cuts p c = is_point c && bit p (segment cuts c)

-- the least number in segment s
abbrev pub first_of_segment : List ℕ → ℕ → ℕ
first_of_segment cuts zero = 0
first_of_segment cuts (suc s) = slice_index cuts s
