-- The cut list of the code is a rising list: its segments, and what may be added to it.
use Rattle.std.specs.Prelude.{◌≡◌, ℕ, ◌+◌, ◌-◌, ◌<◌, ◌≤◌, true, false, cond, leb, ◌⊎◌, length, Some, None, Option, MatchOption, nat_le, nat_lt, slice_index}
use Rattle.std.proofs.Common.{sym, ap, ◌∙◌, inl, inr, arith}
use Rattle.std.proofs.lemmas.List.{get_or-take, get_or_past, length-take-le}
use Rattle.std.proofs.lemmas.Bool.{and_from, and_parts, and_right, cases_lt, le-leb, lt-ltb, ltb-true}
use Rattle.labels.specs.declared.cuts.Cuts.{Cuts}
use Rattle.bits.specs.Bit.{bit}
use Rattle.bits.proofs.Words.{bit_mod}
use Rattle.bits.proofs.Lows.{bit_low}
use Rattle.labels.specs.Segments.{is_point, Rising, goes_on, segment, point_holds, first_of_segment}
use Rattle.labels.specs.CutLists.{cuts_of, segment_count, real_bits}
use Rattle.labels.specs.SegmentsLemmas.{segment_le, segment_first, first_le}

-- a cut is not 0, so the array has a place for each
room : (c : Cuts) → (length c.list < c.len) ⊎ (c.len ≤ length c.list) → c.len ≤ length c.list
room c (inl h) = absurd (omega (arith, c.low (length c.list) h, get_or_past c.list (length c.list) 0 (omega arith)))
room c (inr h) = h

pub length_cuts : (c : Cuts) → length (cuts_of c) ≡ c.len
length_cuts c = length-take-le c.len c.list (room c (cases_lt (length c.list) c.len))

pub get_or_cuts : (c : Cuts) (i : ℕ) → i < c.len → slice_index (cuts_of c) i ≡ slice_index c.list i
get_or_cuts c i h = get_or-take c.len c.list i 0 h

pub cuts_rising : (c : Cuts) → Rising (cuts_of c)
cuts_rising c =
    let n = length_cuts c in
    record {
      few = omega (arith, n, c.few);
      low = λ i h. let l : i < c.len = omega (arith, n) in omega (arith, c.low i l, get_or_cuts c i l);
      high = λ i h. let l : i < c.len = omega (arith, n) in omega (arith, c.high i l, get_or_cuts c i l);
      rises = λ i h.
          let l : i + 1 < c.len = omega (arith, n) in
          omega (arith, c.rises i l, get_or_cuts c i (omega arith), get_or_cuts c (i + 1) l);
    }

pub segment_lt : (c : Cuts) (v : ℕ) → segment (cuts_of c) v < 64
segment_lt c v = omega (arith, segment_le (cuts_of c) v, (cuts_rising c).few)

-- a predicate with a bit that means something holds of the first number of that bit's segment
pub point_at : (c : Cuts) (p k : ℕ) → bit (real_bits c p) k ≡ true
    → point_holds (cuts_of c) p (first_of_segment (cuts_of c) k) ≡ true
point_at c p k t =
    let n = length (cuts_of c) in
    let both = and_parts (nat_lt k (segment_count c)) (bit p k) (sym (bit_low (n + 1) p k) ∙ t) in
    let l : k < n + 1 = ltb-true k (n + 1) both.0 in
    let m : k ≤ n = omega arith in
    and_from (is_point (first_of_segment (cuts_of c) k)) (bit p (segment (cuts_of c) (first_of_segment (cuts_of c) k)))
    (le-leb (first_of_segment (cuts_of c) k) 1114111 (first_le (cuts_of c) (cuts_rising c) k m))
    (ap (bit p) (segment_first (cuts_of c) (cuts_rising c) k m) ∙ both.1)

-- a predicate without one holds of nothing
pub no_point : (c : Cuts) (p : ℕ) → ((k : ℕ) → bit (real_bits c p) k ≡ false)
    → (v : ℕ) → point_holds (cuts_of c) p v ≡ false
no_point c p none v =
    let s = segment (cuts_of c) v in
    and_right (is_point v) (bit p s) (sym (bit_mod (segment_count c) p s (omega (arith, segment_le (cuts_of c) v))) ∙ none s)

pub pushes : (c : Cuts) (cut last : ℕ) → c.len < 63 → last ≡ slice_index (cuts_of c) (length (cuts_of c) - 1) → last < cut → cut ≤ 1114111
    → goes_on (cuts_of c) cut ≡ true
pushes c cut last few e above high =
    and_from (nat_lt (length (cuts_of c)) 63) _ (lt-ltb (length (cuts_of c)) 63 (omega (arith, length_cuts c)))
    (and_from (nat_lt (slice_index (cuts_of c) (length (cuts_of c) - 1)) cut) (is_point cut)
    (lt-ltb (slice_index (cuts_of c) (length (cuts_of c) - 1)) cut (omega (arith, e)))
    (le-leb cut 1114111 high))

pub sample_at : (c : Cuts) (p k : ℕ) (r : Option ℕ) → bit (real_bits c p) k ≡ true
    → r ≡ cond (nat_le k (length (cuts_of c))) (Some (first_of_segment (cuts_of c) k)) None
    → MatchOption r ((v : ℕ) → point_holds (cuts_of c) p v ≡ false) (λ v. point_holds (cuts_of c) p v ≡ true)
sample_at c p k r t e =
    let n = length (cuts_of c) in
    let l : k < n + 1 = ltb-true k (n + 1) (and_parts (nat_lt k (segment_count c)) (bit p k) (sym (bit_low (n + 1) p k) ∙ t)).0 in
    let within : leb k (length (cuts_of c)) ≡ true = le-leb k n (omega arith) in
    let some : r ≡ Some (first_of_segment (cuts_of c) k) = e ∙ ap (λ b. cond b (Some (first_of_segment (cuts_of c) k)) None) within in
    rw some (point_at c p k t)
