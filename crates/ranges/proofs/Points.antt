-- A run of segments is a run of code points.
use Rattle.std.proofs.Common.{◌≡◌, ℕ, ◌+◌, ◌-◌, ◌<◌, ◌≤◌, max, Bool, true, false, ◌&&◌, ltb, List, length, sym, ap, ◌∙◌, subst, inl, inr, arith}
use Rattle.std.proofs.lemmas.Bool.{and_from, and_left, and_parts, and_right, cases_lt, le-leb, lt-leb, lt-ltb, ltb-true}
use Rattle.bits.specs.Bit.{bit}
use Rattle.labels.specs.Segments.{is_point, Rising, segment}
use Rattle.labels.specs.SegmentsLemmas.{segment_le}
use Rattle.ranges.specs.Runs.{Run}
use Rattle.ranges.specs.Starts.{start_of}
use Rattle.ranges.proofs.Starts.{segment_rises, start_past, start_point, start_le, segment_start, before_start, from_start, earlier}

-- a predicate p, and those of its bits that mean something
module _ (cuts : List ℕ) (r : Rising cuts) (p real : ℕ) (low : (k : ℕ) → bit real k ≡ (ltb k (length cuts + 1) && bit p k)) where
  abbrev holds : ℕ → Bool
  holds c = is_point c && bit p (segment cuts c)

  bit_real : (c : ℕ) → bit real (segment cuts c) ≡ bit p (segment cuts c)
  bit_real c =
      let s = segment cuts c in
      low s ∙ ap (λ b. b && bit p s) (lt-ltb s (length cuts + 1) (omega (arith, segment_le cuts c)))

  real_within : (s : ℕ) → bit real s ≡ true → s ≤ length cuts
  real_within s t = omega (arith, ltb-true s (length cuts + 1) (and_parts (ltb s (length cuts + 1)) (bit p s) (sym (low s) ∙ t)).0)

  clear : (c : ℕ) → bit real (segment cuts c) ≡ false → holds c ≡ false
  clear c t = and_right (is_point c) (bit p (segment cuts c)) (sym (bit_real c) ∙ t)

  module _ (from seg : ℕ) (here : seg ≡ segment cuts from) where
    later : (k : ℕ) → from ≤ k → seg ≤ segment cuts k
    later k h = omega (arith, here, segment_rises cuts from k h)

    pub no_points : ((s : ℕ) → seg ≤ s → bit real s ≡ false) → (k : ℕ) → from ≤ k → holds k ≡ false
    no_points none k h = clear k (none (segment cuts k) (later k h))

    -- the run of segments s to u, which begins at `start` and ends before `end`
    module _ (s u start end first : ℕ) (run : Run (bit real) seg s u) (starts : start ≡ start_of cuts s) (ends : end ≡ start_of cuts (u + 1))
        (point : from ≤ 1114111) (cut : first ≡ max from start) where
      pub points_order : first < end
      points_order =
          let m : s ≤ length cuts = real_within s (run.inside s (omega arith) run.order) in
          omega (
            arith,
            cut,
            starts,
            ends,
            earlier cuts r (u + 1) from point (omega (arith, here, run.low, run.order)),
            earlier cuts r (u + 1) (start_of cuts s) (start_point cuts r s m) (omega (arith, segment_start cuts r s m, run.order)),
          )

      stops : holds (start_of cuts (u + 1)) ≡ false
      stops =
          let next = start_of cuts (u + 1) in
          elim (cases_lt (length cuts) (u + 1)) [
            | inl l ↦ and_left (is_point next) (bit p (segment cuts next)) (lt-leb next 1114111 (omega (arith, start_past cuts r (u + 1) l)))
            | inr g ↦ clear next (ap (bit real) (segment_start cuts r (u + 1) g) ∙ run.after)
          ]

      pub run_points : Run holds from first (end - 1)
      run_points =
          let order = points_order in
          let top = start_le cuts r (u + 1) in
          let e : start_of cuts (u + 1) ≡ end - 1 + 1 = omega arith in
          record {
            low = omega arith;
            order = omega arith;
            before = λ k g h. clear k (run.before (segment cuts k) (later k g) (before_start cuts r s k (omega arith)));
            inside = λ k g h.
                let q : k ≤ 1114111 = omega arith in
                let l = before_start cuts r (u + 1) k (omega arith) in
                and_from (is_point k) (bit p (segment cuts k)) (le-leb k 1114111 q)
                (sym (bit_real k) ∙ run.inside (segment cuts k) (from_start cuts r s k (omega arith) q) (omega arith));
            after = subst (λ n. holds n ≡ false) e stops;
          }
