-- The pairs of rows with nothing in them, and after a write of one bit.
use Rattle.std.proofs.Common.{◌≡◌, ℕ, ◌+◌, ◌-◌, ◌*◌, ◌/◌, ◌%◌, ◌^◌, ◌<◌, ◌≤◌, Bool, true, false, cond, eqb, ltb, List, length, get_or, set, replicate, slice_range, drop, subst, not, Decides, MatchBool, mod-eq_of_lt, zero-add, sym, ap, ◌∙◌, refl, inl, inr, arith, get_or-set_other, get_or-set_same, pow_pos}
use lib.Bits.{bit_and, bit_or}
use Rattle.std.proofs.lemmas.Grind.{same_number_lists}
use Rattle.std.proofs.lemmas.Nat.{mod_below, and_le_l}
use Rattle.std.proofs.lemmas.Bool.{cases_eq, cases_lt, and_parts, and_from, ltb-true, eqb-true, cases_Bool, both_ways, not_from_false, false≢true, cases_order, and_right, eq-eqb, ne_eqb, lt-ltb, le-ltb, le-leb, lt-leb}
use Rattle.std.proofs.lemmas.List.{length-take-le, length-drop, get_or-take, get_or-drop, get_or-replicate, get_or_past, length-replicate}
use Rattle.std.specs.List.{HoldsAt, AllWithin, zip}
use Rattle.std.proofs.lemmas.Slice.Zip.{length-zip, get_or-zip}
use Rattle.bits.specs.Bit.{bit}
use Rattle.bits.specs.Matrix.{pair, Changed}
use Rattle.bits.proofs.Lows.{some_bit_at}
use Rattle.bits.proofs.Words.{bit_within, bit-bit_or, bit-bit_and, bit_not, bit_left, bit_past, bit_zero}

-- a word in the place of the word of the pair p, q, of which it differs in one bit, now x
pub changed : (x : Bool) (rows : List ℕ) (p q w : ℕ) → 4 * p + 3 < length rows → q < 256
    → ((k : ℕ) → k < 64 → bit w k ≡ cond (eqb k (q % 64)) x (bit (get_or rows (4 * p + q / 64) 0) k))
    → Changed x rows (set rows (4 * p + q / 64) w) p q
unfolding pair
changed x rows p q w row column each =
    let at : 4 * p + q / 64 < length rows = omega arith in
    let one : q % 64 < 64 = omega arith in
    record {
      here = rw (lt-ltb q 256 column, get_or-set_same, each (q % 64) one, eq-eqb (q % 64) (q % 64) refl);
      others = λ i j ne. elim (cases_lt j 256) [
        | inl l ↦ elim (cases_eq (4 * i + j / 64) (4 * p + q / 64)) [
          | inl e ↦
              let one : j % 64 < 64 = omega arith in
              rw (e, get_or-set_same, each (j % 64) one, ne_eqb (j % 64) (q % 64) (λ m. ne (omega arith) (omega arith)))
          | inr away ↦ rw get_or-set_other
        ]
        | inr past ↦ rw le-ltb
      ];
    }

-- a pair by the word that it lies in
pub pair_at : (rows : List ℕ) (p q : ℕ) → q < 256 → pair rows p q ≡ bit (get_or rows (4 * p + q / 64) 0) (q % 64)
unfolding pair
pair_at rows p q h = rw (lt-ltb q 256 h)

pub pair_column : (rows : List ℕ) (p q : ℕ) → pair rows p q ≡ true → q < 256
unfolding pair
pair_column rows p q e = ltb-true q 256 (and_parts (ltb q 256) _ e).0

-- rows that have the same words at p and at p'
pub same_row : (old new : List ℕ) (p p' : ℕ) → ((j : ℕ) → j < 4 → get_or new (4 * p' + j) 0 ≡ get_or old (4 * p + j) 0) → (q : ℕ) → pair new p' q ≡ pair old p q
unfolding pair
same_row old new p p' same q = elim (cases_lt q 256) [
  | inl l ↦ rw (same (q / 64) (omega arith))
  | inr past ↦ rw le-ltb
]

-- words that are written from the first place on and fill the rows are the rows
pub written_whole : (rows words : List ℕ) → length words ≡ length rows → ((i : ℕ) → i < length words → get_or rows (0 + i) 0 ≡ get_or words i 0) → words ≡ rows
written_whole rows words long here = same_number_lists words rows long (λ i h. sym (here i h) ∙ ap (λ n. get_or rows n 0) (zero-add i))

-- two words have a bit in common
abbrev pub Common : ℕ → ℕ → Type 0
Common x y = (k : ℕ) × (bit x k ≡ true) × (bit y k ≡ true)

pub common : (x y : ℕ) → x < 2 ^ 64 → Decides (not (eqb (bit_and x y) 0)) (Common x y)
common x y small =
    let same : bit_and x y % 2 ^ 64 ≡ bit_and x y = mod-eq_of_lt (omega (arith, and_le_l x y)) in (
      (λ e. let k = some_bit_at (bit_and x y) (rw same e) in
          let both = and_parts (bit x k.0) (bit y k.0) (sym (bit-bit_and x y k.0) ∙ k.1) in
          (k.0, both.0, both.1)),
      (λ c. elim (cases_Bool (eqb (bit_and x y) 0)) [
        | inl z ↦ absurd (both_ways (bit (bit_and x y) c.0) (ap (λ w. bit w c.0) (eqb-true (bit_and x y) 0 z) ∙ bit_zero c.0) (bit-bit_and x y c.0 ∙ and_from (bit x c.0) (bit y c.0) c.1 c.2))
        | inr n ↦ not_from_false (eqb (bit_and x y) 0) n
      ]),
    )

-- rows have a number in common where two of their words have a bit in common
module _ (words row : List ℕ) (p : ℕ) (fits : 4 * p + 3 < length words) (four : length row ≡ 4) where
  abbrev zs : List (ℕ × ℕ)
  zs = zip (slice_range words (4 * p) (4 * p + 4)) row

  abbrev Both : Type 0
  Both = (q : ℕ) × (pair words p q ≡ true) × (pair row 0 q ≡ true)

  part : length (slice_range words (4 * p) (4 * p + 4)) ≡ 4
  part = length-take-le (4 * p + 4 - 4 * p) (drop (4 * p) words) (omega (arith, length-drop (4 * p) words)) ∙ omega arith

  long : length zs ≡ 4
  long = length-zip (slice_range words (4 * p) (4 * p + 4)) row ∙ rw (part, four) refl

  at : (k : ℕ) → k < 4 → get_or zs k (0, 0) ≡ (get_or words (4 * p + k) 0, get_or row k 0)
  at k h =
      get_or-zip (slice_range words (4 * p) (4 * p + 4)) row k (0, 0) (omega (arith, part)) (omega arith)
      ∙ ap (λ w. (w, get_or row k 0)) (get_or-take (4 * p + 4 - 4 * p) (drop (4 * p) words) k 0 (omega arith) ∙ get_or-drop (4 * p) words k 0)

  both_at : (k : ℕ) → k < 4 → Common (get_or words (4 * p + k) 0) (get_or row k 0) → Both
  both_at k h (j, a, b) =
      let small = bit_within (get_or row k 0) j b in
      let q : ℕ = 64 * k + j in
      let word : q / 64 ≡ k = omega arith in
      let column : q % 64 ≡ j = omega arith in
      (q, pair_at words p q (omega arith) ∙ rw (word, column) a, pair_at row 0 q (omega arith) ∙ rw (zero-add (q / 64), word, column) b)

  common_at : (b : Both) → Common (get_or words (4 * p + b.0 / 64) 0) (get_or row (b.0 / 64) 0)
  common_at (q, a, b) =
      let h = pair_column words p q a in
      (q % 64, sym (pair_at words p q h) ∙ a, ap (λ k. bit (get_or row k 0) (q % 64)) (sym (zero-add (q / 64))) ∙ sym (pair_at row 0 q h) ∙ b)

  pub common_row : (r : Bool) → MatchBool r ((k : ℕ) × (k < length zs) × HoldsAt (λ z. Common z.0 z.1) zs k) (AllWithin (λ z. Common z.0 z.1 → ⊥) zs 0 (length zs)) → Decides r Both
  common_row true m = ((λ _. both_at m.0 (omega (arith, long, m.1)) (subst (λ z. Common z.0 z.1) (at m.0 (omega (arith, long, m.1))) (m.2 (0, 0)))), λ _. refl)
  common_row false m = (
    (λ e. absurd (false≢true e)),
    (λ b. let h : b.0 / 64 < 4 = let c = pair_column words p b.0 b.1 in omega arith in
        absurd (m (b.0 / 64) (0, 0) (omega arith) (omega (arith, long)) (subst (λ z. Common z.0 z.1) (sym (at (b.0 / 64) h)) (common_at b)))),
  )

low_one : bit 1 0 ≡ true
unfolding bit
low_one = refl

-- the bits of `1 << k`
bit_one : (k j : ℕ) → j < 64 → bit ((1 * 2 ^ k) % 2 ^ 64) j ≡ eqb j k
bit_one k j h = rw (bit_left, lt-ltb j 64 h) (elim (cases_order j k) [
  | inl e ↦ let z : j - k ≡ 0 = omega arith in rw (le-leb k j (omega arith), eq-eqb j k e, z) low_one
  | inr (inl l) ↦ rw (lt-leb k j l, ne_eqb j k (λ e. omega arith))
  | inr (inr g) ↦ let one : 1 ≤ j - k = omega arith in rw (le-leb k j (omega arith), ne_eqb j k (λ e. omega arith), bit_past 1 1 (j - k) (omega arith) one)
])

pub bit_keep : (w k j : ℕ) → j < 64 → bit (bit_or w ((1 * 2 ^ k) % 2 ^ 64)) j ≡ cond (eqb j k) true (bit w j)
bit_keep w k j h = rw (bit-bit_or, bit_one k j h) (grind arith)

pub bit_clear : (w k j : ℕ) → j < 64 → bit (bit_and w (2 ^ 64 - 1 - (1 * 2 ^ k) % 2 ^ 64)) j ≡ cond (eqb j k) false (bit w j)
bit_clear w k j h = rw (bit-bit_and, bit_not ((1 * 2 ^ k) % 2 ^ 64) j (mod_below (1 * 2 ^ k) (2 ^ 64) (pow_pos 64)), lt-ltb j 64 h, bit_one k j h) (grind arith)

pub get_or_blank : {X : Type 0} (n i : ℕ) (x : X) → get_or (replicate n x) i x ≡ x
get_or_blank n i x = elim (cases_lt i n) [
  | inl l ↦ get_or-replicate n i x x l
  | inr l ↦ get_or_past (replicate n x) i x (rw length-replicate l)
]

pub pair_zero : (rows : List ℕ) → ((i : ℕ) → get_or rows i 0 ≡ 0) → (p q : ℕ) → pair rows p q ≡ false
unfolding pair
pair_zero rows zero p q = rw (zero (4 * p + q / 64)) (and_right (ltb q 256) _ (bit_zero (q % 64)))

pub pair_none : (n p q : ℕ) → pair (replicate {A = ℕ} n 0) p q ≡ false
pair_none n p q = pair_zero (replicate {A = ℕ} n 0) (λ i. get_or_blank n i 0) p q
