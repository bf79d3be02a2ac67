-- The fields of a line, passed one after the other.
use Rattle.std.proofs.Common.{◌≡◌, ℕ, drop, suc, subst, ◌+◌, ◌-◌, ◌≤◌, List, [], ◌∷◌, length, get_or, Some, None, Option, sym, refl, ap, ◌∙◌, ap₂, arith, MatchOption}
use Rattle.std.specs.Option.{unwrap_or}
use Rattle.std.specs.Iterator.{Yields, SkipsThenYields}
use Rattle.lines.specs.Fields.{fields, left_fields, left_size}
use Rattle.lines.proofs.Parts.{fields_some}
use Rattle.lines.specs.Places.{Passes, further, offset_of, place_of}
use Rattle.lines.specs.declared.Place.{Place}
use Rattle.lines.specs.declared.fields.Field.{Field}
use Rattle.lines.specs.declared.fields.Fields.{Fields}

abbrev steps : Fields → Option Field → Fields → Type 0
steps s r t = MatchOption r (s.left ≡ None) (λ f. (f.at ≡ s.at) × Passes s.left s.at f.bytes.now t.left t.at)

-- what is left when some fields were passed
pub record Passed (s u : Fields) (n : ℕ) : Type 0 where
  field : (j : ℕ) → get_or (left_fields s.left) (n + j) [] ≡ get_or (left_fields u.left) j []
  offset : (j : ℕ) → s.at.offset + offset_of (left_fields s.left) (n + j) ≡ u.at.offset + offset_of (left_fields u.left) j
  size : s.at.offset + left_size s.left ≡ u.at.offset + left_size u.left
  line : u.at.line ≡ s.at.line

passed : (s u : Fields) (xs : List Field) → Yields steps s xs u → Passed s u (length xs)
unfolding offset_of
passed s u [] e = subst (λ t. Passed s t 0) e (record { field = λ j. ap (λ m. get_or (left_fields s.left) m []) (omega arith); offset = λ j. ap (λ m. s.at.offset + offset_of (left_fields s.left) m) (omega arith); size = refl; line = refl })
passed s u (x ∷ xs) (t, taken, rest) =
    let p = taken.1 in
    let more = passed t u xs rest in
    let long : (j : ℕ) → suc (length xs) + j ≡ suc (length xs + j) = λ j. omega arith in
    record {
      field = λ j. ap (λ m. get_or (left_fields s.left) m []) (long j) ∙ ap (λ fs. get_or fs (suc (length xs + j)) []) p.first ∙ more.field j;
      offset = λ j. omega (arith, ap (λ m. offset_of (left_fields s.left) m) (long j), ap (λ fs. offset_of fs (suc (length xs + j))) p.first, more.offset j, ap (λ q. q.offset) p.place);
      size = omega (arith, p.size, more.size, ap (λ q. q.offset) p.place);
      line = more.line ∙ ap (λ q. q.line) p.place;
    }

-- the field behind k commas, or else what is passed for it
module _ (s : Fields) (k : ℕ) (behind : Field) (empty : behind.bytes.now ≡ []) (past : behind.at ≡ further s.at (left_size s.left)) where
  abbrev pub IsField : Field → Type 0
  IsField f = (f.bytes.now ≡ get_or (left_fields s.left) k []) × (f.at ≡ place_of s.at (left_fields s.left) k)

  by_result : (u v : Fields) (xs : List Field) (r : Option Field) → Passed s u (length xs) → steps u r v → MatchOption r (length xs ≤ k) (λ _. length xs ≡ k) → IsField (unwrap_or r behind)
  unfolding offset_of
  by_result u v xs None p e n =
      let long : length xs + (k - length xs) ≡ k = omega (arith, n) in
      let field : get_or (left_fields s.left) k [] ≡ [] = ap (λ m. get_or (left_fields s.left) m []) (sym long) ∙ p.field (k - length xs) ∙ ap (λ o. get_or (left_fields o) (k - length xs) []) e in
      let none : offset_of (left_fields u.left) (k - length xs) ≡ 0 = ap (λ o. offset_of (left_fields o) (k - length xs)) e in
      let offset : left_size s.left ≡ offset_of (left_fields s.left) k =
      omega (arith, ap (λ m. offset_of (left_fields s.left) m) long, p.offset (k - length xs), none, p.size, ap left_size e) in
      (empty ∙ sym field, past ∙ ap (further s.at) offset)
  by_result u v xs (Some f) p e n =
      let long : length xs + 0 ≡ k = omega (arith, n) in
      let field : get_or (left_fields s.left) k [] ≡ f.bytes.now = ap (λ m. get_or (left_fields s.left) m []) (sym long) ∙ p.field 0 ∙ ap (λ fs. get_or fs 0 []) e.1.first in
      let none : offset_of (left_fields u.left) 0 ≡ 0 = ap (λ fs. offset_of fs 0) e.1.first in
      let offset : u.at.offset ≡ s.at.offset + offset_of (left_fields s.left) k = omega (arith, ap (λ m. offset_of (left_fields s.left) m) long, p.offset 0, none) in
      (sym field, e.0 ∙ ap₂ (λ l o. record { line = l; offset = o }) p.line offset)

  pub nth_field : (v : Fields) (r : Option Field) → SkipsThenYields steps s k r v → IsField (unwrap_or r behind)
  nth_field v r (xs, (u, all, last), n) = by_result u v xs r (passed s u xs all) last n

-- what is left behind the first field, which every line has
pub others_left : (s u : Fields) (line : List ℕ) (at : Place) (r : Option Field) → left_fields s.left ≡ fields line → s.at ≡ at → steps s r u
    → (left_fields u.left ≡ drop 1 (fields line)) × (u.at ≡ further at (length (get_or (fields line) 0 []) + 1))
others_left s u line at None is place e = absurd (omega (arith, ap length (sym is ∙ ap left_fields e), fields_some line))
others_left s u line at (Some f) is place e =
    let whole = sym is ∙ e.1.first in
    (sym (ap (drop 1) whole), e.1.place ∙ ap₂ (λ p n. further p (n + 1)) place (sym (ap (λ fs. length (get_or fs 0 [])) whole)))
