-- The fields of the line of cuts, one after the other.
use Rattle.std.proofs.Common.{◌≡◌, ℕ, ◌+◌, ◌<◌, ◌≤◌, Bool, true, false, cond, ltb, List, [], ◌∷◌, ◌++◌, length, get_or, drop, Some, None, Ok, Err, codes, Option, Result, sym, refl, ap, ◌∙◌, ap₂, arith}
use Rattle.std.specs.Option.{ok_or}
use Rattle.std.specs.Result.{is_ok, OnOk}
use Rattle.std.specs.Str.{bytes_eq}
use Rattle.std.proofs.lemmas.Slice.Eq.{bytes_eq-Decides}
use Rattle.std.proofs.lemmas.Bool.{lt-ltb, le-ltb}
use Rattle.lines.proofs.Parts.{fields_some}
use Rattle.lines.proofs.Results.{none_from_ok_or, some_from_ok_or}
use Rattle.labels.specs.Segments.{goes_on}
use Rattle.lines.specs.Fields.{fields, left_fields}
use Rattle.lines.specs.Numbers.{number_in}
use Rattle.lines.specs.Places.{Passes, further}
use Rattle.lines.specs.declared.Fault.{Fault}
use Rattle.lines.specs.declared.Fault.TheVariants.{Word, Count, Number}
use Rattle.lines.specs.declared.Place.{Place}
use Rattle.std.specs.Borrow.{Bor}
use Rattle.header.specs.CutLine.{cut_fields, cut_line_of, cut_line}

module _ (cuts : List ℕ) (at : Place) (field : List ℕ) (more : List (List ℕ)) where
  by_number : Option ℕ → Result (List ℕ) Fault
  by_number o = elim o [
    | None ↦ Err (Number at)
    | Some cut ↦ cond (goes_on cuts cut) (cut_fields (cuts ++ (cut ∷ [])) (further at (length field + 1)) more) (Err (Number at))
  ]

  pub cut_fields_more : (cut : ℕ) → number_in 1114111 field ≡ Some cut → goes_on cuts cut ≡ true
      → cut_fields cuts at (field ∷ more) ≡ cut_fields (cuts ++ (cut ∷ [])) (further at (length field + 1)) more
  unfolding cut_fields by_number
  cut_fields_more cut e t =
      ap by_number e ∙ ap (λ b. cond b (cut_fields (cuts ++ (cut ∷ [])) (further at (length field + 1)) more) (Err (Number at))) t

  pub cut_fields_number : number_in 1114111 field ≡ None → cut_fields cuts at (field ∷ more) ≡ Err (Number at)
  unfolding cut_fields by_number
  cut_fields_number e = ap by_number e

  pub cut_fields_order : (cut : ℕ) → number_in 1114111 field ≡ Some cut → goes_on cuts cut ≡ false → cut_fields cuts at (field ∷ more) ≡ Err (Number at)
  unfolding cut_fields by_number
  cut_fields_order cut e t =
      ap by_number e ∙ ap (λ b. cond b (cut_fields (cuts ++ (cut ∷ [])) (further at (length field + 1)) more) (Err (Number at))) t

-- what a result ensures where it is none of its errors
by_ok : {E : Type 0} (r : Result (Unit {0}) E) (P : Type 0) → is_ok r ≡ true → OnOk r P → P
by_ok (Ok x) P ok h = h
by_ok (Err e) P ok h = absurd (omega (arith, ap {B = ℕ} (λ b. cond b 1 0) ok))

-- a turn at what is left, of which the first field is taken
module _ (whole : Result (List ℕ) Fault) (cuts : List ℕ) (at : Place) (left : Option (Bor (List ℕ))) (field : List ℕ) (left' : Option (Bor (List ℕ))) (at' : Place)
    (so : whole ≡ cut_fields cuts at (left_fields left)) (passes : Passes left at field left' at') where
  turn : whole ≡ cut_fields cuts at (field ∷ left_fields left')
  turn = so ∙ ap (cut_fields cuts at) passes.first

  pub turn_number : (place : Place) (f : Fault) → place ≡ at → Err f ≡ ok_or (number_in 1114111 field) (Number place) → whole ≡ Err f
  turn_number place f here e =
      let none = none_from_ok_or _ _ _ (sym e) in
      turn ∙ cut_fields_number cuts at field (left_fields left') none.0 ∙ ap Err (ap Number (sym here) ∙ none.1)

  pub turn_order : {E : Type 0} (place : Place) (f : Fault) (cut : ℕ) (pushed : Result (Unit {0}) E) → place ≡ at → Ok cut ≡ ok_or (number_in 1114111 field) (Number place)
      → is_ok pushed ≡ goes_on cuts cut → is_ok pushed ≡ false → f ≡ Number place → whole ≡ Err f
  turn_order place f cut pushed here e on refused told =
      turn ∙ cut_fields_order cuts at field (left_fields left') cut (some_from_ok_or _ _ _ (sym e)) (sym on ∙ refused) ∙ ap Err (ap Number (sym here) ∙ sym told)

  pub turn_more : {E : Type 0} (place : Place) (cut : ℕ) (pushed : Result (Unit {0}) E) (next : List ℕ) → place ≡ at → Ok cut ≡ ok_or (number_in 1114111 field) (Number place)
      → is_ok pushed ≡ goes_on cuts cut → OnOk pushed (next ≡ cuts ++ (cut ∷ [])) → is_ok pushed ≡ true → whole ≡ cut_fields next at' (left_fields left')
  turn_more place cut pushed next here e on made took =
      turn ∙ cut_fields_more cuts at field (left_fields left') cut (some_from_ok_or _ _ _ (sym e)) (sym on ∙ took)
      ∙ ap₂ (λ xs p. cut_fields xs p (left_fields left')) (sym (by_ok pushed _ took made)) (sym passes.place)

-- the whole line
module _ (at : Place) (line word : List ℕ) (first : word ≡ get_or (fields line) 0 []) where
  by_word : Bool → Result (List ℕ) Fault
  by_word t = cond t (cond (ltb 64 (length (fields line))) (Err (Count at)) (cut_fields [] (further at 5) (drop 1 (fields line)))) (Err (Word at))

  cut_line_by : (t : Bool) → bytes_eq word (codes "cuts") ≡ t → cut_line at line ≡ by_word t
  unfolding cut_line by_word
  cut_line_by t e = by (fields line) (fields_some line) ∙ ap by_word (ap (λ w. bytes_eq w (codes "cuts")) (sym first) ∙ e)
    where
      by : (fs : List (List ℕ)) → 0 < length fs → cut_line_of at fs ≡ cond (bytes_eq (get_or fs 0 []) (codes "cuts")) (cond (ltb 64 (length fs)) (Err (Count at)) (cut_fields [] (further at 5) (drop 1 fs))) (Err (Word at))
      by [] h = absurd (omega arith)
      by (f ∷ fs) h = refl

  pub cut_line_word : bytes_eq word (codes "cuts") ≡ false → cut_line at line ≡ Err (Word at)
  unfolding by_word
  cut_line_word e = cut_line_by false e

  pub cut_line_count : (n : ℕ) → bytes_eq word (codes "cuts") ≡ true → n ≡ length (fields line) → 64 < n → cut_line at line ≡ Err (Count at)
  unfolding by_word
  cut_line_count n e is h =
      cut_line_by true e ∙ ap (λ b. cond b (Err (Count at)) (cut_fields [] (further at 5) (drop 1 (fields line)))) (lt-ltb 64 (length (fields line)) (omega (arith, is, h)))

  pub cut_line_fields : (n : ℕ) (left : List (List ℕ)) (from : Place) → bytes_eq word (codes "cuts") ≡ true → n ≡ length (fields line) → n ≤ 64 → left ≡ drop 1 (fields line)
      → from ≡ further at (length (get_or (fields line) 0 []) + 1) → cut_line at line ≡ cut_fields [] from left
  unfolding by_word
  cut_line_fields n left from e is h behind place =
      cut_line_by true e ∙ ap (λ b. cond b (Err (Count at)) (cut_fields [] (further at 5) (drop 1 (fields line)))) (le-ltb 64 (length (fields line)) (omega (arith, is, h)))
      ∙ ap₂ (cut_fields []) (ap (λ w. further at (length w + 1)) (sym ((bytes_eq-Decides word (codes "cuts")).0 e) ∙ first) ∙ sym place) (sym behind)
