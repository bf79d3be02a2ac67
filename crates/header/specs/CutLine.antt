-- The first line of a program's input: `cuts`, and then the cuts, if any.
use Rattle.std.specs.Prelude.{ℕ, ◌+◌, cond, List, [], ◌∷◌, ◌++◌, length, Some, None, Ok, Err, codes, decimal, Result, nat_lt}
use Rattle.std.specs.Str.{bytes_eq}
use Rattle.labels.specs.Segments.{goes_on}
use Rattle.lines.specs.Fields.{fields}
use Rattle.lines.specs.Numbers.{number_in}
use Rattle.lines.specs.Places.{further}
use Rattle.lines.specs.declared.Fault.{Fault}
use Rattle.lines.specs.declared.Fault.TheVariants.{Word, Count, Number}
use Rattle.lines.specs.declared.Place.{Place}

-- the line that says these cuts
unfoldable pub cut_fields_text : List ℕ → List ℕ
cut_fields_text [] = []
cut_fields_text (cut ∷ cuts) = 44 ∷ (decimal cut ++ cut_fields_text cuts)

abbrev pub cut_line_text : List ℕ → List ℕ
cut_line_text cuts = codes "cuts" ++ cut_fields_text cuts

-- the fields behind the first, left to right, from a place on: each a number that may follow the cuts before it
unfoldable pub cut_fields : List ℕ → Place → List (List ℕ) → Result (List ℕ) Fault
cut_fields cuts at [] = Ok cuts
cut_fields cuts at (field ∷ more) = elim (number_in 1114111 field) [
  | None ↦ Err (Number at)
  | Some cut ↦ cond (goes_on cuts cut) (cut_fields (cuts ++ (cut ∷ [])) (further at (length field + 1)) more) (Err (Number at))
]

-- what a line says, or its first fault: the first field, then the count of fields, then the fields
abbrev pub cut_line_of : Place → List (List ℕ) → Result (List ℕ) Fault
cut_line_of at [] = Err (Word at)
cut_line_of at (word ∷ more) =
    cond (bytes_eq word (codes "cuts")) (cond (nat_lt 64 (length (word ∷ more))) (Err (Count at)) (cut_fields [] (further at 5) more)) (Err (Word at))

unfoldable pub cut_line : Place → List ℕ → Result (List ℕ) Fault
cut_line at line = cut_line_of at (fields line)
