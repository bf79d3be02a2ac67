-- Places in a text: further on in a line, in the line behind it, and where the fields of a line begin.
use Rattle.std.specs.Prelude.{◌≡◌, ℕ, zero, suc, ◌+◌, List, [], ◌∷◌, ◌++◌, length, Some, None, Option}
use Rattle.std.specs.Borrow.{Bor}
use Rattle.lines.specs.Fields.{Free, left_fields, left_size}
use Rattle.lines.specs.declared.Place.{Place}

-- the place `n` bytes further on in the same line, and the one where the line after it begins
abbrev pub further : Place → ℕ → Place
further at n = record { line = at.line; offset = at.offset + n }

abbrev pub next : Place → List ℕ → Place
next at line = record { line = at.line + 1; offset = at.offset + length line + 1 }

-- how many bytes of a line stand before the field behind k commas
unfoldable pub offset_of : List (List ℕ) → ℕ → ℕ
offset_of [] k = 0
offset_of (f ∷ fs) zero = 0
offset_of (f ∷ fs) (suc k) = length f + 1 + offset_of fs k

abbrev pub place_of : Place → List (List ℕ) → ℕ → Place
place_of at fs k = further at (offset_of fs k)

-- what is left of a line is the field alone, or goes on behind a comma
abbrev pub GoesOn : Option (Bor (List ℕ)) → List ℕ → Option (Bor (List ℕ)) → Type 0
GoesOn None bytes left' = ⊥
GoesOn (Some line) bytes None = line.now ≡ bytes
GoesOn (Some line) bytes (Some rest) = line.now ≡ bytes ++ (44 ∷ rest.now)

-- the first of the fields that are left is passed, and then its comma, if there is one
pub record Passes (left : Option (Bor (List ℕ))) (at : Place) (bytes : List ℕ) (left' : Option (Bor (List ℕ))) (at' : Place) : Type 0 where
  pub first : left_fields left ≡ bytes ∷ left_fields left'
  pub size : left_size left ≡ length bytes + 1 + left_size left'
  pub place : at' ≡ further at (length bytes + 1)
  pub whole : GoesOn left bytes left'
  pub free : Free 44 bytes
