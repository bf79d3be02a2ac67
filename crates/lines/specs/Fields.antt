-- The lines of a text, each of which a byte 10 ends, and the fields of a line, which commas (44) part.
use Rattle.std.specs.Prelude.{◌≡◌, ℕ, ◌+◌, cond, List, [], ◌∷◌, ◌++◌, length, Some, None, Option, ◌==◌, ◌≢◌}
use Rattle.std.specs.Borrow.{Bor}
use Rattle.std.specs.List.{AllByRecursion, slice_split}

-- no byte is b
abbrev pub Free : ℕ → List ℕ → Type 0
Free b xs = AllByRecursion (λ x. x ≢ b) xs

-- front stands before the first b, and back behind it
pub record Parted (b : ℕ) (whole front back : List ℕ) : Type 0 where
  pub is : whole ≡ front ++ (b ∷ back)
  pub free : Free b front

-- the lines of a text, and what stands behind the last byte 10
pub record Split : Type 0 where
  pub whole : List (List ℕ)
  pub rest : List ℕ

-- a line more in front
abbrev pub above : List ℕ → Split → Split
above line s = record { whole = line ∷ s.whole; rest = s.rest }

-- a byte more in front
abbrev pub before : ℕ → List (List ℕ) → List ℕ → Split
before x [] rest = record { whole = []; rest = x ∷ rest }
before x (line ∷ lines) rest = record { whole = (x ∷ line) ∷ lines; rest = rest }

unfoldable pub split : List ℕ → Split
split [] = record { whole = []; rest = [] }
split (x ∷ xs) = cond (x == 10) (above [] (split xs)) (before x (split xs).whole (split xs).rest)

-- what stands between the commas of a line: one field more than there are commas
unfoldable pub fields : List ℕ → List (List ℕ)
fields line = slice_split (λ b. b == 44) line

-- the fields that are left of a line, from what stands behind the last comma that was passed, and how many bytes these are, each field with its comma
abbrev pub left_fields : Option (Bor (List ℕ)) → List (List ℕ)
left_fields None = []
left_fields (Some rest) = fields rest.now

abbrev pub left_size : Option (Bor (List ℕ)) → ℕ
left_size None = 0
left_size (Some rest) = length rest.now + 1
