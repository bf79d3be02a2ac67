-- The number that a field of decimal digits writes. `read_number` ensures, besides, that these are the texts of std's `decimal`.
use Rattle.std.specs.Prelude.{ℕ, Bool, false, not, ◌&&◌, List, [], ◌∷◌, Option, ◌==◌, nat_le}
use Rattle.std.specs.Bool.{then_some}
use Rattle.std.specs.Str.Parse.{digits_value}
use Rattle.std.specs.Char.{is_ascii_digit}
use Rattle.std.specs.Str.{all_ascii_digits}

-- digits, at least one, and no 0 in front of others
abbrev pub plain : List ℕ → Bool
plain [] = false
plain (c ∷ []) = is_ascii_digit c
plain (c ∷ d ∷ ds) = not (c == 48) && all_ascii_digits (c ∷ d ∷ ds)

-- the number that a field writes without leading zeros, if it is at most `most`
unfoldable pub number_in : ℕ → List ℕ → Option ℕ
number_in most field = then_some (plain field && nat_le (digits_value 10 field) most) (digits_value 10 field)
