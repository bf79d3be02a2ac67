-- How a range is printed.
use Rattle.std.specs.Prelude.{ℕ, if◌then◌else◌, ◌==◌, List, ◌∷◌, ◌++◌, decimal}

-- one number, or two with a dash (byte 45) between
abbrev pub range_text : ℕ → ℕ → List ℕ
range_text first last = if first == last then decimal first else decimal first ++ 45 ∷ decimal last
