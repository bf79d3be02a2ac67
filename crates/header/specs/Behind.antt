-- A text whose first line says the cuts by which the lines behind it are read.
use Rattle.std.specs.Prelude.{ℕ, List, [], ◌∷◌, ◌++◌, length, Err, Result}
use Rattle.lines.specs.Fields.{split}
use Rattle.lines.specs.Places.{further, next}
use Rattle.lines.specs.Texts.{and_then}
use Rattle.lines.specs.declared.Fault.{Fault}
use Rattle.lines.specs.declared.Fault.TheVariants as fault
use Rattle.lines.specs.declared.Place.{Place}
use Rattle.header.specs.CutLine.{cut_line_text, cut_line}

-- where a text begins
abbrev pub start : Place
start = record { line = 1; offset = 0 }

-- what a text says, by what the lines behind the first say under its cuts, or its first fault
abbrev pub by_cuts : {Y : Type 0} → (List ℕ → Place → List (List ℕ) → List ℕ → Result Y Fault) → List (List ℕ) → List ℕ → Result Y Fault
by_cuts more [] rest = Err (fault.Stop (further start (length rest)))
by_cuts more (line ∷ lines) rest = and_then (cut_line start line) (λ cuts. more cuts (next start line) lines rest)

unfoldable pub with_cuts : {Y : Type 0} → (List ℕ → Place → List (List ℕ) → List ℕ → Result Y Fault) → List ℕ → Result Y Fault
with_cuts more text = by_cuts more (split text).whole (split text).rest

-- the text of cuts and of what stands behind them
abbrev pub text_with_cuts : {Y : Type 0} → (List ℕ → Y → List ℕ) → List ℕ → Y → List ℕ
text_with_cuts behind cuts y = cut_line_text cuts ++ (10 ∷ behind cuts y)
