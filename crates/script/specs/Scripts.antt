-- What a whole text says, or its first fault.
use Rattle.std.specs.Prelude.{◌≡◌, ℕ, ◌+◌, List, [], ◌++◌, length, Some, None, Ok, Option, Result, ◌≢◌}
use Rattle.std.specs.List.{AllByRecursion}
use Rattle.labels.specs.Segments.{Rising}
use Rattle.labels.specs.declared.sum.Both.{Both}
use Rattle.lines.specs.Texts.{over, lines_say}
use Rattle.lines.specs.declared.Fault.{Fault}
use Rattle.lines.specs.declared.Place.{Place}
use Rattle.header.specs.Behind.{with_cuts, text_with_cuts}
use Rattle.histories.specs.declared.calls.Call.{Call}
use Rattle.histories.specs.declared.calls.Call.TheVariants as call
use Rattle.label_list.specs.Lists.{styled_reads, styled_text}
use Rattle.script.specs.Lines.{Line, Symbol, Fits, lines_text, line_call, line_symbols, calls_of, symbols_of}
use Rattle.script.specs.Reads.{line_says}

-- the calls, and the symbols of all words, one after another
pub record Told (P : Type 0) : Type 0 where
  pub calls : List (Call P)
  pub symbols : List Symbol

-- with lines more
abbrev pub told : {P : Type 0} → List (Call P) → List Symbol → List (Line P) → Told P
told calls symbols lines = record { calls = calls ++ calls_of (length symbols) lines; symbols = symbols ++ symbols_of lines }

pub record Scripted : Type 0 where
  pub cuts : List ℕ
  pub told : Told (Both ℕ ℕ)

-- what a text says, or its first fault
abbrev pub behind_cuts : List ℕ → Place → List (List ℕ) → List ℕ → Result Scripted Fault
behind_cuts cuts at lines rest = over (λ xs. record { cuts = cuts; told = told [] [] xs }) (lines_say (line_says (styled_reads cuts)) at lines rest)

abbrev pub script_says : List ℕ → Result Scripted Fault
script_says text = with_cuts behind_cuts text

-- the symbols of a word are added behind those before it, and the call names their part
pub record WordRead {P : Type 0} (says : Result (List Symbol) Fault) (before : List Symbol) (made : Call P) (after : List Symbol) : Type 0 where
  pub word : List Symbol
  pub is : says ≡ Ok word
  pub call : made ≡ call.TestWord (length before) (length before + length word)
  pub grown : after ≡ before ++ word

-- the call of a line, and the symbols that it adds
abbrev pub said_call : {P : Type 0} → ℕ → Option (Line P) → Option (Call P)
said_call n None = None
said_call n (Some x) = Some (line_call n x)

abbrev pub said_symbols : {P : Type 0} → Option (Line P) → List Symbol
said_symbols None = []
said_symbols (Some x) = line_symbols x

pub record LineRead {P : Type 0} (says : Result (Option (Line P)) Fault) (before : List Symbol) (made : Option (Call P)) (after : List Symbol) : Type 0 where
  pub said : Option (Line P)
  pub is : says ≡ Ok said
  pub call : made ≡ said_call (length before) said
  pub grown : after ≡ before ++ said_symbols said

-- bytes that are the text of lines, and the calls and symbols of these
pub record Tells {P : Type 0} (text : P → List ℕ) (bytes : List ℕ) (t : Told P) : Type 0 where
  pub lines : List (Line P)
  pub fits : AllByRecursion Fits lines
  pub is : bytes ≡ lines_text text lines
  pub calls : t.calls ≡ calls_of 0 lines
  pub symbols : t.symbols ≡ symbols_of lines

-- bytes that are the text of no lines
abbrev pub NoLines : {P : Type 0} → (P → List ℕ) → List ℕ → Type 0
NoLines {P = P} text bytes = (lines : List (Line P)) → AllByRecursion Fits lines → bytes ≢ lines_text text lines

-- the text of a script
abbrev pub script_text : List ℕ → List (Line (Both ℕ ℕ)) → List ℕ
script_text cuts lines = text_with_cuts (λ cs xs. lines_text (styled_text cs) xs) cuts lines

-- a text of a script, and its calls and symbols
pub record IsScript (text cuts : List ℕ) (t : Told (Both ℕ ℕ)) : Type 0 where
  pub lines : List (Line (Both ℕ ℕ))
  pub fits : AllByRecursion Fits lines
  pub is : text ≡ script_text cuts lines
  pub calls : t.calls ≡ calls_of 0 lines
  pub symbols : t.symbols ≡ symbols_of lines

-- a text that no script has
abbrev pub NoScript : List ℕ → Type 0
NoScript text = (cuts : List ℕ) (lines : List (Line (Both ℕ ℕ))) → Rising cuts → AllByRecursion Fits lines → text ≢ script_text cuts lines
