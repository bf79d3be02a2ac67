-- What the lines of a script say, and their texts.
use Rattle.std.specs.Prelude.{ℕ, ◌+◌, ◌≤◌, List, [], ◌∷◌, ◌++◌, map, length, Some, None, codes, decimal, Option}
use Rattle.std.specs.Option.{unwrap_or}
use Rattle.std.specs.List.{flat_map, AllByRecursion}
use Rattle.automata.specs.declared.Mark.{Mark}
use Rattle.automata.specs.declared.Mark.TheVariants as mark
use Rattle.labels.specs.declared.sum.Either.{Either}
use Rattle.labels.specs.declared.sum.Either.TheVariants.{Left, Right}
use Rattle.lines.specs.Texts as lines
use Rattle.histories.specs.declared.calls.Call.{Call}
use Rattle.histories.specs.declared.calls.Call.TheVariants as call

-- a call as its line states it: a ticket that is left out is the book's own
pub data Stated (P : Type 0) : Type 0 where
  opens : Stated P
  adds : Mark → Option ℕ → Stated P
  marks : ℕ → Mark → Option ℕ → Stated P
  links : ℕ → ℕ → P → Option ℕ → Stated P
  strikes : ℕ → Option ℕ → Stated P
  settles : Option ℕ → Stated P
  asks : ℕ → ℕ → Stated P
  copies : Stated P
  reduces : Stated P

-- a style mark or a code point, or a number that is neither
abbrev pub Symbol : Type 0
Symbol = Either ℕ ℕ

-- a line behind the cuts: a call, or a word to be tested
pub data Line (P : Type 0) : Type 0 where
  calls : Stated P → Line P
  tests : List Symbol → Line P

-- numbers that the format can write
abbrev pub FitsTicket : Option ℕ → Type 0
FitsTicket None = Unit {0}
FitsTicket (Some n) = n ≤ 4294967295

abbrev pub FitsCall : {P : Type 0} → Stated P → Type 0
FitsCall opens = Unit {0}
FitsCall (adds m t) = FitsTicket t
FitsCall (marks s m t) = (s ≤ 65535) × FitsTicket t
FitsCall (links p q l t) = (p ≤ 65535) × (q ≤ 65535) × FitsTicket t
FitsCall (strikes k t) = (k ≤ 65535) × FitsTicket t
FitsCall (settles t) = FitsTicket t
FitsCall (asks p q) = (p ≤ 65535) × (q ≤ 65535)
FitsCall copies = Unit {0}
FitsCall reduces = Unit {0}

abbrev pub FitsSymbol : Symbol → Type 0
FitsSymbol (Left n) = n ≤ 255
FitsSymbol (Right n) = n ≤ 4294967295

abbrev pub Fits : {P : Type 0} → Line P → Type 0
Fits (calls c) = FitsCall c
Fits (tests w) = AllByRecursion FitsSymbol w

-- the fields of a line
abbrev pub mark_text : Mark → List ℕ
mark_text mark.Neither = codes "n"
mark_text mark.Initial = codes "i"
mark_text mark.Accepting = codes "a"
mark_text mark.Both = codes "b"

abbrev pub ticket_fields : Option ℕ → List (List ℕ)
ticket_fields None = []
ticket_fields (Some n) = decimal n ∷ []

abbrev pub call_fields : {P : Type 0} → (P → List ℕ) → Stated P → List (List ℕ)
call_fields text opens = codes "open" ∷ []
call_fields text (adds m t) = codes "state" ∷ mark_text m ∷ ticket_fields t
call_fields text (marks s m t) = codes "mark" ∷ decimal s ∷ mark_text m ∷ ticket_fields t
call_fields text (links p q l t) = codes "arrow" ∷ decimal p ∷ decimal q ∷ text l ∷ ticket_fields t
call_fields text (strikes k t) = codes "strike" ∷ decimal k ∷ ticket_fields t
call_fields text (settles t) = codes "settle" ∷ ticket_fields t
call_fields text (asks p q) = codes "ask" ∷ decimal p ∷ decimal q ∷ []
call_fields text copies = codes "rows" ∷ []
call_fields text reduces = codes "reduce" ∷ []

abbrev pub symbol_text : Symbol → List ℕ
symbol_text (Left n) = codes "m" ++ decimal n
symbol_text (Right n) = codes "c" ++ decimal n

abbrev pub line_fields : {P : Type 0} → (P → List ℕ) → Line P → List (List ℕ)
line_fields text (calls c) = call_fields text c
line_fields text (tests w) = codes "word" ∷ map symbol_text w

-- a line is its fields, parted by commas, and the byte 10 that ends it
abbrev pub by_commas : List (List ℕ) → List ℕ
by_commas [] = []
by_commas (f ∷ fs) = f ++ flat_map (λ g. 44 ∷ g) fs

abbrev pub line_text : {P : Type 0} → (P → List ℕ) → Line P → List ℕ
line_text text x = by_commas (line_fields text x)

-- a line each, and the end
abbrev pub lines_text : {P : Type 0} → (P → List ℕ) → List (Line P) → List ℕ
lines_text text xs = lines.lines_text (line_text text) xs

-- the call that is stated
abbrev pub own : Option ℕ → ℕ
own t = unwrap_or t 1

abbrev pub call_of : {P : Type 0} → Stated P → Call P
call_of opens = call.Open
call_of (adds m t) = call.AddState (own t) m
call_of (marks s m t) = call.ReMark (own t) s m
call_of (links p q l t) = call.AddArrow (own t) p l q
call_of (strikes k t) = call.Strike (own t) k
call_of (settles t) = call.Settle (own t)
call_of (asks p q) = call.Ask p q
call_of copies = call.CopyRows 0 1024
call_of reduces = call.Reduce

-- the calls of lines behind n symbols, and the symbols of their words
abbrev pub line_call : {P : Type 0} → ℕ → Line P → Call P
line_call n (calls c) = call_of c
line_call n (tests w) = call.TestWord n (n + length w)

abbrev pub line_symbols : {P : Type 0} → Line P → List Symbol
line_symbols (calls c) = []
line_symbols (tests w) = w

unfoldable pub calls_of : {P : Type 0} → ℕ → List (Line P) → List (Call P)
calls_of n [] = []
calls_of n (x ∷ xs) = line_call n x ∷ calls_of (n + length (line_symbols x)) xs

unfoldable pub symbols_of : {P : Type 0} → List (Line P) → List Symbol
symbols_of [] = []
symbols_of (x ∷ xs) = line_symbols x ++ symbols_of xs
