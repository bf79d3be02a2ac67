-- What a line of a script says, by its fields, or its first fault.
use Rattle.std.specs.Prelude.{ℕ, ◌+◌, Bool, true, false, cond, ◌&&◌, List, [], ◌∷◌, length, Some, None, Ok, Err, codes, Option, Result, ◌==◌, nat_le, slice_index_or, drop}
use Rattle.std.specs.Option.{option_map, ok_or}
use Rattle.std.specs.Str.{bytes_eq}
use Rattle.automata.specs.declared.Mark.{Mark}
use Rattle.automata.specs.declared.Mark.TheVariants as mark
use Rattle.labels.specs.declared.sum.Either.TheVariants.{Left, Right}
use Rattle.lines.specs.Numbers.{number_in}
use Rattle.lines.specs.Places.{further, place_of}
use Rattle.lines.specs.Texts.{and_then, over}
use Rattle.lines.specs.declared.Fault.{Fault}
use Rattle.lines.specs.declared.Fault.TheVariants as fault
use Rattle.lines.specs.declared.Place.{Place}
use Rattle.written.specs.declared.Reading.{Reading}
use Rattle.label_list.specs.Lists.{label_at}
use Rattle.script.specs.declared.verbs.Verb.{Verb}
use Rattle.script.specs.declared.verbs.Verb.TheVariants as verb
use Rattle.script.specs.declared.verbs.Kind.{Kind}
use Rattle.script.specs.declared.verbs.Kind.TheVariants as kind
use Rattle.script.specs.Lines.{Stated, Line, Symbol, opens, adds, marks, links, strikes, settles, asks, copies, reduces, calls, tests}

-- the field behind k commas, as a number, a ticket that may be left out, a mark
abbrev pub number_at : ℕ → Place → List (List ℕ) → ℕ → Result ℕ Fault
number_at most at fs k = ok_or (number_in most (slice_index_or fs k [])) (fault.Number (place_of at fs k))

abbrev pub ticket_said_at : Place → List (List ℕ) → ℕ → Result (Option ℕ) Fault
ticket_said_at at fs k = cond (nat_le (length fs) k) (Ok None) (over Some (number_at 4294967295 at fs k))

abbrev pub mark_in : List ℕ → Option Mark
mark_in field =
    cond (bytes_eq field (codes "n")) (Some mark.Neither)
    (cond (bytes_eq field (codes "i")) (Some mark.Initial)
    (cond (bytes_eq field (codes "a")) (Some mark.Accepting) (cond (bytes_eq field (codes "b")) (Some mark.Both) None)))

abbrev pub mark_at_place : Place → List (List ℕ) → ℕ → Result Mark Fault
mark_at_place at fs k = ok_or (mark_in (slice_index_or fs k [])) (fault.Number (place_of at fs k))

-- a symbol: `m` or `c`, and a number
abbrev pub symbol_of_letter : ℕ → List ℕ → Option Symbol
symbol_of_letter c digits = cond (c == 109) (option_map Left (number_in 255 digits)) (cond (c == 99) (option_map Right (number_in 4294967295 digits)) None)

unfoldable pub symbol_in : List ℕ → Option Symbol
symbol_in [] = None
symbol_in (c ∷ digits) = symbol_of_letter c digits

-- the symbols of a word, from a place on
unfoldable pub symbols_say : Place → List (List ℕ) → Result (List Symbol) Fault
symbols_say at [] = Ok []
symbols_say at (f ∷ fs) = and_then (ok_or (symbol_in f) (fault.Number at)) (λ s. over (λ ss. s ∷ ss) (symbols_say (further at (length f + 1)) fs))

-- by the first field
abbrev pub kind_of_word : List ℕ → Option Kind
kind_of_word word =
    cond (bytes_eq word (codes "open")) (Some (kind.Call verb.Open))
    (cond (bytes_eq word (codes "state")) (Some (kind.Call verb.State))
    (cond (bytes_eq word (codes "mark")) (Some (kind.Call verb.Mark))
    (cond (bytes_eq word (codes "arrow")) (Some (kind.Call verb.Arrow))
    (cond (bytes_eq word (codes "strike")) (Some (kind.Call verb.Strike))
    (cond (bytes_eq word (codes "settle")) (Some (kind.Call verb.Settle))
    (cond (bytes_eq word (codes "ask")) (Some (kind.Call verb.Ask))
    (cond (bytes_eq word (codes "rows")) (Some (kind.Call verb.Rows))
    (cond (bytes_eq word (codes "word")) (Some kind.Word)
    (cond (bytes_eq word (codes "reduce")) (Some (kind.Call verb.Reduce))
    (cond (bytes_eq word (codes "end")) (Some kind.End) None))))))))))

-- the least count of fields, and whether a ticket may follow
abbrev pub least : Verb → ℕ
least verb.Open = 1
least verb.State = 2
least verb.Mark = 3
least verb.Arrow = 4
least verb.Strike = 2
least verb.Settle = 1
least verb.Ask = 3
least verb.Rows = 1
least verb.Reduce = 1

abbrev pub edits : Verb → Bool
edits verb.Open = false
edits verb.State = true
edits verb.Mark = true
edits verb.Arrow = true
edits verb.Strike = true
edits verb.Settle = true
edits verb.Ask = false
edits verb.Rows = false
edits verb.Reduce = false

abbrev pub takes : Kind → ℕ → Bool
takes (kind.Call v) n = nat_le (least v) n && nat_le n (least v + cond (edits v) 1 0)
takes kind.Word n = true
takes kind.End n = n == 1

-- the fields behind the first, left to right
abbrev pub state_says : {P : Type 0} → Place → List (List ℕ) → Result (Stated P) Fault
state_says at fs = and_then (mark_at_place at fs 1) (λ m. over (adds m) (ticket_said_at at fs 2))

abbrev pub mark_says : {P : Type 0} → Place → List (List ℕ) → Result (Stated P) Fault
mark_says at fs = and_then (number_at 65535 at fs 1) (λ s. and_then (mark_at_place at fs 2) (λ m. over (marks s m) (ticket_said_at at fs 3)))

abbrev pub arrow_says : {P : Type 0} → (List ℕ → Option (Reading P)) → Place → List (List ℕ) → Result (Stated P) Fault
arrow_says reads at fs =
    and_then (number_at 65535 at fs 1) (λ p. and_then (number_at 65535 at fs 2) (λ q. and_then (label_at reads at fs 3) (λ l. over (links p q l) (ticket_said_at at fs 4))))

abbrev pub strike_says : {P : Type 0} → Place → List (List ℕ) → Result (Stated P) Fault
strike_says at fs = and_then (number_at 65535 at fs 1) (λ k. over (strikes k) (ticket_said_at at fs 2))

abbrev pub settle_says : {P : Type 0} → Place → List (List ℕ) → Result (Stated P) Fault
settle_says at fs = over settles (ticket_said_at at fs 1)

abbrev pub ask_says : {P : Type 0} → Place → List (List ℕ) → Result (Stated P) Fault
ask_says at fs = and_then (number_at 65535 at fs 1) (λ p. over (asks p) (number_at 65535 at fs 2))

abbrev pub verb_says : {P : Type 0} → (List ℕ → Option (Reading P)) → Place → List (List ℕ) → Verb → Result (Stated P) Fault
verb_says reads at fs verb.Open = Ok opens
verb_says reads at fs verb.State = state_says at fs
verb_says reads at fs verb.Mark = mark_says at fs
verb_says reads at fs verb.Arrow = arrow_says reads at fs
verb_says reads at fs verb.Strike = strike_says at fs
verb_says reads at fs verb.Settle = settle_says at fs
verb_says reads at fs verb.Ask = ask_says at fs
verb_says reads at fs verb.Rows = Ok copies
verb_says reads at fs verb.Reduce = Ok reduces

-- a line, or nothing at the end
abbrev pub kind_says : {P : Type 0} → (List ℕ → Option (Reading P)) → Place → List (List ℕ) → Kind → Result (Option (Line P)) Fault
kind_says reads at fs (kind.Call v) = over (λ c. Some (calls c)) (verb_says reads at fs v)
kind_says reads at fs kind.Word = over (λ w. Some (tests w)) (symbols_say (further at 5) (drop 1 fs))
kind_says reads at fs kind.End = Ok None

-- the first field, then the count of fields, then the fields
abbrev pub by_kind : {P : Type 0} → (List ℕ → Option (Reading P)) → Place → List (List ℕ) → Option Kind → Result (Option (Line P)) Fault
by_kind reads at fs None = Err (fault.Word at)
by_kind reads at fs (Some k) = cond (takes k (length fs)) (kind_says reads at fs k) (Err (fault.Count at))

unfoldable pub line_says : {P : Type 0} → (List ℕ → Option (Reading P)) → Place → List (List ℕ) → Result (Option (Line P)) Fault
line_says reads at fs = by_kind reads at fs (kind_of_word (slice_index_or fs 0 []))
