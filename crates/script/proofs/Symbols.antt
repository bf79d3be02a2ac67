-- The symbols of a word, one after the other.
use Rattle.std.proofs.Common.{◌≡◌, ℕ, ◌+◌, List, [], ◌∷◌, ◌++◌, length, Some, None, Ok, Err, Option, Result, sym, refl, ap, ap₂, ◌∙◌}
use Rattle.std.specs.Option.{ok_or}
use Rattle.std.proofs.lemmas.List.{append_assoc}
use Rattle.std.specs.Borrow.{Bor}
use Rattle.lines.specs.Fields.{left_fields}
use Rattle.lines.specs.Places.{Passes, further}
use Rattle.lines.specs.Texts.{and_then, over}
use Rattle.lines.proofs.Results.{none_from_ok_or, some_from_ok_or}
use Rattle.lines.specs.declared.Fault.{Fault}
use Rattle.lines.specs.declared.Fault.TheVariants as fault
use Rattle.lines.specs.declared.Place.{Place}
use Rattle.script.specs.Lines.{Symbol}
use Rattle.script.specs.Reads.{symbol_in, symbols_say}

over_push : (before : List Symbol) (s : Symbol) (r : Result (List Symbol) Fault) → over (λ w. before ++ w) (over (λ w. s ∷ w) r) ≡ over (λ w. (before ++ (s ∷ [])) ++ w) r
over_push before s (Ok w) = ap Ok (sym (append_assoc before (s ∷ []) w))
over_push before s (Err f) = refl

module _ (at : Place) (field : List ℕ) (more : List (List ℕ)) where
  abbrev by_symbol : Option Symbol → Result (List Symbol) Fault
  by_symbol o = and_then (ok_or o (fault.Number at)) (λ s. over (λ w. s ∷ w) (symbols_say (further at (length field + 1)) more))

  symbols_by : (o : Option Symbol) → symbol_in field ≡ o → symbols_say at (field ∷ more) ≡ by_symbol o
  unfolding symbols_say
  symbols_by o e = ap by_symbol e

-- a turn at what is left, of which the first field is taken
module _ (whole : Result (List Symbol) Fault) (before : List Symbol) (at : Place) (left : Option (Bor (List ℕ))) (field : List ℕ) (left' : Option (Bor (List ℕ))) (at' : Place)
    (so : whole ≡ over (λ w. before ++ w) (symbols_say at (left_fields left))) (passes : Passes left at field left' at') where
  turn : (o : Option Symbol) → symbol_in field ≡ o → whole ≡ over (λ w. before ++ w) (by_symbol at field (left_fields left') o)
  turn o e = so ∙ ap (over (λ w. before ++ w)) (ap (symbols_say at) passes.first ∙ symbols_by at field (left_fields left') o e)

  pub turn_fault : (place : Place) (f : Fault) → place ≡ at → Err f ≡ ok_or (symbol_in field) (fault.Number place) → whole ≡ Err f
  turn_fault place f here e = let none = none_from_ok_or _ _ _ (sym e) in turn None none.0 ∙ ap Err (ap fault.Number (sym here) ∙ none.1)

  pub turn_more : (place : Place) (s : Symbol) (next : List Symbol) → Ok s ≡ ok_or (symbol_in field) (fault.Number place) → next ≡ before ++ (s ∷ []) → whole ≡ over (λ w. next ++ w) (symbols_say at' (left_fields left'))
  turn_more place s next e made =
      turn (Some s) (some_from_ok_or _ _ _ (sym e)) ∙ over_push before s (symbols_say (further at (length field + 1)) (left_fields left'))
      ∙ ap₂ (λ b p. over (λ w. b ++ w) (symbols_say p (left_fields left'))) (sym made) (sym passes.place)
