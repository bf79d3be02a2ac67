-- What the lines of a text say, by what each of them says.
use Rattle.std.specs.Prelude.{◌≡◌, ℕ, List, [], ◌∷◌, ◌++◌, length, Some, None, Ok, Err, codes, Option, Result}
use Rattle.std.specs.List.{flat_map}
use Rattle.std.specs.Result.{result_map_both}
use Rattle.lines.specs.Fields.{fields, split}
use Rattle.lines.specs.Places.{further, next}
use Rattle.lines.specs.declared.Fault.{Fault}
use Rattle.lines.specs.declared.Fault.TheVariants as fault
use Rattle.lines.specs.declared.Place.{Place}
use Rattle.lines.specs.declared.Refusal.{Refusal}
use Rattle.lines.specs.declared.Refusal.TheVariants as refusal

-- what is read next, if there was no fault, and what is made of it
abbrev pub and_then : {X Y : Type 0} → Result X Fault → (X → Result Y Fault) → Result Y Fault
and_then (Ok x) more = more x
and_then (Err f) more = Err f

abbrev pub over : {X Y : Type 0} → (X → Y) → Result X Fault → Result Y Fault
over made r = result_map_both made (λ f. f) r

-- nothing may stand behind the end
abbrev pub closes : {X : Type 0} → X → Place → List (List ℕ) → List ℕ → Result X Fault
closes x at [] [] = Ok x
closes x at [] (b ∷ bytes) = Err (fault.Stop at)
closes x at (line ∷ lines) rest = Err (fault.Stop at)

-- what the lines from a place on say, each by its place and fields, up to the one that says that it is the last; `rest` stands behind the last byte 10
unfoldable pub lines_say : {X : Type 0} → (Place → List (List ℕ) → Result (Option X) Fault) → Place → List (List ℕ) → List ℕ → Result (List X) Fault
lines_say says at [] rest = Err (fault.Stop (further at (length rest)))
lines_say says at (line ∷ lines) rest = and_then (says at (fields line)) (λ said. elim said [
  | Some x ↦ over (λ xs. x ∷ xs) (lines_say says (next at line) lines rest)
  | None ↦ closes [] (next at line) lines rest
])

-- the same of a text that begins at a place
abbrev pub text_says : {X : Type 0} → (Place → List (List ℕ) → Result (Option X) Fault) → Place → List ℕ → Result (List X) Fault
text_says says at text = lines_say says at (split text).whole (split text).rest

-- a line for each, and the last one, each with the byte 10 that ends it
unfoldable pub lines_text : {X : Type 0} → (X → List ℕ) → List X → List ℕ
lines_text line xs = flat_map (λ x. line x ++ (10 ∷ [])) xs ++ (codes "end" ++ (10 ∷ []))

-- a refusal speaks of its fault; want of memory says nothing
abbrev pub ByFault : (Fault → Type 0) → Refusal → Type 0
ByFault P (refusal.Fault f) = P f
ByFault P refusal.Memory = Unit {0}

-- the fault is the one that is said
abbrev pub Refuses : {A : Type 0} → Result A Fault → Refusal → Type 0
Refuses says = ByFault (λ f. says ≡ Err f)
