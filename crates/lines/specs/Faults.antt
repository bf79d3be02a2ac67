-- The number and the place of each fault, and their text.
use Rattle.std.specs.Prelude.{ℕ, List, ◌∷◌, ◌++◌, decimal, Some, None, Ok, Err, Option, Result, alloc_error}
use Rattle.std.specs.declared.alloc.AllocError.{AllocError}
use Rattle.lines.specs.declared.Refusal.{Refusal}
use Rattle.lines.specs.declared.Refusal.TheVariants as refusal
use Rattle.lines.specs.declared.Place.{Place}
use Rattle.lines.specs.declared.Fault.{Fault}
use Rattle.lines.specs.declared.Fault.TheVariants.{Word, Count, Number, Label, Stop}

abbrev pub fault_number : Fault → ℕ
fault_number (Word p) = 10
fault_number (Count p) = 11
fault_number (Number p) = 12
fault_number (Label p) = 13
fault_number (Stop p) = 14

abbrev pub fault_place : Fault → Place
fault_place (Word p) = p
fault_place (Count p) = p
fault_place (Number p) = p
fault_place (Label p) = p
fault_place (Stop p) = p

-- the text of a place, and of a fault: its number, line and offset
abbrev pub place_text : Place → List ℕ
place_text p = decimal p.line ++ (44 ∷ decimal p.offset)

abbrev pub fault_text : Fault → List ℕ
fault_text f = decimal (fault_number f) ++ (44 ∷ place_text (fault_place f))

-- the numbers of the fault of a text that was read, or none where it was accepted; want of memory is an error
abbrev pub fault_numbers : {T : Type 0} → Result T Refusal → Result (Option (ℕ × ℕ × ℕ)) AllocError
fault_numbers (Ok x) = Ok None
fault_numbers (Err (refusal.Fault f)) = Ok (Some (fault_number f, (fault_place f).line, (fault_place f).offset))
fault_numbers (Err refusal.Memory) = Err alloc_error
