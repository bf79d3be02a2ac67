-- Why a program gives no answer, and what it ends with.
use Rattle.std.specs.Prelude.{◌≡◌, Ok, Err, Result}
use Rattle.std.specs.declared.io.Error.{Error}
use Rattle.lines.specs.declared.Refusal.{Refusal}
use Rattle.lines.specs.declared.Refusal.TheVariants as refusal
use Rattle.input.specs.declared.Failure.{Failure}
use Rattle.input.specs.declared.Failure.TheVariants as failure

-- a text is refused by its fault, and want of memory is an error of the program
abbrev pub Fails : Refusal → Failure → Type 0
Fails (refusal.Fault f) why = why ≡ failure.Refused f
Fails refusal.Memory (failure.Refused f) = ⊥
Fails refusal.Memory (failure.Io e) = Unit {0}

-- an answer is no error, and an error stays one; where a text is refused, what counts is whether that could be printed
abbrev pub Reports : Result (Unit {0}) Failure → Result (Unit {0}) Error → Type 0
Reports (Ok x) ended = ended ≡ Ok tt
Reports (Err (failure.Refused f)) ended = Unit {0}
Reports (Err (failure.Io e)) ended = ended ≡ Err e
