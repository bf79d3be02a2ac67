-- The number of each refusal, and what becomes of a book's condition. Assumes nothing.
use Rattle.std.specs.Prelude.{ℕ, Bool, true, false, Ok, Err, Result}
use Rattle.rulebook.specs.declared.parts.Condition.{Condition}
use Rattle.rulebook.specs.declared.parts.Condition.TheVariants.{Settled, Open}
use Rattle.rulebook.specs.declared.parts.Act.{Act}
use Rattle.rulebook.specs.declared.parts.Act.TheVariants.{Opens, Edits, Settles, Reads}
use Rattle.rulebook.specs.declared.parts.Refusal.{Refusal}
use Rattle.rulebook.specs.declared.parts.Refusal.TheVariants.{StatesFull, NoSuchState, TooSmall, EmptyLabel, NoSuchArrow, BookOpen, NotOpen, ForeignTicket, TargetTaken}

abbrev pub refusal_number : Refusal → ℕ
refusal_number StatesFull = 1
refusal_number NoSuchState = 2
refusal_number TooSmall = 3
refusal_number EmptyLabel = 4
refusal_number NoSuchArrow = 5
refusal_number BookOpen = 6
refusal_number NotOpen = 7
refusal_number ForeignTicket = 8
refusal_number TargetTaken = 9

-- the condition that a call leaves, or why it is declined: an open book is not opened or read, a settled one not edited or settled
abbrev pub judged : Condition → Act → Result Condition Refusal
judged Settled Opens = Ok Open
judged Settled Edits = Err NotOpen
judged Settled Settles = Err NotOpen
judged Settled Reads = Ok Settled
judged Open Opens = Err BookOpen
judged Open Edits = Ok Open
judged Open Settles = Ok Settled
judged Open Reads = Err BookOpen

abbrev pub is_settled : Condition → Bool
is_settled Settled = true
is_settled Open = false
