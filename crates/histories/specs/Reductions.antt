-- Whether a list of calls with a reduction behind it was declined. Assumes nothing.
use Rattle.std.specs.Prelude.{Option, Result}
use Rattle.std.specs.Result.{result_map_both}
use Rattle.rulebook.specs.declared.book.Ticket.{Ticket}
use Rattle.rulebook.specs.declared.parts.Refusal.{Refusal}
use Rattle.histories.specs.declared.replaying.Reduction.{Reduction}

abbrev pub said_reduction : Result Reduction (Refusal × Option Ticket) → Result (Unit {0}) Refusal
said_reduction r = result_map_both (λ _. tt) (λ e. e.0) r
