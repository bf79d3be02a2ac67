use Rattle.rulebook.specs.Model.{Edited}
use Rattle.rulebook.specs.View.{view}
use Rattle.rulebook_uses.proofs.calls.add_states.Given as goal

abbrev pub invariant-loop : goal.invariant-loop
invariant-loop l = Edited (view l.initial.book) (view l.book)
