use Rattle.std.proofs.Common.{◌≡◌, take, drop, is_some}
use Rattle.histories.specs.Present.{ticket_after}
use Rattle.rulebook.specs.View.{view}
use Rattle.histories.specs.Held.{Held, SameLoans, Plays}
use Rattle.histories.proofs.scene.Scene.carry_out.Given as goal

abbrev pub invariant-loop-i : goal.invariant-loop-i
invariant-loop-i g l =
    let L = g.L.LabelAlgebra in
    Held (view l.self.book.now) l.own
    × SameLoans l.initial.self l.self
    × (drop l.i l.answers ≡ drop l.i l.initial.answers)
    × (is_some l.own ≡ ticket_after (L.satisfiable l.labels) (view l.initial.self.book.now) (is_some l.fn.held) (take l.i l.calls))
    × Plays (L.holds l.labels) (L.satisfiable l.labels) l.initial.self (take l.i l.calls) (take l.i l.answers) l.self
