use Rattle.std.proofs.Common.{◌≡◌, map, get_or, take}
use Rattle.automata.specs.declared.Mark.TheVariants.{Neither}
use Rattle.reduction.proofs.classes.Classes.write_marks.Given as goal

abbrev pub invariant-loop-i : goal.invariant-loop-i
invariant-loop-i g l = take l.i l.into ≡ map (λ c. get_or l.self.marks c Neither) (take l.i l.list)
