use Rattle.std.proofs.Common.{◌≡◌, false, not, length, get_or}
use Rattle.automata.specs.Below.{count}
use Rattle.bits.specs.Matrix.{pair}
use Rattle.reduction.specs.Sorted.{pruned_of}
use Rattle.reduction.proofs.Walking.{Walking}
use Rattle.reduction.proofs.classes.Classes.reach.Given as goal

abbrev pub invariant-loop-c : goal.invariant-loop-c
invariant-loop-c g l =
    Walking (pruned_of l.self.book) (λ c. get_or l.stays c false) (λ c. get_or l.done c false) (pair l.links.words) × (length l.done ≡ 256)

abbrev pub decreases-loop-c : goal.decreases-loop-c
decreases-loop-c g l = count (λ c. not (get_or l.done c false)) (length l.self.book.marks.now)
