use Rattle.std.proofs.Common.{◌≡◌, ℕ, ◌<◌, length, get_or}
use Rattle.automata.specs.declared.Mark.TheVariants.{Neither}
use Rattle.automata.specs.Automata.{mark, mark_accepts, mark_is_start}
use Rattle.automata.specs.Reduction.{highest}
use Rattle.reduction.specs.Sorted.{kept_of}
use Rattle.reduction.proofs.source.Source.pruned_marks.Given as goal

abbrev pub invariant-loop-c : goal.invariant-loop-c
invariant-loop-c g l =
    ((c : ℕ) → c < l.c → get_or l.top c Neither ≡ mark (highest (length l.self.marks.now) (kept_of l.self) (λ e. mark_is_start (get_or l.marks e Neither)) c) (mark_accepts (get_or l.marks c Neither)))
    × (length l.top ≡ 256)
