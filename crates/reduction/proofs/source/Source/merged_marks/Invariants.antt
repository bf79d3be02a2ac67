use Rattle.std.proofs.Common.{◌≡◌, length}
use Rattle.automata.specs.Automata.{mark_is_start, mark_accepts}
use Rattle.reduction.proofs.Naming.{MergedBy}
use Rattle.reduction.proofs.source.Source.merged_marks.Given as goal

abbrev pub invariant-loop-name : goal.invariant-loop-name
invariant-loop-name g l =
    MergedBy mark_is_start l.names l.self.marks.now (length l.yielded) l.merged
    × MergedBy mark_accepts l.names l.self.marks.now (length l.yielded) l.merged
    × (length l.merged ≡ 256)
