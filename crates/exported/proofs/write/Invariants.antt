use Rattle.std.proofs.Common.{ℕ, ◌<◌, length, get_or}
use Rattle.exported.specs.Foreign.{Past}
use Rattle.exported.proofs.write.Given as goal

abbrev pub invariant-loop-i : goal.invariant-loop-i
invariant-loop-i g l =
    ((k : ℕ) (d : _) (e : _) → k < l.i → goal.F-post g l.make (get_or l.from k d) (get_or l.into k e))
    × Past (length l.from) l.initial.into l.into
