use Rattle.std.proofs.Common.{◌≡◌, ◌*◌, ◌≤◌, length}
use Rattle.automata.specs.Below.{rows}
use Rattle.bits.specs.Matrix.{pair}
use Rattle.reduction.specs.Drawn.{linked_at}
use Rattle.reduction.proofs.reaching.Reached.count_links.Given as goal

abbrev pub invariant-loop-c : goal.invariant-loop-c
invariant-loop-c l =
    let s = l.self.staying in
    (l.found ≡ length (rows (linked_at (pair l.self.links.words) s) (length s) l.c-index)) × (l.found ≤ 256 * l.c-index)
