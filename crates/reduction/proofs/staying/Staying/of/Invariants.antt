use Rattle.std.proofs.Common.{◌≡◌, ◌≤◌, false, length, get_or, take}
use Rattle.automata.specs.Below.{rising}
use Rattle.reduction.proofs.staying.Staying.of.Given as goal

abbrev pub invariant-loop-c : goal.invariant-loop-c
invariant-loop-c l = (take l.len l.classes ≡ rising (λ c. get_or l.stays c false) l.c) × (l.len ≤ l.c) × (length l.classes ≡ 256)
