use Rattle.std.proofs.Common.{◌≡◌, ◌++◌, take, drop}
use Rattle.written.specs.Hex.{hexes}
use Rattle.written.proofs.hex.write_word.Given as goal

abbrev pub invariant-loop-i : goal.invariant-loop-i
invariant-loop-i l = l.text ≡ take l.i (hexes 16 l.word) ++ drop l.i l.initial.text
