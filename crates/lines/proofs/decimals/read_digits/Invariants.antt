use Rattle.std.proofs.Common.{◌≡◌, ◌≤◌, drop}
use Rattle.lines.proofs.Numbers.{read_on}
use Rattle.lines.proofs.decimals.read_digits.Given as goal

-- what is left, read on from `n`, gives what the whole field gives
abbrev pub invariant-loop-b : goal.invariant-loop-b
invariant-loop-b l = (l.n ≤ l.most) × (read_on l.most l.n (drop l.b-index l.field) ≡ read_on l.most 0 l.field)
