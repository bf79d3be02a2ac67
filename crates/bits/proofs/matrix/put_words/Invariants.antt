use Rattle.std.proofs.Common.{◌≡◌, ℕ, ◌+◌, ◌<◌, ◌≤◌, ◌⊎◌, get_or}
use Rattle.bits.proofs.matrix.put_words.Given as goal

abbrev pub invariant-loop-i : goal.invariant-loop-i
invariant-loop-i l = ((k : ℕ) → k < l.i → get_or l.rows (l.at + k) 0 ≡ get_or l.words k 0) × ((k : ℕ) → (k < l.at) ⊎ (l.at + l.i ≤ k) → get_or l.rows k 0 ≡ get_or l.initial.rows k 0)
