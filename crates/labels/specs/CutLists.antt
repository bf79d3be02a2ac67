-- What a cut list of the code holds.
use Rattle.std.specs.Prelude.{ℕ, ◌+◌, ◌%◌, ◌^◌, List, length, take}
use Rattle.labels.specs.declared.cuts.Cuts.{Cuts}

abbrev pub cuts_of : Cuts → List ℕ
cuts_of c = take c.len c.list

-- how many segments the cuts make
abbrev pub segment_count : Cuts → ℕ
segment_count c = length (cuts_of c) + 1

-- a predicate's bits that mean something: those of the segments
abbrev pub real_bits : Cuts → ℕ → ℕ
real_bits c p = p % 2 ^ segment_count c
