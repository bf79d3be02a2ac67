-- Where the segments of the code points begin.
use Rattle.std.specs.Prelude.{ℕ, cond, List, length, nat_le}
use Rattle.labels.specs.Segments.{first_of_segment}

-- the least number of segment s, and 1,114,112 past the last segment
abbrev pub start_of : List ℕ → ℕ → ℕ
start_of cuts s = cond (nat_le s (length cuts)) (first_of_segment cuts s) 1114112
