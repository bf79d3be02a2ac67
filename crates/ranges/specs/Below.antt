-- The symbols of which a label holds are below 1,114,112.
use Rattle.std.proofs.Common.{◌≡◌, ℕ, ◌<◌, true, arith}
use Rattle.std.proofs.lemmas.Bool.{and_parts, leb-true}
use Rattle.bits.specs.Bit.{bit}
use Rattle.bits.proofs.Words.{bit_within}
use Rattle.labels.specs.CutLists.{cuts_of}
use Rattle.labels.specs.Segments.{is_point, segment}
use Rattle.labels.specs.declared.code_points.CodePoints.{CodePoints}
use Rattle.ranges.specs.Meaning.{holds_point}

pub mark_below : (p k : ℕ) → bit p k ≡ true → k < 1114112
mark_below p k t = omega (arith, bit_within p k t)

pub point_below : (a : CodePoints) (p k : ℕ) → holds_point a p k ≡ true → k < 1114112
point_below a p k t = omega (arith, leb-true k 1114111 (and_parts (is_point k) (bit p (segment (cuts_of a.cuts) k)) t).0)
