-- One predicate within another at a sum three deep: at each of its four leaves.
use Rattle.std.specs.Prelude.{◌≡◌, ℕ, true}
use Rattle.bits.specs.Bit.{bit}
use Rattle.labels.specs.CutLists.{cuts_of}
use Rattle.labels.specs.Segments.{point_holds}
use Rattle.labels.specs.declared.code_points.CodePoints.{CodePoints}
use Rattle.labels.specs.declared.style_marks.StyleMarks.{StyleMarks}
use Rattle.labels.specs.declared.sum.Both.{Both}
use Rattle.labels.specs.declared.sum.Sum.{Sum}

abbrev pub DeepAlgebra : Type 0
DeepAlgebra = Sum (Sum (Sum StyleMarks CodePoints) StyleMarks) CodePoints

abbrev pub DeepPredicate : Type 0
DeepPredicate = Both (Both (Both ℕ ℕ) ℕ) ℕ

-- every mark of p is one of q, and every code point of p one of q
abbrev pub MarksWithin : ℕ → ℕ → Type 0
MarksWithin p q = (s : ℕ) → bit p s ≡ true → bit q s ≡ true

abbrev pub PointsWithin : CodePoints → ℕ → ℕ → Type 0
PointsWithin a p q = (c : ℕ) → point_holds (cuts_of a.cuts) p c ≡ true → point_holds (cuts_of a.cuts) q c ≡ true

pub record WithinLeaves (a : DeepAlgebra) (p q : DeepPredicate) : Type 0 where
  pub first : MarksWithin p.left.left.left q.left.left.left
  pub second : PointsWithin a.left.left.right p.left.left.right q.left.left.right
  pub third : MarksWithin p.left.right q.left.right
  pub fourth : PointsWithin a.right p.right q.right
