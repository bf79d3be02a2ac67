-- At which numbers a label on code points holds, as its algebra's member `holds` says.
use Rattle.std.specs.Prelude.{ℕ, Bool}
use Rattle.labels.specs.CutLists.{cuts_of}
use Rattle.labels.specs.Segments.{point_holds}
use Rattle.labels.specs.declared.code_points.CodePoints.{CodePoints}

abbrev pub holds_point : CodePoints → ℕ → ℕ → Bool
holds_point a p c = point_holds (cuts_of a.cuts) p c
