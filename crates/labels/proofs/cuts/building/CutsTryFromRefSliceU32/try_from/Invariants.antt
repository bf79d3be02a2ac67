use Rattle.std.proofs.Common.{◌≡◌, take}
use Rattle.labels.specs.CutLists.{cuts_of}
use Rattle.labels.proofs.cuts.building.CutsTryFromRefSliceU32.try_from.Given as goal

abbrev pub invariant-loop-cut : goal.invariant-loop-cut
invariant-loop-cut l = cuts_of l.made ≡ take l.cut-index l.cuts
