use Rattle.std.proofs.Common.{◌≡◌, ◌≤◌}
use Rattle.ranges.specs.Counts.{counted}
use Rattle.ranges.specs.Meaning.{holds_point}
use Rattle.ranges.proofs.count_points.Given as goal

abbrev pub invariant-loop-range : goal.invariant-loop-range
invariant-loop-range l = record {
  can : (goal.iterator-loop-range).can_next l.range-iterator;
  ends : (goal.iterator-loop-range).is_finite l.range-iterator;
  algebra : l.range-iterator.of.now ≡ l.a;
  predicate : l.range-iterator.p ≡ l.p;
  within : l.range-iterator.from ≤ 1114112;
  counts : l.total ≡ counted (holds_point l.a l.p) l.range-iterator.from;
}
