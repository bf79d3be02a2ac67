use Rattle.std.proofs.Common.{arith}
use Rattle.labels.specs.CutLists.{cuts_of}
use Rattle.labels.specs.CutListsLemmas.{cuts_rising, segment_lt}
use Rattle.ranges.proofs.Points.{no_points, points_order, run_points}
use Rattle.ranges.proofs.next_points.Goals as goal

pub overflow_cast-segment : goal.overflow_cast-segment
overflow_cast-segment c = let l = segment_lt c.args.a.now.cuts c.args.from in omega (arith, c.segment.ensures)

pub returns-in_err-segments : goal.returns-in_err-segments
returns-in_err-segments c = rw c.from_residual.ensures
    (no_points (cuts_of c.args.a.now.cuts) (cuts_rising c.args.a.now.cuts) c.args.p _ c.real_bits.ensures.bits
    c.args.from _ c.segment.ensures c.in_err-segments.ensures)

pub overflow_sub-result : goal.overflow_sub-result
overflow_sub-result c = omega (
  arith,
  points_order (cuts_of c.args.a.now.cuts) (cuts_rising c.args.a.now.cuts) c.args.p _ c.real_bits.ensures.bits
      c.args.from _ c.segment.ensures _ _ _ _ _ c.in_ok-segments.ensures c.start-first.ensures c.start-end.ensures (omega arith) c.max.ensures,
)

pub returns : goal.returns
returns c =
    run_points (cuts_of c.args.a.now.cuts) (cuts_rising c.args.a.now.cuts) c.args.p _ c.real_bits.ensures.bits
    c.args.from _ c.segment.ensures _ _ _ _ _ c.in_ok-segments.ensures c.start-first.ensures c.start-end.ensures (omega arith) c.max.ensures
