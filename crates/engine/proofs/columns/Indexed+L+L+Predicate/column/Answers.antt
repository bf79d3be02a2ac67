use Rattle.std.proofs.Common.{arith}
use Rattle.bits.specs.Matrix.{pair}
use Rattle.engine.specs.Columns.{size}
use Rattle.engine.proofs.Sums.{pairs_most}
use Rattle.engine.proofs.Striking.{columned_more, columned_all}
use Rattle.engine.proofs.columns.Indexed+L+L+Predicate.column.Goals as goal

pub overflow_add-struck : goal.overflow_add-struck
overflow_add-struck g c = omega (arith, pairs_most (pair c.args.rows.now.words) (size c.args.self.now) c.args.self.now.few, c.loop-t.invariant.0.0.count, c.strike-struck.ensures.swept.count)

pub loop-t-preserved : goal.loop-t-preserved
loop-t-preserved g c =
    let b = c.args.self.now in
    let e = c.strike-struck.ensures in
    (columned_more (g.L.LabelAlgebra.holds b.labels.now) b.marks.now b.arrows.now c.args.q c.args.rows.now.words c.loop-t.rows.words c.strike-struck.new.rows.words c.loop-t.struck c.strike-struck.result c.loop-t.t c.loop-t.invariant.0 e.swept e.only e.met, e.gathered)

pub returns-clause-answered : goal.returns-clause-answered
returns-clause-answered g c =
    let b = c.args.self.now in
    columned_all (g.L.LabelAlgebra.holds b.labels.now) b.marks.now b.arrows.now c.args.q c.args.rows.now.words c.loop-t.rows.words c.loop-t.struck c.loop-t.t (omega arith) c.loop-t.invariant.0
