use Rattle.std.proofs.Common.{arith}
use Rattle.engine.specs.Columns.{machine, size}
use Rattle.engine.proofs.Waking.{quiet_still, quiet_woken, work_still, work_fell}
use Rattle.engine.proofs.settling.Indexed+L+L+Predicate.visit.Goals as goal

pub returns-then-column-ne0-clause-quiet : goal.returns-then-column-ne0-clause-quiet
returns-then-column-ne0-clause-quiet g c =
    let b = c.args.self.now in
    let e = c.column.ensures in
    let w = c.wake.ensures in
    quiet_woken (g.L.LabelAlgebra.holds b.labels.now) b.marks.now b.arrows.now c.args.rows.now.words c.column.new.rows.words c.args.q c.args.flags.now.words c.set.new.self.words c.wake.new.flags.words
    c.requires.quiet e.swept.fewer e.only e.answered c.set.ensures w.woken w.stays

pub returns-then-column-ne0-clause-less : goal.returns-then-column-ne0-clause-less
returns-then-column-ne0-clause-less g c =
    work_fell c.args.rows.now.words c.column.new.rows.words (size c.args.self.now) c.column.result c.args.flags.now.words c.wake.new.flags.words c.column.ensures.swept.count c.if-column-ne0.true

pub returns-else-column-ne0-clause-quiet : goal.returns-else-column-ne0-clause-quiet
returns-else-column-ne0-clause-quiet g c =
    let e = c.column.ensures in
    quiet_still (machine g.L.LabelAlgebra.holds c.args.self.now) c.args.rows.now.words c.column.new.rows.words c.args.q c.args.flags.now.words c.set.new.self.words c.requires.quiet c.set.ensures
    (e.swept.still c.if-column-ne0.false) e.answered

pub returns-else-column-ne0-clause-less : goal.returns-else-column-ne0-clause-less
returns-else-column-ne0-clause-less g c =
    let b = c.args.self.now in
    work_still c.args.rows.now.words c.column.new.rows.words (size b) c.args.flags.now.words c.set.new.self.words c.args.q (c.column.ensures.swept.still c.if-column-ne0.false) (omega (arith, c.requires.state, b.few)) c.requires.flag c.set.ensures
