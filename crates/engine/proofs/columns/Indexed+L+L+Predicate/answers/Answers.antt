use Rattle.std.proofs.Common.{sym, ap, ◌∙◌, arith}
use Rattle.bits.specs.Matrix.{pair}
use Rattle.engine.proofs.Joining.{joining_more, joining_past, joining_all}
use Rattle.engine.proofs.columns.Indexed+L+L+Predicate.answers.Goals as goal
use Rattle.engine.proofs.columns.Indexed+L+L+Predicate.answers.Goals.{then-keeps, else-keeps}

pub loop-entry-preserved : goal.loop-entry-preserved
loop-entry-preserved g c =
    let b = c.args.self.now in
    let h = g.L.LabelAlgebra.holds b.labels.now in
    let K = pair c.args.rows.now.words in
    let q = c.args.q in
    let t = c.args.t in
    let es = c.entries-entry-items.result.now in
    let s = c.entries-entry-items.ensures.listed in
    let i = c.loop-entry.entry-index in
    elim c.if-keeps.branch [
      | then-keeps w ↦ rw w.all-is
          (joining_more h b.marks.now b.arrows.now K q t es s c.loop-entry.all i c.loop-entry-test.true b.within
          w.join-all.result w.from-place.result w.index-arrows-place.result w.from-place.ensures (ap (K t) (sym c.from.ensures) ∙ sym c.keeps.ensures ∙ w.if-keeps.true) w.join-all.ensures c.loop-entry.invariant)
      | else-keeps w ↦ rw w.all-is
          (joining_past h b.marks.now b.arrows.now K q t es s c.loop-entry.all i c.loop-entry-test.true (ap (K t) (sym c.from.ensures) ∙ sym c.keeps.ensures ∙ w.if-keeps.false) c.loop-entry.invariant)
    ]

pub returns : goal.returns
returns g c =
    let b = c.args.self.now in
    joining_all (g.L.LabelAlgebra.holds b.labels.now) b.marks.now b.arrows.now (pair c.args.rows.now.words) c.args.q c.args.t c.entries-entry-items.result.now c.entries-entry-items.ensures.listed
    c.loop-entry.all c.loop-entry.entry-index (omega arith) c.loop-entry.invariant
