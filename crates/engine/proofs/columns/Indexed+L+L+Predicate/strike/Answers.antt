use Rattle.std.proofs.Common.{sym, ap, ◌∙◌, arith}
use Rattle.std.proofs.lemmas.Bool.{both_ways}
use Rattle.std.proofs.lemmas.Bool.Decides.{not_from_Decides}
use Rattle.bits.specs.Matrix.{pair}
use Rattle.engine.specs.Columns.{size}
use Rattle.engine.proofs.Sums.{pairs_most}
use Rattle.engine.proofs.Gathering.{gathered_less}
use Rattle.engine.proofs.Striking.{met_apart, striking_past, striking_met, striking_more, striking_all}
use Rattle.engine.proofs.columns.Indexed+L+L+Predicate.strike.Goals as goal
use Rattle.engine.proofs.columns.Indexed+L+L+Predicate.strike.Goals.{then-keeps+then-not-is_within, then-keeps+else-not-is_within, else-keeps}

pub returns-then-not-meets-clause-met : goal.returns-then-not-meets-clause-met
returns-then-not-meets-clause-met g c =
    let b = c.args.self.now in
    met_apart (g.L.LabelAlgebra.holds b.labels.now) b.marks.now b.arrows.now c.args.q c.args.t c.args.rows.now.words b.preds.words c.args.below.now.words b.within b.joined c.requires.wide c.requires.gathered
    (λ p x y. both_ways c.meets.result c.if-not-meets.true (c.meets.ensures.1 (p, x, y)))

pub overflow_add-struck : goal.overflow_add-struck
overflow_add-struck g c = omega (arith, pairs_most (pair c.args.rows.now.words) (size c.args.self.now) c.args.self.now.few, c.loop-entry.invariant.0.0.count)

pub loop-entry-preserved : goal.loop-entry-preserved
loop-entry-preserved g c =
    let b = c.args.self.now in
    let h = g.L.LabelAlgebra.holds b.labels.now in
    let q = c.args.q in
    let t = c.args.t in
    let p = c.from-p.result in
    let old = c.args.rows.now.words in
    let es = c.entries-entry-items.result.now in
    let s = c.entries-entry-items.ensures.listed in
    let i = c.loop-entry.entry-index in
    let rows = c.loop-entry.rows.words in
    let all = c.answers-all in
    elim c.if-keeps.branch [
      | then-keeps+then-not-is_within w ↦ rw (w.rows-is, w.below-is, w.struck-is) (
        striking_more h b.marks.now b.arrows.now q t es old s i c.loop-entry-test.true w.from-place.result w.index-arrows-place.result w.from-place.ensures all.result all.ensures
            rows w.set.new.self.words c.loop-entry.struck p c.from-p.ensures b.within c.requires.state (sym c.keeps.ensures ∙ w.if-keeps.true)
            (not_from_Decides w.is_within.result w.is_within.ensures w.if-not-is_within.true) w.set.ensures c.loop-entry.invariant.0,
        gathered_less (size b) q p rows w.set.new.self.words c.loop-entry.below.words w.set-then-not-is_within.new.self.words w.set.ensures w.set-then-not-is_within.ensures c.loop-entry.invariant.1,
      )
      | then-keeps+else-not-is_within w ↦ rw (w.rows-is, w.below-is, w.struck-is) (
        striking_met h b.marks.now b.arrows.now q t es old s i c.loop-entry-test.true w.from-place.result w.index-arrows-place.result w.from-place.ensures all.result all.ensures
            rows c.loop-entry.struck (w.is_within.ensures.0 w.if-not-is_within.false) c.loop-entry.invariant.0,
        c.loop-entry.invariant.1,
      )
      | else-keeps w ↦ rw (w.rows-is, w.below-is, w.struck-is) (
        striking_past h b.marks.now b.arrows.now q t es old s i c.loop-entry-test.true
            rows c.loop-entry.struck (ap (λ y. pair rows y q) (sym c.from-p.ensures) ∙ sym c.keeps.ensures ∙ w.if-keeps.false) c.loop-entry.invariant.0,
        c.loop-entry.invariant.1,
      )
    ]

pub returns-clause-met : goal.returns-clause-met
returns-clause-met g c =
    let b = c.args.self.now in
    striking_all (g.L.LabelAlgebra.holds b.labels.now) b.marks.now b.arrows.now c.args.q c.args.t c.entries-entry-items.result.now c.args.rows.now.words c.entries-entry-items.ensures.listed
    c.loop-entry.rows.words c.loop-entry.struck c.loop-entry.entry-index (omega arith) c.loop-entry.invariant.0
