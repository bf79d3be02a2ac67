use Rattle.std.proofs.Common.{true, sym, ap, ◌∙◌, subst}
use Rattle.std.proofs.lemmas.Bool.{both_ways}
use Rattle.bits.specs.Matrix.{pair, Changed}
use Rattle.engine.proofs.Stepping.{stepping_more, stepping_past, stepping_all}
use Rattle.engine.proofs.words.step.Goals as goal
use Rattle.engine.proofs.words.step.Goals.{then-keeps+then-test, else-keeps, else-keeps-via-then-keeps+else-test, else-keeps-via-else-keeps}

pub loop-x-preserved : goal.loop-x-preserved
loop-x-preserved g c =
    let h = g.L.LabelAlgebra.holds c.args.labels.now in
    let xs = c.args.arrows.now in
    let live = c.args.live.now.words in
    let a = c.args.value in
    let old = c.loop-x.next.words in
    let i = c.loop-x.x-index in
    let x = c.x-item.result in
    elim c.if-keeps.branch [
      | then-keeps+then-test y ↦ rw y.next-is
          (stepping_more h xs live a old y.set.new.self.words i x c.loop-x-test.true c.x-item.is (ap (pair live 0) (sym c.from.ensures) ∙ sym c.keeps.ensures ∙ y.if-keeps.true) (sym y.test.ensures ∙ y.if-test.true)
          (subst (Changed true old y.set.new.self.words 0) y.from-then-test.ensures y.set.ensures) c.loop-x.invariant)
      | else-keeps y ↦ rw y.next-is
          (stepping_past h xs live a old i x c.loop-x-test.true c.x-item.is
          (λ on l. elim y.else-keeps.branch [
            | else-keeps-via-then-keeps+else-test z ↦ both_ways (h x.label a) (sym z.test.ensures ∙ z.if-test.false) l
            | else-keeps-via-else-keeps z ↦ both_ways (pair live 0 x.source) (ap (pair live 0) (sym c.from.ensures) ∙ sym c.keeps.ensures ∙ z.if-keeps.false) on
          ])
          c.loop-x.invariant)
    ]

pub returns : goal.returns
returns g c = stepping_all (g.L.LabelAlgebra.holds c.args.labels.now) c.args.arrows.now c.args.live.now.words c.args.value c.loop-x.next.words c.loop-x.x-index c.loop-x-test.false c.loop-x.invariant
