use Rattle.std.proofs.Common.{◌<◌, length, subst, arith}
use Rattle.histories.specs.Moments.{Whole, Step}
use Rattle.histories.specs.Held.{moment}
use Rattle.histories.proofs.Turns.{history_turn, history_present, ticket_turn, start_whole, drop_turn, loans_more}
use Rattle.histories.proofs.scene.Scene.carry_out.Goals as goal

pub loop-i-preserved : goal.loop-i-preserved
loop-i-preserved g c =
    let room = c.requires.room in
    let long = c.loop-i.auto.answers in
    let here : c.loop-i.i < length c.loop-i.answers = omega arith in
    let e = c.perform-answer.ensures in
    let inv = c.loop-i.invariant in
    let holds = g.L.LabelAlgebra.holds c.args.labels.now in
    let sat = g.L.LabelAlgebra.satisfiable c.args.labels.now in
    let m = moment c.args.self.now in
    let n = moment c.loop-i.self in
    let step = subst (λ t. Step (Whole holds n) t holds sat n c.index-calls-i.result c.perform-answer.result.0 (moment c.perform-answer.new.self)) inv.1.text e.step in (
      e.held,
      loans_more inv.1 e.lent,
      drop_turn c.loop-i.answers c.args.answers.now c.loop-i.i c.perform-answer.result.0 inv.2,
      ticket_turn sat _ _ _ _ _ c.args.calls.now c.loop-i.i _ c.loop-i-test.true c.index-calls-i.is (history_present _ holds sat _ m _ _ _ inv.4) inv.3 e.ticket,
      history_turn _ _ _ _ m _ _ _ _ _ _ _ (start_whole _ m) c.loop-i-test.true here c.index-calls-i.is inv.4 step,
    )
