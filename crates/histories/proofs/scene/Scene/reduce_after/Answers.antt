use Rattle.histories.specs.Held.{moment}
use Rattle.histories.proofs.Turns.{history_reduced, reduced_right}
use Rattle.histories.proofs.scene.Scene.reduce_after.Goals as goal

pub returns-clause-history : goal.returns-clause-history
returns-clause-history g c =
    let e = c.in_ok-own.ensures in
    let p = c.perform-answer in
    history_reduced c.args.self.now.text.now _ _ _ (moment c.args.self.now) (moment c.replay.new.self) (moment p.new.self) c.args.calls.now _ p.result.0 e.lent.text e.history p.ensures.step

pub returns-clause-reduced : goal.returns-clause-reduced
returns-clause-reduced g c =
    let e = c.in_ok-own.ensures in
    let p = c.perform-answer in
    reduced_right c.args.self.now.text.now _ _ _ (moment c.args.self.now) (moment c.replay.new.self) (moment p.new.self) c.args.calls.now _ p.result.0 e.lent.text e.history p.ensures.step
