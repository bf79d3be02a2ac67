use Rattle.std.proofs.Common.{refl}
use Rattle.histories.proofs.Carrying.{settle_step, word_step, reduce_step, kept_within, step_of}
use Rattle.histories.proofs.scene.Scene.perform.Goals as goal

pub returns-in-Settle-clause-step : goal.returns-in-Settle-clause-step
returns-in-Settle-clause-step g c =
    let e = c.settle.ensures in
    step_of c.in-Settle.is (settle_step _ _ _ _ _ (kept_within c.settle.new.book) c.in-Settle.ticket c.settle.result.0 e.says e.leaves (record { target = refl; order = refl; words = refl }))

pub returns-in-TestWord-clause-step : goal.returns-in-TestWord-clause-step
returns-in-TestWord-clause-step g c =
    step_of c.in-TestWord.is (word_step _ _ _ _ _ (kept_within c.args.self.now.book.now) c.in-TestWord.from c.in-TestWord.to c.test_word-accepted.result (rw c.part_of.ensures at c.test_word-accepted.ensures) refl refl (record { target = refl; order = refl; words = refl }))

pub returns-in-Reduce-clause-step : goal.returns-in-Reduce-clause-step
returns-in-Reduce-clause-step g c =
    step_of c.in-Reduce.is (reduce_step _ _ _ _ _ (kept_within c.args.self.now.book.now) c.reduce.result c.reduce.ensures.says refl refl refl)
