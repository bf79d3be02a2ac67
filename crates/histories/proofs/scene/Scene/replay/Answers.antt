use Rattle.std.proofs.Common.{length, take}
use Rattle.histories.specs.Held.{moment}
use Rattle.histories.proofs.Turns.{history_present}
use Rattle.histories.proofs.scene.Scene.replay.Goals as goal

pub returns-in-Ok-clause-leaves : goal.returns-in-Ok-clause-leaves
returns-in-Ok-clause-leaves g c = history_present _ _ _ _ (moment c.args.self.now) (moment c.carry_out.new.self) c.args.calls.now (take (length c.args.calls.now) c.carry_out.new.answers) c.carry_out.ensures.history
