use Rattle.std.proofs.Common.{arith}
use Rattle.exported.proofs.Copies.{made_more, past_more}
use Rattle.exported.proofs.write.Goals as goal

pub loop-i-preserved : goal.loop-i-preserved
loop-i-preserved g c =
    let l = c.loop-i in (
      made_more (goal.F-post g c.args.make) c.args.from.now l.into l.i c.index-from-i.result c.make.result c.loop-i-test.true (omega (arith, c.loop-i-test.true, c.requires.room, l.auto.into)) c.index-from-i.is c.make.ensures l.invariant.0,
      past_more _ _ _ l.i _ c.loop-i-test.true l.invariant.1,
    )

pub returns : goal.returns
returns g c = record {
  made = λ k d e lt. c.loop-i.invariant.0 k d e (omega arith);
  past = c.loop-i.invariant.1;
}
