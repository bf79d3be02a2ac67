use Rattle.std.proofs.Common.{◌/◌, ◌^◌, eqb, ap}
use lib.Bits.{and_mask}
use Rattle.std.proofs.lemmas.Bool.{lt-ltb, le-ltb}
use Rattle.bits.specs.Bit.{bit}
use Rattle.bits.proofs.is_set.Goals as goal

pub returns-then-k-lt64 : goal.returns-then-k-lt64
unfolding bit
returns-then-k-lt64 c =
    rw (lt-ltb c.args.k 64 c.if-k-lt64.true) (ap (λ n. eqb n 1) (and_mask (c.args.word / 2 ^ c.args.k) 1))

pub returns-else-k-lt64 : goal.returns-else-k-lt64
unfolding bit
returns-else-k-lt64 c = rw (le-ltb c.args.k 64 c.if-k-lt64.false)
