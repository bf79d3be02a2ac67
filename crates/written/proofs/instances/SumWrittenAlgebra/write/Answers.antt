use Rattle.std.proofs.Common.{refl, arith}
use Rattle.written.specs.Codecs.{room_both, wrote_both}
use Rattle.written.proofs.instances.SumWrittenAlgebra.write.Goals as goal

pub returns : goal.returns
returns g c =
    let s = c.args.self.now in
    let p = c.args.p in
    let a = g.L.WrittenAlgebra.text s.left p.left in
    let b = g.R.WrittenAlgebra.text s.right p.right in
    let room = room_both c.args.out.now a b _ c.text_len.ensures c.if-out-text_len.false (omega arith) in
    let first = c.in_ok-n.ensures in
    let second = c.in_ok-m.ensures in
    wrote_both c.args.out.now c.write.new.out c.write-2.new.out a b c.in_ok-n.n c.in_ok-m.m _ room c.write.auto.out first.0 first.1 refl second.0 second.1
