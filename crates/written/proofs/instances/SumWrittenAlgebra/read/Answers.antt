use Rattle.std.proofs.Common.{◌+◌, ◌-◌, ◌≤◌, length, take, drop, sym, arith}
use Rattle.written.specs.Codecs.{front_le, behind_le}
use Rattle.written.proofs.instances.SumWrittenAlgebra.read.Goals as goal

pub slice_bounds-read-count : goal.slice_bounds-read-count
slice_bounds-read-count g c =
    let l = g.met.L.WrittenAlgebra.exact c.args.self.now.left c.args.bytes.now c.in_ok-l.l (sym c.in_ok-l.ensures) in
    front_le c.args.bytes.now _ _ l.0 l.1

pub slice_bounds-read-start : goal.slice_bounds-read-start
slice_bounds-read-start g c =
    let l = g.met.L.WrittenAlgebra.exact c.args.self.now.left c.args.bytes.now c.in_ok-l.l (sym c.in_ok-l.ensures) in
    front_le c.args.bytes.now _ _ l.0 l.1

pub overflow_add-result : goal.overflow_add-result
overflow_add-result g c =
    let n = c.in_ok-l.l.len in
    let bytes = c.args.bytes.now in
    let l = g.met.L.WrittenAlgebra.exact c.args.self.now.left bytes c.in_ok-l.l (sym c.in_ok-l.ensures) in
    let r = g.met.R.WrittenAlgebra.exact c.args.self.now.right (take (length bytes - n) (drop n bytes)) c.in_ok-r.r (sym c.in_ok-r.ensures) in
    let most : n + c.in_ok-r.r.len ≤ length bytes = behind_le bytes _ n c.in_ok-r.r.len (front_le bytes _ n l.0 l.1) r.0 r.1 in
    omega arith
