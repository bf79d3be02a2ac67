use Rattle.std.proofs.Common.{rules}
use Rattle.rulebook.proofs.Lists.{ends_strike}
use Rattle.rulebook.proofs.Slid.{removed}
use Rattle.rulebook.proofs.book.Book.strike.Goals as goal

pub invariant_of-self-2 : goal.invariant_of-self-2
invariant_of-self-2 g c =
    let b = c.args.self.now in
    let e = c.copy_within.ensures in
    let slid = removed c.args.place b.inner.arrows _ _ e.by_index.1 e.by_index.0 e.len c.if-place-self.false b.fits in
    let ends = ends_strike b.inner.states b.inner.arrows c.args.place _ _ slid e.len b.ends c.if-place-self.false b.fits in
    record { fits = ends.0; ends = ends.1 }

pub returns : goal.returns
returns g c =
    let b = c.args.self.now in
    let e = c.copy_within.ensures in
    let slid = removed c.args.place b.inner.arrows _ _ e.by_index.1 e.by_index.0 e.len c.if-place-self.false b.fits in
    let room = e.len in
    search rules
