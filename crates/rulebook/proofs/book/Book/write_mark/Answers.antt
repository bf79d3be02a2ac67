use Rattle.std.proofs.Common.{refl, ap}
use Rattle.rulebook.specs.View.{view}
use Rattle.rulebook.specs.Model.{with_marks}
use Rattle.std.proofs.Math.Seq.{take-set-lt}
use Rattle.rulebook.proofs.book.Book.write_mark.Goals as goal

pub returns-clause-leaves : goal.returns-clause-leaves
returns-clause-leaves g c =
    let b = c.args.self.now in
    record { leaves = ap (with_marks (view b)) (take-set-lt b.inner.states b.inner.marks c.args.state c.args.mark c.requires); keeps = refl; lent = refl }
