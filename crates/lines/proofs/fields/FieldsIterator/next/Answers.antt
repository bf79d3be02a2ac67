use Rattle.std.proofs.Common.{refl}
use Rattle.lines.proofs.Parts.{passes_parted, passes_free}
use Rattle.lines.proofs.fields.FieldsIterator.next.Goals as goal
use Rattle.lines.proofs.fields.FieldsIterator.next.Goals.{in-Some, in-None}

pub returns-clause-steps : goal.returns-clause-steps
returns-clause-steps c = elim c.match-cut.branch [
  | in-Some w ↦ (refl, passes_parted c.args.self.now.left c.in_ok-line.line c.args.self.now.at c.in_ok-line.was _ w.in-Some.bytes w.in-Some.rest w.t-15-is w.in-Some.ensures _ c.further.ensures)
  | in-None w ↦ (refl, passes_free c.args.self.now.left c.in_ok-line.line c.args.self.now.at c.in_ok-line.was _ w.t-15-is w.in-None.ensures _ c.further.ensures)
]
