use Rattle.std.proofs.Common.{rules}
use Rattle.std.proofs.lemmas.List.{places}
use Rattle.bits.proofs.Pairs.{same_row}
use Rattle.bits.proofs.matrix.Rows.put_row.Goals as goal

pub returns-clause-here : goal.returns-clause-here
returns-clause-here g c = same_row c.args.row.now.words _ 0 c.args.p (λ j h. search (rules, places))

pub returns-clause-others : goal.returns-clause-others
returns-clause-others g c i q ne = same_row c.args.self.now.words _ i i (λ j h. search (rules, places)) q
