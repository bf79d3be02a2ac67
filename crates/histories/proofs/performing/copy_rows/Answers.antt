use Rattle.std.proofs.Common.{rules}
use Rattle.histories.proofs.Parts.{part_is, copies_part}
use Rattle.histories.proofs.performing.copy_rows.Goals as goal

pub returns-then-to-words-clause-copies : goal.returns-then-to-words-clause-copies
returns-then-to-words-clause-copies g c =
    let h = c.if-from-to.true in
    let k = c.if-to-words.true in
    rw (part_is c.args.from c.args.to c.args.words.now h k) (copies_part c.args.from c.args.to _ _ c.args.words.now c.copy_into.new.words h k (search rules) _ c.copy_into.ensures.copies)
