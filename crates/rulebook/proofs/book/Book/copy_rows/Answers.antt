use Rattle.std.proofs.Common.{◌*◌, inr, arith}
use Rattle.std.proofs.lemmas.List.{length-take-le}
use Rattle.rulebook.proofs.Copying.{copied, fronted}
use Rattle.rulebook.proofs.Views.{states_are}
use Rattle.rulebook.proofs.book.Book.copy_rows.Goals as goal

pub returns-clause-copies : goal.returns-clause-copies
returns-clause-copies g c =
    let b = c.args.self.now in
    let whole = b.inner.rows.whole in
    let few = b.inner.few_states in
    let used = 4 * b.inner.states in
    let rows = b.inner.rows.words in
    let w = c.put_words in
    rw (states_are b) (copied b.inner.states rows c.args.words.now w.new.rows (fronted used rows w.new.rows (omega arith) w.ensures.here) (λ i h. w.ensures.others i (inr (omega (arith, length-take-le used rows (omega arith))))) w.auto.rows)
