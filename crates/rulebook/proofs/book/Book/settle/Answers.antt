use Rattle.std.proofs.Common.{ℕ, subst}
use Rattle.bits.specs.Matrix.{pair}
use Rattle.automata.proofs.Simulations.{Preorder, preorder}
use Rattle.rulebook.proofs.Kept.{ordered}
use Rattle.rulebook.proofs.Views.{states_are}
use Rattle.rulebook.proofs.book.Book.settle.Goals as goal

pub invariant_of-self-in-Ok : goal.invariant_of-self-in-Ok
invariant_of-self-in-Ok g c =
    let b = c.args.self.now in
    let rows = c.simulation-count.new.rows.words in
    let s = c.simulation-count.ensures in
    let o = ordered b.inner.states rows c.in-Ok.next (subst (λ (n : ℕ). Preorder n (pair rows)) (states_are b) (preorder _ _ s.greatest)) s.empty in
    record {
      few_states = b.inner.few_states;
      few_arrows = b.inner.few_arrows;
      all_marks = b.inner.all_marks;
      reflexive = o.0;
      transitive = o.1;
      bounded = o.2;
    }
