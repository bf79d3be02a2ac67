use Rattle.std.proofs.Common.{◌≡◌, ℕ, length, sym, subst, arith, rules}
use Rattle.automata.proofs.Simulations.{Preorder}
use Rattle.bits.specs.Matrix.{pair}
use Rattle.rulebook.specs.declared.parts.Condition.TheVariants.{Settled}
use Rattle.rulebook.proofs.Kept.{preorder_of}
use Rattle.rulebook.proofs.Reduced.{filled_ends, filled_order}
use Rattle.rulebook.proofs.Views.{states_are}
use Rattle.rulebook.proofs.book.Book.become_reduced.Goals as goal

pub invariant_of-self-2 : goal.invariant_of-self-2
invariant_of-self-2 g c =
    let b = c.args.source.now in
    let f = rw (c.marks.ensures, c.arrows.ensures) at (rw c.in_ok-counts.ensures.ok_part at c.reduce.ensures.made) in
    let settled = c.requires.source in
    let fit = f.states_fit in
    let fit' = f.arrows_fit in
    let long : length c.reduce.new.into_marks ≡ 256 = search rules in
    let o = preorder_of b.inner.states b.inner.rows.words b.inner.condition settled b.inner.reflexive b.inner.transitive in
    let k = filled_order _ _ _ _ _ _ _ _ f (subst (λ (n : ℕ). Preorder n (pair b.inner.rows.words)) (sym (states_are b)) o) Settled in
    record {
      few_states = omega arith;
      few_arrows = omega arith;
      all_marks = long;
      reflexive = k.0;
      transitive = k.1;
      bounded = k.2;
    }

pub invariant_of-self-3 : goal.invariant_of-self-3
invariant_of-self-3 g c = let e = filled_ends _ _ _ _ _ _ _ _ (rw (c.marks.ensures, c.arrows.ensures) at (rw c.in_ok-counts.ensures.ok_part at c.reduce.ensures.made)) in record { fits = e.0; ends = e.1 }
