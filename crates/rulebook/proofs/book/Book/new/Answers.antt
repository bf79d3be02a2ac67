use Rattle.std.proofs.Common.{sym, ◌∙◌, arith}
use Rattle.std.proofs.lemmas.Bool.{false≢true}
use Rattle.bits.specs.Matrix.{pair}
use Rattle.rulebook.proofs.Kept.{through_none}
use Rattle.rulebook.proofs.book.Book.new.Goals as goal

pub invariant_of-result : goal.invariant_of-result
invariant_of-result g c =
    record {
      few_states = omega arith;
      few_arrows = omega arith;
      all_marks = search;
      reflexive = λ s p h. absurd (omega arith);
      transitive = λ p r e. absurd (through_none (pair c.empty.result.words) p r e);
      bounded = λ p q e. absurd (false≢true (sym (c.empty.ensures p q) ∙ e));
    }
