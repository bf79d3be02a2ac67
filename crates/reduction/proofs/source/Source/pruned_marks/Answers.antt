use Rattle.std.proofs.Common.{◌≢◌, ap, ap₂, ◌∙◌, arith, length-set, get_or-set_other, get_or-set_same, below_more}
use Rattle.automata.specs.declared.Mark.TheVariants.{Neither}
use Rattle.automata.specs.Automata.{mark, mark_accepts, mark_is_start}
use Rattle.automata.proofs.Book.{initial_mark, accepting_mark}
use Rattle.reduction.proofs.source.Source.pruned_marks.Goals as goal

pub loop-c-preserved : goal.loop-c-preserved
loop-c-preserved g c = (
  below_more _ _
      (λ k h. let ne : k ≢ c.loop-c.c = omega arith in rw get_or-set_other (c.loop-c.invariant.0 k h))
      (get_or-set_same c.loop-c.top c.loop-c.c c.new.result Neither (omega (arith, c.loop-c.invariant.1)) ∙ c.new.ensures ∙ ap₂ mark c.is_highest.ensures c.is_accepting.ensures),
  length-set c.loop-c.top _ _ ∙ c.loop-c.invariant.1,
)

pub returns : goal.returns
returns g c = record {
  initial = λ k h. ap mark_is_start (c.loop-c.invariant.0 k (omega arith)) ∙ initial_mark _ _;
  accepting = λ k h. ap mark_accepts (c.loop-c.invariant.0 k (omega arith)) ∙ accepting_mark _ _;
}
