use Rattle.std.proofs.Common.{ℕ, Bool, List, length, ap, ◌∙◌, subst, arith}
use Rattle.automata.specs.Reduction.{highest}
use Rattle.reduction.specs.Chains.{Heads, Links}
use Rattle.reduction.specs.Sorted.{kept_of}
use Rattle.reduction.proofs.Naming.{sources_are}
use Rattle.reduction.proofs.classes.Classes.of.Goals as goal

pub invariant_of-result : goal.invariant_of-result
invariant_of-result g c =
    let b = c.args.book in
    let K = kept_of b in
    let xs = b.arrows.now in
    let named = c.names-names.ensures in
    let merged = c.merged_marks.ensures in
    let top = c.pruned_marks-marks.ensures in
    let keys = sources_are K (length b.marks.now) c.names-names.result named xs b.within in
    record {
      named = named;
      initial = λ d h. top.initial d (omega (arith, h, b.few_states)) ∙ ap (λ (f : ℕ → Bool). highest (length b.marks.now) K f d) (λ i e. merged.initial K named e i);
      accepting = λ d h. top.accepting d (omega (arith, h, b.few_states)) ∙ merged.accepting K named d;
      heads = subst (λ (keys : List ℕ). Heads keys (length xs) c.chains.new.into.last) keys c.chains.ensures.last;
      links = subst (λ (keys : List ℕ). Links keys (length xs) c.chains.new.into.before) keys c.chains.ensures.before;
    }
