use Rattle.std.proofs.Common.{ℕ, Bool, ◌&&◌, length, sym, ◌∙◌, get_or, arith, rules, tests}
use Rattle.std.proofs.lemmas.Iterator.{YieldsList-from_range}
use Rattle.std.proofs.lemmas.Iterator.Search.{any_from_yields_List}
use Rattle.automata.specs.Automata.{mark_is_start}
use Rattle.automata.specs.declared.Mark.TheVariants.{Neither}
use Rattle.automata.specs.Reduction.{below}
use Rattle.reduction.specs.Sorted.{kept_of}
use Rattle.reduction.proofs.Naming.{highest_is, highest_not}
use Rattle.reduction.proofs.source.Source.is_highest.Goals as goal

pub returns-then-is_initial : goal.returns-then-is_initial
returns-then-is_initial g c =
    let K = kept_of c.args.self.now in
    let n = length c.args.self.now.marks.now in
    let f : ℕ → Bool = λ e. mark_is_start (get_or c.args.marks.now e Neither) in
    highest_is K n f c.args.c c.any.result
    (any_from_yields_List (λ e. f e && below K c.args.c e) _ _ _ c.any.ensures.ran (YieldsList-from_range 0 n n (cc) (omega arith)) (λ x b q k. search (rules, tests)))
    (sym c.is_initial.ensures ∙ c.if-is_initial.true)

pub returns-else-is_initial : goal.returns-else-is_initial
returns-else-is_initial g c =
    let K = kept_of c.args.self.now in
    let n = length c.args.self.now.marks.now in
    c.if-is_initial.false ∙ highest_not K n (λ e. mark_is_start (get_or c.args.marks.now e Neither)) c.args.c (sym c.is_initial.ensures ∙ c.if-is_initial.false)
