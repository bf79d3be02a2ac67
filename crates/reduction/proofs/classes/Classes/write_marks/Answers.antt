use Rattle.std.proofs.Common.{◌≡◌, ℕ, List, [], ◌∷◌, ◌++◌, map, length, get_or, take, sym, refl, ap, ◌∙◌, arith}
use Rattle.std.proofs.lemmas.List.{take_more_set, map_more, take_all}
use Rattle.automata.specs.declared.Mark.{Mark}
use Rattle.automata.specs.declared.Mark.TheVariants.{Neither}
use Rattle.reduction.proofs.classes.Classes.write_marks.Goals as goal

pub loop-i-init : goal.loop-i-init
loop-i-init g c = refl

pub loop-i-preserved : goal.loop-i-preserved
loop-i-preserved g c =
    let f : ℕ → Mark = λ d. get_or c.args.self.now.marks d Neither in
    let s = c.list-list.result.now in
    let l = c.loop-i in
    take_more_set l.into l.i (f c.from.result) (omega (arith, l.auto.into, c.loop-i-test.true, c.requires, ap length c.list-list.ensures.listed)) ∙ ap (λ (x : List Mark). x ++ f c.from.result ∷ []) l.invariant ∙ ap (λ (d : ℕ). map f (take l.i s) ++ f d ∷ []) c.from.ensures ∙ sym (map_more f s l.i 0 c.loop-i-test.true)

pub returns : goal.returns
returns g c =
    let s = c.list-list.result.now in
    let f : ℕ → Mark = λ d. get_or c.args.self.now.marks d Neither in
    let e : c.loop-i.i ≡ length s = omega (arith, c.loop-i-test.false, c.loop-i.auto.i-end) in
    ap (λ (x : List ℕ). take (length x) c.loop-i.into) (sym c.list-list.ensures.listed) ∙ ap (λ (n : ℕ). take n c.loop-i.into) (sym e) ∙ c.loop-i.invariant ∙ ap (map f) (take_all c.loop-i.i s (omega (arith, c.loop-i-test.false)) ∙ c.list-list.ensures.listed)
