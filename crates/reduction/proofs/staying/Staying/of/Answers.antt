use Rattle.std.proofs.Common.{◌≡◌, ℕ, ◌<◌, Bool, false, [], ◌∷◌, ◌++◌, get_or, sym, ap, ◌∙◌, arith, length-set}
use Rattle.std.proofs.lemmas.List.{length-replicate, take_more_set, get_or-take, length-take-le}
use Rattle.automata.specs.Below.{rising}
use Rattle.reduction.proofs.Listing.{rising_none, rising_on, rising_off}
use Rattle.reduction.proofs.staying.Staying.of.Goals as goal
use Rattle.reduction.proofs.staying.Staying.of.Goals.{then-stay, else-stay}

pub loop-c-init : goal.loop-c-init
loop-c-init c = (rising_none _, omega arith, length-replicate {A = ℕ} 256 0)

pub bounds-classes-len : goal.bounds-classes-len
bounds-classes-len c = omega (arith, c.loop-c.invariant.1, c.loop-c-test.true, length-take-le c.args.n c.args.stays.now (omega (arith, c.told-stays, c.requires)), c.requires)

pub loop-c-preserved : goal.loop-c-preserved
loop-c-preserved c =
    let f : ℕ → Bool = λ d. get_or c.args.stays.now d false in
    let l = c.loop-c in
    let low : l.c < c.args.n = omega (arith, c.loop-c-test.true, length-take-le c.args.n c.args.stays.now (omega (arith, c.told-stays, c.requires))) in
    elim c.if-stay.branch [
      | then-stay w ↦ rw (w.len-is, w.classes-is) (
        take_more_set l.classes l.len l.c (omega (arith, l.invariant.1, l.invariant.2, low, c.requires)) ∙ ap (λ xs. xs ++ l.c ∷ []) l.invariant.0 ∙ sym (rising_on f l.c (sym (get_or-take c.args.n c.args.stays.now l.c false low) ∙ w.if-stay.true)),
        omega (arith, l.invariant.1),
        length-set l.classes _ _ ∙ l.invariant.2,
      )
      | else-stay w ↦ rw (w.len-is, w.classes-is) (l.invariant.0 ∙ sym (rising_off f l.c (sym (get_or-take c.args.n c.args.stays.now l.c false low) ∙ w.if-stay.false)), omega (arith, l.invariant.1), l.invariant.2)
    ]

pub invariant_of-result : goal.invariant_of-result
invariant_of-result c = omega (arith, c.loop-c.invariant.1, c.loop-c.auto.c-end, length-take-le c.args.n c.args.stays.now (omega (arith, c.told-stays, c.requires)), c.requires)

pub returns : goal.returns
returns c =
    let e : c.loop-c.c ≡ c.args.n = omega (arith, c.loop-c-test.false, c.loop-c.auto.c-end, length-take-le c.args.n c.args.stays.now (omega (arith, c.told-stays, c.requires))) in
    c.loop-c.invariant.0 ∙ ap (rising (λ d. get_or c.args.stays.now d false)) e
