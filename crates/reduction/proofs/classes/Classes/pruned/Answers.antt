use Rattle.std.proofs.Common.{◌≡◌, ◌<◌, Some, length, get_or, sym, ap, ◌∙◌, arith, rules}
use Rattle.std.proofs.lemmas.List.{get_or_default}
use Rattle.reduction.specs.Sorted.{kept_of}
use Rattle.reduction.proofs.Gathering.{gathers_none, gathers_here, gathers_less, gathers_low, gathers_high, gathers_off, gathers_pruned}
use Rattle.reduction.proofs.classes.Classes.pruned.Goals as goal
use Rattle.reduction.proofs.classes.Classes.pruned.Goals.{then-e-d, else-e-d+then-keeps, else-e-d+else-keeps}

pub loop-at-init : goal.loop-at-init
loop-at-init g c =
    let s = c.args.self.now in
    gathers_none _ _ _ _ _ s.chains.last s.heads c.none-merged.result c.none-over.result c.requires.0 c.none-merged.ensures c.none-over.ensures

pub target_of-e-requires : goal.target_of-e-requires
target_of-e-requires g c = gathers_here _ _ _ _ _ _ _ c.loop-at.at c.from-k.result (c.in-Some.is ∙ ap Some (sym c.from-k.ensures)) c.loop-at.invariant

pub offset_bounds-self-k : goal.offset_bounds-self-k
offset_bounds-self-k g c =
    let lt : c.from-k.result < length c.args.self.now.book.arrows.now = gathers_here _ _ _ _ _ _ _ c.loop-at.at c.from-k.result (c.in-Some.is ∙ ap Some (sym c.from-k.ensures)) c.loop-at.invariant in
    search rules

pub bounds-self-k : goal.bounds-self-k
bounds-self-k g c = gathers_here _ _ _ _ _ _ _ c.loop-at.at c.from-k.result (c.in-Some.is ∙ ap Some (sym c.from-k.ensures)) c.loop-at.invariant

pub bounds-self-k-in-Some : goal.bounds-self-k-in-Some
bounds-self-k-in-Some g c =
    let lt = gathers_here _ _ _ _ _ _ _ c.loop-at.at c.from-k.result (c.in-Some.is ∙ ap Some (sym c.from-k.ensures)) c.loop-at.invariant in
    omega (arith, lt, c.args.self.now.book.few_arrows)

pub loop-at-smaller : goal.loop-at-smaller
loop-at-smaller g c =
    let s = c.args.self.now in
    gathers_less _ _ _ _ _ s.chains.before s.links _ _ c.loop-at.at c.from-k.result (c.in-Some.is ∙ ap Some (sym c.from-k.ensures)) c.loop-at.invariant

pub loop-at-preserved : goal.loop-at-preserved
loop-at-preserved g c =
    let s = c.args.self.now in
    let b = s.book in
    let h = g.L.LabelAlgebra.holds b.labels.now in
    let K = kept_of b in
    let l = c.loop-at in
    let k = c.from-k.result in
    let now' : l.at ≡ Some k = c.in-Some.is ∙ ap Some (sym c.from-k.ensures) in
    let lt = gathers_here h K c.args.c c.args.d b.arrows.now _ _ l.at k now' l.invariant in
    let x = get_or b.arrows.now k c.index-self-k.result in
    let is = get_or_default b.arrows.now k c.index-self-k.result x lt in
    let e = c.target_of-e.result in
    elim c.if-e-d.branch [
      | then-e-d w ↦ rw (w.merged-is, w.over-is) (gathers_low h K c.args.c c.args.d b.arrows.now s.chains.before s.links l.merged l.over l.at k now' x is e c.target_of-e.ensures.value l.invariant w.if-e-d.true w.join-merged.result w.join-merged.ensures)
      | else-e-d+then-keeps w ↦ rw (w.merged-is, w.over-is) (gathers_high h K c.args.c c.args.d b.arrows.now s.chains.before s.links l.merged l.over l.at k now' x is e c.target_of-e.ensures.value l.invariant w.if-e-d.false (sym w.keeps.ensures ∙ w.if-keeps.true) w.join-over.result w.join-over.ensures)
      | else-e-d+else-keeps w ↦ rw (w.merged-is, w.over-is) (gathers_off h K c.args.c c.args.d b.arrows.now s.chains.before s.links l.merged l.over l.at k now' x is e c.target_of-e.ensures.value l.invariant w.if-e-d.false (sym w.keeps.ensures ∙ w.if-keeps.false))
    ]

pub returns : goal.returns
returns g c v =
    let b = c.args.self.now.book in
    let a = b.labels.now in
    gathers_pruned (g.L.LabelAlgebra.holds a) (kept_of b) c.args.c c.args.d b.arrows.now b.marks.now b.within c.loop-at.merged c.loop-at.over _ c.complement.result c.loop-at.at c.in_default.is c.loop-at.invariant
    v (g.L.LabelAlgebra.symbol a v) (g.met.L.LabelAlgebra.within a c.loop-at.merged v) (c.complement.ensures v) (c.meet.ensures v)
