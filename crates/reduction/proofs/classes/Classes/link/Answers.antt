use Rattle.std.proofs.Common.{◌≡◌, ◌<◌, Some, sym, ap, ◌∙◌, arith}
use Rattle.std.proofs.lemmas.Bool.Decides.{not_from_Decides}
use Rattle.reduction.specs.Sorted.{kept_of, pruned_of}
use Rattle.reduction.proofs.Linking.{linked_tells, seeing_none, seeing_here, seeing_less, seeing_again, seeing_off, seeing_on, seeing_all}
use Rattle.reduction.proofs.classes.Classes.link.Goals as goal
use Rattle.reduction.proofs.classes.Classes.link.Goals.{then-not-seen-d+then-is_satisfiable, then-not-seen-d+else-is_satisfiable, else-not-seen-d}

pub loop-at-init : goal.loop-at-init
loop-at-init g c =
    let s = c.args.self.now in
    seeing_none _ _ _ _ _ _ _ s.chains.last s.heads (omega (arith, c.requires.here, s.book.few_states)) c.told-reached c.requires.empty

pub target_of-d-requires : goal.target_of-d-requires
target_of-d-requires g c = seeing_here _ _ _ _ _ _ _ _ _ _ c.loop-at.at c.from-k.result (c.in-Some.is ∙ ap Some (sym c.from-k.ensures)) c.loop-at.invariant

pub bounds-self-k : goal.bounds-self-k
bounds-self-k g c =
    let lt = seeing_here _ _ _ _ _ _ _ _ _ _ c.loop-at.at c.from-k.result (c.in-Some.is ∙ ap Some (sym c.from-k.ensures)) c.loop-at.invariant in
    omega (arith, lt, c.args.self.now.book.few_arrows)

pub loop-at-smaller : goal.loop-at-smaller
loop-at-smaller g c =
    let s = c.args.self.now in
    seeing_less _ _ _ _ _ _ _ _ _ _ c.loop-at.at c.from-k.result (c.in-Some.is ∙ ap Some (sym c.from-k.ensures)) c.loop-at.invariant s.chains.before s.links

pub loop-at-preserved : goal.loop-at-preserved
loop-at-preserved g c =
    let s = c.args.self.now in
    let b = s.book in
    let h = g.L.LabelAlgebra.holds b.labels.now in
    let K = kept_of b in
    let M = pruned_of b in
    let l = c.loop-at in
    let k = c.from-k.result in
    let now' : l.at ≡ Some k = c.in-Some.is ∙ ap Some (sym c.from-k.ensures) in
    let d = c.target_of-d.result in
    let lt : d < 256 = omega (arith, c.target_of-d.ensures.within, b.few_states) in
    elim c.if-not-seen-d.branch [
      | then-not-seen-d+then-is_satisfiable w ↦ rw (w.seen-is, w.links-is, w.reached-is)
          (seeing_on h b.marks.now b.arrows.now K c.args.c c.args.links.now.words c.args.reached.now l.seen l.links.words l.reached l.at k now' l.invariant s.chains.before s.links d c.target_of-d.ensures.value lt w.if-not-seen-d.true
          ((linked_tells h M c.args.c d w.pruned.result _ w.pruned.ensures w.is_satisfiable.ensures.symbol).0 w.if-is_satisfiable.true) w.set.new.self.words w.set.ensures)
      | then-not-seen-d+else-is_satisfiable w ↦ rw (w.seen-is, w.links-is, w.reached-is)
          (seeing_off h b.marks.now b.arrows.now K c.args.c c.args.links.now.words c.args.reached.now l.seen l.links.words l.reached l.at k now' l.invariant s.chains.before s.links d c.target_of-d.ensures.value lt w.if-not-seen-d.true
          (not_from_Decides _ (linked_tells h M c.args.c d w.pruned.result _ w.pruned.ensures w.is_satisfiable.ensures.symbol) w.if-is_satisfiable.false))
      | else-not-seen-d w ↦ rw (w.seen-is, w.links-is, w.reached-is)
          (seeing_again h b.marks.now b.arrows.now K c.args.c c.args.links.now.words c.args.reached.now l.seen l.links.words l.reached l.at k now' l.invariant s.chains.before s.links d c.target_of-d.ensures.value w.if-not-seen-d.false)
    ]

pub returns-clause-tells : goal.returns-clause-tells
returns-clause-tells g c d h = seeing_all _ _ _ _ _ _ _ c.args.self.now.book.within _ _ _ c.loop-at.at c.in_default.is c.loop-at.invariant d
