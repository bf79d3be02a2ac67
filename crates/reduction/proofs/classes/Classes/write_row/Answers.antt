use Rattle.std.proofs.Common.{◌≡◌, ◌<◌, true, length, get_or, sym, refl, ap, ap₂, ◌∙◌, subst, arith}
use Rattle.bits.specs.Matrix.{pair}
use Rattle.reduction.specs.Sorted.{pruned_of}
use Rattle.reduction.specs.Drawn.{linked_at, reads_at}
use Rattle.reduction.proofs.Listing.{so_far_none, so_far_more, so_far_skip, so_far_all, so_far_room}
use Rattle.reduction.proofs.classes.Classes.write_row.Goals as goal
use Rattle.reduction.proofs.classes.Classes.write_row.Goals.{then-keeps, else-keeps}

pub loop-j-init : goal.loop-j-init
loop-j-init g c = so_far_none _ _ _ _ _ _ _ c.requires.before

pub bounds-into-used : goal.bounds-into-used
bounds-into-used g c =
    let l = c.loop-j in
    let s = c.args.reached.now.staying in
    let K = pair c.args.reached.now.links.words in
    let is = c.list-staying.ensures.listed in
    let on : K (get_or s c.args.i 0) (get_or s l.j 0) ≡ true = sym (c.keeps.ensures ∙ ap₂ K (c.from-c.ensures ∙ ap (λ x. get_or x c.args.i 0) is) (c.from-d.ensures ∙ ap (λ x. get_or x l.j 0) is)) ∙ c.if-keeps.true in
    so_far_room _ _ (linked_at K s) (length s) c.args.i l.j l.used l.into (length l.into) on (subst (λ x. l.j < length x) is c.loop-j-test.true) (omega (arith, c.requires.room, l.auto.into)) l.invariant

pub loop-j-preserved : goal.loop-j-preserved
loop-j-preserved g c =
    let b = c.args.self.now.book in
    let h = g.L.LabelAlgebra.holds b.labels.now in
    let s = c.args.reached.now.staying in
    let F = reads_at (pruned_of b).reads s in
    let K = pair c.args.reached.now.links.words in
    let R = linked_at K s in
    let n = length s in
    let i = c.args.i in
    let l = c.loop-j in
    let is = c.list-staying.ensures.listed in
    let from : c.from-c.result ≡ get_or s i 0 = c.from-c.ensures ∙ ap (λ x. get_or x i 0) is in
    let to : c.from-d.result ≡ get_or s l.j 0 = c.from-d.ensures ∙ ap (λ x. get_or x l.j 0) is in
    let here : c.keeps.result ≡ R i l.j = c.keeps.ensures ∙ ap₂ K from to in
    elim c.if-keeps.branch [
      | then-keeps w ↦
          let on : R i l.j ≡ true = sym here ∙ w.if-keeps.true in
          let room = so_far_room h F R n i l.j l.used l.into (length l.into) on (subst (λ x. l.j < length x) is c.loop-j-test.true) (omega (arith, c.requires.room, l.auto.into)) l.invariant in
          rw (w.used-is, w.into-is) (so_far_more h F R n i l.j l.used l.into _ w.pruned.result on room refl (λ v. w.pruned.ensures v ∙ ap₂ (λ x y. (pruned_of b).reads x v y) from to) l.invariant)
      | else-keeps w ↦ rw (w.used-is, w.into-is) (so_far_skip h F R n i l.j l.used l.into (sym here ∙ w.if-keeps.false) l.invariant)
    ]

pub returns : goal.returns
returns g c = so_far_all _ _ _ _ c.args.i c.loop-j.j c.loop-j.used c.loop-j.into (omega (arith, c.loop-j-test.false, c.loop-j.auto.j-end, ap length c.list-staying.ensures.listed)) c.loop-j.invariant
