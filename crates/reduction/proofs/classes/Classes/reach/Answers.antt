use Rattle.std.proofs.Common.{◌<◌, false, true, length, get_or, ◌∙◌, arith, get_or-set_other, get_or-set_same}
use Rattle.std.proofs.lemmas.List.{length-set, length-replicate}
use Rattle.bits.specs.Matrix.{pair}
use Rattle.bits.proofs.Pairs.{get_or_blank}
use Rattle.reduction.specs.Sorted.{book_of, kept_of, pruned_of}
use Rattle.reduction.proofs.Walking.{walking_none, walking_more, walked_stays, walked_told, fewer_left}
use Rattle.reduction.proofs.Whole.{listed_is}
use Rattle.reduction.proofs.classes.Classes.reach.Goals as goal

pub loop-c-init : goal.loop-c-init
loop-c-init g c =
    let s = c.args.self.now in
    (walking_none _ _ _ _ (λ d h. c.starting-stays.ensures d (omega (arith, h, s.book.few_states)) ∙ s.initial d h) (λ d. get_or_blank 256 d false) c.empty-links.ensures, length-replicate 256 false)

pub loop-c-preserved : goal.loop-c-preserved
loop-c-preserved g c =
    let s = c.args.self.now in
    let M = pruned_of s.book in
    let l = c.loop-c in
    let d = c.in-Some.c in
    let f = c.in-Some.ensures in
    let lt : d < length l.done = omega (arith, f.0, s.book.few_states, l.invariant.1) in (
      walking_more M (λ e. get_or l.stays e false) (λ e. get_or l.done e false) (λ e. get_or c.link.new.reached e false) _ (pair l.links.words) (pair c.link.new.links.words) d f.0 f.1
          (get_or-set_same l.done d true false lt) (λ i ne. get_or-set_other l.done d i true false ne) c.link.ensures.others c.link.ensures.tells c.link.ensures.grown l.invariant.0,
      length-set l.done d true ∙ l.invariant.1,
    )

pub loop-c-smaller : goal.loop-c-smaller
loop-c-smaller g c =
    let b = c.args.self.now.book in
    let f = c.in-Some.ensures in
    fewer_left c.loop-c.done (length b.marks.now) c.in-Some.c f.0 (omega (arith, f.0, b.few_states, c.loop-c.invariant.1)) f.2

pub returns : goal.returns
returns g c =
    let b = c.args.self.now.book in
    let M = pruned_of b in
    let told = walked_told M _ _ (pair c.loop-c.links.words) c.in_default.ensures c.loop-c.invariant.0 in
    record {
      told = told;
      named = c.of.ensures ∙ listed_is (book_of b) (kept_of b) (pair c.loop-c.links.words) told _ (walked_stays M _ _ _ c.in_default.ensures c.loop-c.invariant.0);
    }
