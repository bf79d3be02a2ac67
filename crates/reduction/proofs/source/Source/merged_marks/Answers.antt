use Rattle.std.proofs.Common.{◌≡◌, ◌<◌, ◌||◌, length, get_or, refl, ap, ap₂, ◌∙◌, arith, length-set}
use Rattle.std.proofs.lemmas.List.{length_push, length-replicate}
use Rattle.std.proofs.lemmas.Slice.Zip.{zip_turn, zip_end}
use Rattle.automata.specs.declared.Mark.TheVariants.{Neither}
use Rattle.automata.specs.Automata.{mark_is_start, mark_accepts}
use Rattle.reduction.proofs.Naming.{unmarked, merged_more, marked_all}
use Rattle.automata.proofs.Book.{initial_mark, accepting_mark}
use Rattle.reduction.proofs.source.Source.merged_marks.Goals as goal

pub loop-name-init : goal.loop-name-init
loop-name-init g c = (λ K _. unmarked K mark_is_start refl _ 256, λ K _. unmarked K mark_accepts refl _ 256, length-replicate 256 Neither)

pub loop-name-preserved : goal.loop-name-preserved
loop-name-preserved g c =
    let names = c.args.names.now in
    let marks = c.args.self.now.marks.now in
    let l = c.loop-name in
    let i = l.invariant in
    let p = length l.yielded in
    let d = c.from-c.result in
    let t = zip_turn names marks l.yielded c.into_iter-name-iterator.result l.name-iterator c.next.new.self c.next.result (cc) (cc) l.yielded_by (c.in-Some.name, c.in-Some.mark) c.in-Some.is c.next.ensures.steps in
    let name : d ≡ get_or names p 0 = c.from-c.ensures ∙ t.2 0 in
    let low : d < length l.merged = omega (arith, name, c.fits-names p, i.2) in (
      rw length_push (merged_more mark_is_start names marks l.merged p d c.new.result c.in-Some.mark.now t.1 name (t.3 Neither) low
          (ap mark_is_start c.new.ensures ∙ initial_mark _ _ ∙ ap₂ (λ a b. a || b) c.is_initial.ensures c.is_initial-in-loop-name.ensures) i.0),
      rw length_push (merged_more mark_accepts names marks l.merged p d c.new.result c.in-Some.mark.now t.1 name (t.3 Neither) low
          (ap mark_accepts c.new.ensures ∙ accepting_mark _ _ ∙ ap₂ (λ a b. a || b) c.is_accepting.ensures c.is_accepting-in-loop-name.ensures) i.1),
      length-set l.merged _ _ ∙ i.2,
    )

pub returns : goal.returns
returns g c =
    let marks = c.args.self.now.marks.now in
    let l = c.loop-name in
    let e = zip_end c.args.names.now marks l.yielded c.into_iter-name-iterator.result l.name-iterator c.next.new.self c.next.result (cc) (cc) l.yielded_by c.in-None.is c.next.ensures.steps in
    let n : length l.yielded ≡ length marks = omega (arith, e, c.told-names, c.args.self.now.few_states) in
    record {
      initial = marked_all mark_is_start c.args.names.now marks l.merged _ n l.invariant.0;
      accepting = marked_all mark_accepts c.args.names.now marks l.merged _ n l.invariant.1;
    }
