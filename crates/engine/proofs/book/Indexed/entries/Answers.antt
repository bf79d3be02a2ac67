use Rattle.std.proofs.Common.{length, sym, subst, arith}
use Rattle.engine.specs.declared.index.End.TheVariants.{Source, Target}
use Rattle.engine.specs.Indexing.{Listed}
use Rattle.engine.proofs.Places.{places_within, ends_within}
use Rattle.engine.proofs.book.Indexed.entries.Goals as goal

pub returns-in-Source : goal.returns-in-Source
returns-in-Source g c =
    let b = c.args.self.now in
    let xs = b.arrows.now in
    let q = c.args.q in
    let es = c.of.result.now in
    let s = subst (Listed Source xs q) (sym c.of.ensures) (b.left q (omega (arith, b.few))) in
    record { places = places_within Source xs q es s; ends = ends_within Source xs q es s (length b.marks.now) b.within; listed = rw c.in-Source.is s }

pub returns-in-Target : goal.returns-in-Target
returns-in-Target g c =
    let b = c.args.self.now in
    let xs = b.arrows.now in
    let q = c.args.q in
    let es = c.of-in-Target.result.now in
    let s = subst (Listed Target xs q) (sym c.of-in-Target.ensures) (b.entered q (omega (arith, b.few))) in
    record { places = places_within Target xs q es s; ends = ends_within Target xs q es s (length b.marks.now) b.within; listed = rw c.in-Target.is s }
