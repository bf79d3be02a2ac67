use Rattle.std.proofs.Common.{◌≡◌, ap, ◌∙◌, sym, arith}
use Rattle.std.proofs.ByRecursion.{All-weaker}
use Rattle.bits.specs.Matrix.{pair}
use Rattle.engine.specs.declared.index.End.TheVariants.{Target}
use Rattle.engine.specs.Columns.{Woken}
use Rattle.engine.proofs.Gathering.{changed_more}
use Rattle.engine.proofs.Places.{placed_more, placed_all, place_at}
use Rattle.engine.proofs.settling.Indexed+L+L+Predicate.wake.Goals as goal

pub loop-entry-preserved : goal.loop-entry-preserved
loop-entry-preserved g c =
    let xs = c.args.self.now.arrows.now in
    let q = c.args.q in
    let es = c.entries-entry-items.result.now in
    let i = c.loop-entry.entry-index in
    let p = c.from.result in
    let old = c.loop-entry.flags.words in
    let new = c.set.new.self.words in
    let r = place_at Target xs q es c.entries-entry-items.ensures.listed i c.loop-entry-test.true in (
      placed_more (Woken q old) (Woken q new) xs es i c.loop-entry-test.true
          (λ x w to. changed_more old new 0 p c.set.ensures 0 x.source (w to))
          (λ d _. ap (pair new 0) (r.2 d ∙ sym c.from.ensures) ∙ c.set.ensures.here)
          c.loop-entry.invariant.0,
      λ k on. changed_more old new 0 p c.set.ensures 0 k (c.loop-entry.invariant.1 k on),
    )

pub returns-clause-woken : goal.returns-clause-woken
returns-clause-woken g c =
    let W = Woken c.args.q c.loop-entry.flags.words in
    All-weaker (λ x. x.target ≡ c.args.q → W x) W (λ x w e. w e e) c.args.self.now.arrows.now
    (placed_all Target c.args.self.now.arrows.now c.args.q c.entries-entry-items.result.now c.entries-entry-items.ensures.listed W c.loop-entry.entry-index (omega arith) c.loop-entry.invariant.0)
