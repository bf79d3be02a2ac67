use Rattle.std.proofs.Common.{◌≡◌, ℕ, ◌<◌, true, arith, rules, tests}
use Rattle.std.proofs.lemmas.Bool.{both_ways}
use Rattle.bits.specs.Matrix.{pair}
use Rattle.engine.specs.Columns.{size}
use Rattle.engine.proofs.settling.Indexed+L+L+Predicate.sweep.Goals as goal

pub loop-q-init : goal.loop-q-init
loop-q-init g c =
    let flags = c.states-flags.result.words in
    let all : (q : ℕ) → q < size c.args.self.now → pair flags 0 q ≡ true = λ q h. let t = c.states-flags.ensures.tested q h in search (rules, tests) in
    ((λ i j e. e), c.requires, (λ q hq off. absurd (both_ways (pair flags 0 q) off (all q hq))), omega arith)

pub loop-q-preserved : goal.loop-q-preserved
loop-q-preserved g c =
    let inv = c.loop-q.invariant in
    let e = c.visit.ensures in
    ((λ i j k. inv.0 i j (e.fewer i j k)), e.wide, e.quiet, omega (arith, c.in-Some.ensures.0))
