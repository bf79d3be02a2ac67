use Rattle.std.proofs.Common.{◌≡◌, ℕ, ◌<◌, length, get_or, refl, arith, rules, tests}
use Rattle.std.proofs.ByRecursion.{All-weaker}
use Rattle.bits.specs.Matrix.{pair}
use Rattle.automata.specs.declared.Mark.TheVariants.{Neither}
use Rattle.automata.specs.Automata.{automaton, mark_is_start, mark_accepts, Within}
use Rattle.engine.proofs.Filling.{marked}
use Rattle.engine.proofs.Stepping.{tested_none, tested_more, tested_all, reads_within, alive_last}
use Rattle.engine.proofs.words.accepts.Goals as goal

pub loop-value-init : goal.loop-value-init
loop-value-init g c =
    let marks = c.args.marks.now in
    let live = c.states-live.result.words in
    let first : (q : ℕ) → q < length marks → pair live 0 q ≡ mark_is_start (get_or marks q Neither) = λ q h. let t = c.states-live.ensures.tested q h in search (rules, tests) in
    tested_none (automaton (g.L.LabelAlgebra.holds c.args.labels.now) marks c.args.arrows.now) c.args.word.now live (marked mark_is_start marks live refl first c.states-live.ensures.past)

pub step-live-requires : goal.step-live-requires
step-live-requires g c =
    let n = length c.args.marks.now in
    All-weaker (Within n) (Within 256) (λ x w. (omega (arith, c.requires.states), omega (arith, c.requires.states))) c.args.arrows.now c.requires.within

pub loop-value-preserved : goal.loop-value-preserved
loop-value-preserved g c =
    let h = g.L.LabelAlgebra.holds c.args.labels.now in
    let marks = c.args.marks.now in
    let xs = c.args.arrows.now in
    let a = c.value-item.result in
    tested_more (automaton h marks xs) c.args.word.now c.loop-value.live.words c.step-live.result.words c.loop-value.value-index a c.loop-value-test.true c.value-item.is (reads_within h marks xs c.requires.within a)
    c.step-live.ensures c.loop-value.invariant

pub returns : goal.returns
returns g c =
    let h = g.L.LabelAlgebra.holds c.args.labels.now in
    let marks = c.args.marks.now in
    let xs = c.args.arrows.now in
    let live = c.loop-value.live.words in
    let last = c.states.result.words in
    let some : (q : ℕ) → q < length marks → pair last 0 q ≡ mark_accepts (get_or marks q Neither) = λ q h. let t = c.states.ensures.tested q h in search (rules, tests) in
    tested_all (automaton h marks xs) c.args.word.now live c.loop-value.value-index c.meets.result c.loop-value-test.false c.loop-value.invariant
    (alive_last h marks xs live last c.meets.result some c.states.ensures.past c.meets.ensures)
