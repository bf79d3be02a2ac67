use Rattle.std.proofs.Common.{◌≡◌, ℕ, ◌<◌, ◌≤◌, true, false, ◌⊎◌, length, sym, refl, subst, arith}
use Rattle.bits.specs.Matrix.{pair}
use Rattle.bits.proofs.Pairs.{written_whole}
use Rattle.automata.specs.Automata.{automaton}
use Rattle.automata.specs.Simulation.{Wide, Greatest, Keeps}
use Rattle.automata.specs.Below.{pairs}
use Rattle.automata.proofs.Simulations.{simulations}
use Rattle.engine.specs.Columns.{machine, Answered}
use Rattle.engine.proofs.Settled.{filled_wide, greatest, settled_empty}
use Rattle.engine.proofs.settling.settle.Goals as goal

pub sweep-requires : goal.sweep-requires
sweep-requires g c =
    let h = g.L.LabelAlgebra.holds c.args.labels.now in
    let b = c.new-book.result in
    let e = c.new-book.ensures in
    let same : machine g.L.LabelAlgebra.holds b ≡ automaton h c.args.marks.now c.args.arrows.now = rw (e.labels, e.marks, e.arrows) refl in
    subst (λ M. Wide M (pair c.fill.new.rows.words)) (sym same) (filled_wide h c.args.marks.now c.args.arrows.now c.fill.new.rows.words c.fill.ensures)

pub returns : goal.returns
returns g c =
    let h = g.L.LabelAlgebra.holds c.args.labels.now in
    let marks = c.args.marks.now in
    let xs = c.args.arrows.now in
    let M = automaton h marks xs in
    let b = c.new-book.result in
    let e = c.new-book.ensures in
    let same : machine g.L.LabelAlgebra.holds b ≡ M = rw (e.labels, e.marks, e.arrows) refl in
    let first = c.fill.new.rows.words in
    let last = c.sweep.new.rows.words in
    let s = c.sweep.ensures in
    let settled = greatest h marks xs first c.fill.ensures last s.fewer (subst (λ M. Wide M (pair last)) same s.wide)
    (subst (λ M. (p q : ℕ) → q < M.size → pair last p q ≡ true → Answered M (pair last) p q) same s.answered) in
    let written : last ≡ c.put_words.new.rows = written_whole c.put_words.new.rows last (omega (arith, c.sweep.new.rows.whole, c.put_words.auto.rows, c.requires.rows)) c.put_words.ensures.here in
    record {
      keeps = subst (λ ws. Keeps M (pair ws)) written (((simulations _).keeps M (pair last)).0 settled);
      greatest = subst (λ ws. Greatest M (pair ws)) written settled;
      empty = subst (λ ws. (p q : ℕ) → (length marks ≤ p) ⊎ (length marks ≤ q) → pair ws p q ≡ false) written (settled_empty marks first last c.fill.ensures s.fewer);
      count = subst (λ ws. c.count.result ≡ pairs (pair ws) (length marks)) written (subst (λ ms. c.count.result ≡ pairs (pair last) (length ms)) e.marks c.count.ensures);
    }
