use Rattle.std.proofs.Common.{length, take, sym, subst, arith}
use Rattle.automata.specs.Automata.{automaton}
use Rattle.automata.specs.Simulation.{Greatest}
use Rattle.automata.specs.Minimal.{Minimal}
use Rattle.bits.specs.Matrix.{pair}
use Rattle.bits.proofs.Pairs.{written_whole}
use Rattle.reduction.specs.Filled.{Filled, Crowded}
use Rattle.reduction.proofs.reduce.Goals as goal

pub returns-in_err-counts-clause-made : goal.returns-in_err-counts-clause-made
returns-in_err-counts-clause-made g c =
    let M = automaton (g.L.LabelAlgebra.holds c.args.labels.now) c.args.marks.now c.args.arrows.now in
    let given = written_whole c.put_words.new.rows c.args.rows.now (omega (arith, c.empty-kept.result.whole, c.put_words.auto.rows, c.requires.rows)) c.put_words.ensures.here in
    rw c.from_residual.ensures (subst (λ ws. Crowded M (pair ws) (length c.args.into_arrows.now)) (sym given) c.in_err-counts.ensures.made)

pub returns : goal.returns
returns g c =
    let h = g.L.LabelAlgebra.holds c.args.labels.now in
    let M = automaton h c.args.marks.now c.args.arrows.now in
    let n = c.in_ok-counts.counts in
    let r = c.reduce_rows.new in
    let target = automaton h (take n.states r.into_marks) (take n.arrows r.into_arrows) in
    let given = written_whole c.put_words.new.rows c.args.rows.now (omega (arith, c.empty-kept.result.whole, c.put_words.auto.rows, c.requires.rows)) c.put_words.ensures.here in
    let order = written_whole c.put_words-2.new.rows r.into_rows.words (omega (arith, r.into_rows.whole, c.put_words-2.auto.rows, c.requires.target.1)) c.put_words-2.ensures.here in
    record {
      made = subst (λ ws. Filled h M (pair c.args.rows.now) n.states n.arrows r.into_marks r.into_arrows ws) order
          (subst (λ ws. Filled h M (pair ws) n.states n.arrows r.into_marks r.into_arrows r.into_rows.words) (sym given) c.in_ok-counts.ensures.made);
      same = tt;
      least = λ greatest. subst (λ ws. Minimal M target (pair ws) n.arrows) order (c.in_ok-counts.ensures.least (subst (λ ws. Greatest M (pair ws)) given greatest));
    }
