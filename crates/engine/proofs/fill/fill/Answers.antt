use Rattle.std.proofs.Common.{◌≡◌, ℕ, ◌<◌, true, length, get_or, sym, ◌∙◌, rules, tests}
use Rattle.bits.specs.Matrix.{pair}
use Rattle.automata.specs.declared.Mark.TheVariants.{Neither}
use Rattle.automata.specs.Automata.{mark_accepts}
use Rattle.engine.proofs.Filling.{row_of, filled_more, filled_all, allowed_accepting, allowed_other}
use Rattle.engine.proofs.fill.fill.Goals as goal
use Rattle.engine.proofs.fill.fill.Goals.{then-is_accepting, else-is_accepting}

pub loop-p-preserved : goal.loop-p-preserved
loop-p-preserved c =
    let marks = c.args.marks.now in
    let n = length marks in
    let p = c.loop-p.p in
    let all = c.states-all.result.words in
    let accepting = c.states-accepting.result.words in
    let any : (q : ℕ) → q < n → pair all 0 q ≡ true = λ q h. let t = c.states-all.ensures.tested q h in search (rules, tests) in
    let some : (q : ℕ) → q < n → pair accepting 0 q ≡ mark_accepts (get_or marks q Neither) = λ q h. let t = c.states-accepting.ensures.tested q h in search (rules, tests) in
    filled_more marks c.loop-p.rows.words c.put_row.new.self.words c.if-is_accepting.above.words p c.loop-p.invariant c.put_row.ensures.here
    (elim c.if-is_accepting.branch [
      | then-is_accepting w ↦ rw w.above-is (λ q. row_of (λ j. mark_accepts (get_or marks j Neither)) accepting n some c.states-accepting.ensures.past q
          ∙ allowed_accepting marks p q c.loop-p-test.true (sym c.is_accepting.ensures ∙ w.if-is_accepting.true))
      | else-is_accepting w ↦ rw w.above-is (λ q. row_of (λ _. true) all n any c.states-all.ensures.past q ∙ allowed_other marks p q c.loop-p-test.true (sym c.is_accepting.ensures ∙ w.if-is_accepting.false))
    ])
    c.put_row.ensures.others

pub returns : goal.returns
returns c = filled_all c.args.marks.now c.loop-p.rows.words c.loop-p.p c.loop-p-test.false c.loop-p.invariant
