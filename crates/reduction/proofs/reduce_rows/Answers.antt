use Rattle.std.proofs.Common.{ℕ, ◌≤◌, min, ◌&&◌, ◌||◌, eqb, ltb, List, length, sym, refl, ap, ◌∙◌, subst, arith}
use Rattle.automata.specs.Below.{table}
use Rattle.automata.specs.Automata.{automaton}
use Rattle.bits.specs.Matrix.{pair}
use Rattle.reduction.specs.Drawn.{linked_at}
use Rattle.reduction.specs.Filled.{Filled, Crowded}
use Rattle.reduction.specs.Sorted.{book_of, kept_of}
use Rattle.reduction.proofs.Listing.{rising_low}
use Rattle.reduction.proofs.Whole.{ends_agree, marks_agree, filled, filled_least}
use Rattle.reduction.proofs.reduce_rows.Goals as goal

pub returns-then-min-count_links-clause-made : goal.returns-then-min-count_links-clause-made
returns-then-min-count_links-clause-made g c =
    let b = c.of-classes.result.book in
    let M = book_of b in
    let K = kept_of b in
    let linked = pair c.reach-reached.result.links.words in
    let st = c.reach-reached.result.staying in
    let stay = c.reach-reached.ensures.named in
    let crowded : Crowded M K (length c.args.into_arrows.now) = λ l t. omega (arith, c.if-min-count_links.true, c.min.ensures, c.count_links.ensures, ap (λ (s : List ℕ). length (table (linked_at linked s) (length s))) stay, ends_agree M K linked l c.reach-reached.ensures.told t) in
    subst (λ s. Crowded (book_of s) (kept_of s) (length c.args.into_arrows.now)) c.of-classes.ensures crowded

made : (g : _) (c : goal.After-len-states g) → Filled (g.L.LabelAlgebra.holds c.args.labels.now) (automaton (g.L.LabelAlgebra.holds c.args.labels.now) c.args.marks.now c.args.arrows.now) (pair c.args.rows.now.words) (length c.reach-reached.result.staying) c.write_arrows-arrows.result c.write_marks.new.into c.write_arrows-arrows.new.into c.write_rows.new.into.words
made g c =
    let s = c.of-classes.result in
    let b = s.book in
    let M = book_of b in
    let K = kept_of b in
    let linked = pair c.reach-reached.result.links.words in
    let told = c.reach-reached.ensures.told in
    let st = c.reach-reached.result.staying in
    let w = c.write_arrows-arrows in
    let fits : length st ≤ length c.write_marks.new.into = omega (arith, c.len-states.ensures.few, c.len-states.ensures.value, c.requires.target, c.write_marks.auto.into) in
    let room : w.result ≤ min (length w.new.into) 8192 = omega (arith, w.ensures.count, w.auto.into, c.count_links.ensures, c.min.ensures, c.if-min-count_links.false) in
    let stay = c.reach-reached.ensures.named in
    let now' = filled (g.L.LabelAlgebra.holds b.labels.now) M K linked told (length st) w.result c.write_marks.new.into w.new.into c.write_rows.new.into.words st stay fits room
    (record {
      size = refl;
      marked = c.write_marks.ensures ∙ marks_agree M K s.marks st s.initial s.accepting (rising_low _ _ st stay);
      drawn = w.ensures;
      kept = λ i j. c.write_rows.ensures i j ∙ ap (λ s. ltb i (length st) && (ltb j (length st) && (eqb i j || linked_at (kept_of s) st i j))) (sym c.of-classes.ensures);
    }) in
    subst (λ s. Filled (g.L.LabelAlgebra.holds s.labels.now) (book_of s) (kept_of s) (length st) w.result c.write_marks.new.into w.new.into c.write_rows.new.into.words) c.of-classes.ensures now'

written : (g : _) (c : goal.After-len-states g) → Filled (g.L.LabelAlgebra.holds c.args.labels.now) (automaton (g.L.LabelAlgebra.holds c.args.labels.now) c.args.marks.now c.args.arrows.now) (pair c.args.rows.now.words) c.len-states.result c.write_arrows-arrows.result c.write_marks.new.into c.write_arrows-arrows.new.into c.write_rows.new.into.words
written g c = subst (λ (n : ℕ). Filled (g.L.LabelAlgebra.holds c.args.labels.now) (automaton (g.L.LabelAlgebra.holds c.args.labels.now) c.args.marks.now c.args.arrows.now) (pair c.args.rows.now.words) n c.write_arrows-arrows.result c.write_marks.new.into c.write_arrows-arrows.new.into c.write_rows.new.into.words) (sym c.len-states.ensures.value) (made g c)

pub returns-clause-made : goal.returns-clause-made
returns-clause-made g c = written g c

pub returns-clause-least : goal.returns-clause-least
returns-clause-least g c greatest =
    filled_least (g.L.LabelAlgebra.holds c.args.labels.now) (automaton (g.L.LabelAlgebra.holds c.args.labels.now) c.args.marks.now c.args.arrows.now) (pair c.args.rows.now.words) c.len-states.result c.write_arrows-arrows.result c.write_marks.new.into c.write_arrows-arrows.new.into c.write_rows.new.into.words greatest (written g c)
