use Rattle.std.proofs.Common.{◌≡◌, ◌≤◌, map, length, take, sym, ap, ◌∙◌, arith, tests}
use Rattle.automata.specs.Automata.{automaton}
use Rattle.automata.specs.declared.Mark.TheVariants.{Neither}
use Rattle.automata.specs.Simulation.{Greatest}
use Rattle.automata.specs.Minimal.{Minimal}
use Rattle.bits.specs.Bit.{bit}
use Rattle.bits.specs.Matrix.{pair}
use Rattle.bits.proofs.Pairs.{written_whole}
use Rattle.reduction.specs.Filled.{Filled, Crowded}
use Rattle.exported.specs.Foreign.{mark_of, arrow_of, code_of, rule_of, book_of}
use Rattle.exported.proofs.Books.{blank, blank_arrow, moved, bounded_are, crowded_are, crowded_less, marks_long, arrows_long, made_are}
use Rattle.exported.proofs.Copies.{made_map}
use Rattle.exported.proofs.worsklif_reduce.Goals as goal

pub reduce-requires-clause-source : goal.reduce-requires-clause-source
reduce-requires-clause-source c =
    let fits = c.is_book.ensures.fits c.if-not-is_book.false in
    let codes = c.args.codes.now in
    let rules = c.args.rules.now in
    let m : take (length codes) c.write.new.into ≡ map mark_of codes = made_map mark_of 0 codes c.write.new.into (omega (arith, fits.0, c.write.auto.into)) (λ k d e lt. let h = c.write.ensures.made k d e lt in search (rules, tests)) in
    let x : take (length rules) c.write-2.new.into ≡ map arrow_of rules = made_map arrow_of blank rules c.write-2.new.into (omega (arith, fits.1, c.write-2.auto.into)) (λ k d e lt. let h = c.write-2.ensures.made k d e lt in search (rules, tests)) in
    bounded_are codes rules c.write.new.into c.write-2.new.into m x (c.is_book.ensures.bounded.0 c.if-not-is_book.false)

pub returns-in_default-clause-refused : goal.returns-in_default-clause-refused
returns-in_default-clause-refused c _ _ _ =
    let fits = c.is_book.ensures.fits c.if-not-is_book.false in
    let codes = c.args.codes.now in
    let rules = c.args.rules.now in
    let m : take (length codes) c.write.new.into ≡ map mark_of codes = made_map mark_of 0 codes c.write.new.into (omega (arith, fits.0, c.write.auto.into)) (λ k d e lt. let h = c.write.ensures.made k d e lt in search (rules, tests)) in
    let x : take (length rules) c.write-2.new.into ≡ map arrow_of rules = made_map arrow_of blank rules c.write-2.new.into (omega (arith, fits.1, c.write-2.auto.into)) (λ k d e lt. let h = c.write-2.ensures.made k d e lt in search (rules, tests)) in
    let at = moved codes rules c.write.new.into c.write-2.new.into m x in
    let K = pair c.args.rows.now in
    crowded_less (book_of codes rules) K (length c.args.into_rules.now) (at (λ y z. Crowded (automaton bit y z) K 8192) c.in_default.ensures.made)

pub returns-then-into_rules-used-clause-refused : goal.returns-then-into_rules-used-clause-refused
returns-then-into_rules-used-clause-refused c _ _ _ =
    let fits = c.is_book.ensures.fits c.if-not-is_book.false in
    let codes = c.args.codes.now in
    let rules = c.args.rules.now in
    let m : take (length codes) c.write.new.into ≡ map mark_of codes = made_map mark_of 0 codes c.write.new.into (omega (arith, fits.0, c.write.auto.into)) (λ k d e lt. let h = c.write.ensures.made k d e lt in search (rules, tests)) in
    let x : take (length rules) c.write-2.new.into ≡ map arrow_of rules = made_map arrow_of blank rules c.write-2.new.into (omega (arith, fits.1, c.write-2.auto.into)) (λ k d e lt. let h = c.write-2.ensures.made k d e lt in search (rules, tests)) in
    let at = moved codes rules c.write.new.into c.write-2.new.into m x in
    let K = pair c.args.rows.now in
    let n = c.in-Some.counts in
    let r = c.reduce.new in
    let f = at (λ y z. Filled bit (automaton bit y z) K n.states n.arrows r.into_marks r.into_arrows r.into_rows) c.in-Some.ensures.made in
    crowded_are (book_of codes rules) K n.states n.arrows r.into_marks r.into_arrows r.into_rows f (length c.args.into_rules.now) c.if-into_rules-used.true

pub returns-clause-made : goal.returns-clause-made
returns-clause-made c _ =
    let fits = c.is_book.ensures.fits c.if-not-is_book.false in
    let codes = c.args.codes.now in
    let rules = c.args.rules.now in
    let m : take (length codes) c.write.new.into ≡ map mark_of codes = made_map mark_of 0 codes c.write.new.into (omega (arith, fits.0, c.write.auto.into)) (λ k d e lt. let h = c.write.ensures.made k d e lt in search (rules, tests)) in
    let x : take (length rules) c.write-2.new.into ≡ map arrow_of rules = made_map arrow_of blank rules c.write-2.new.into (omega (arith, fits.1, c.write-2.auto.into)) (λ k d e lt. let h = c.write-2.ensures.made k d e lt in search (rules, tests)) in
    let at = moved codes rules c.write.new.into c.write-2.new.into m x in
    let M = book_of codes rules in
    let K = pair c.args.rows.now in
    let n = c.in-Some.counts in
    let marks = c.reduce.new.into_marks in
    let arrows = c.reduce.new.into_arrows in
    let rows = c.reduce.new.into_rows in
    let f = at (λ y z. Filled bit (automaton bit y z) K n.states n.arrows marks arrows rows) c.in-Some.ensures.made in
    let least = at (λ y z. Greatest (automaton bit y z) K → Minimal (automaton bit y z) (automaton bit (take n.states marks) (take n.arrows arrows)) (pair rows) n.arrows) c.in-Some.ensures.least in
    let roomy = c.is_roomy.ensures.0 c.if-not-is_roomy.false in
    let long = marks_long M K n.states n.arrows marks arrows rows f in
    let long' = arrows_long M K n.states n.arrows marks arrows rows f in
    let rc : n.states ≤ length c.write-3.new.into = omega (arith, f.states_fit, c.reduce.auto.into_marks, c.write-3.auto.into, roomy.states) in
    let rr : n.arrows ≤ length c.write-4.new.into = omega (arith, c.if-into_rules-used.false, c.write-4.auto.into) in
    let cs = made_map code_of Neither (take n.states marks) c.write-3.new.into (omega (arith, long, rc)) (λ k d e lt. let h = c.write-3.ensures.made k d e lt in search (rules, tests)) in
    let rs = made_map rule_of blank_arrow (take n.arrows arrows) c.write-4.new.into (omega (arith, long', rr)) (λ k d e lt. let h = c.write-4.ensures.made k d e lt in search (rules, tests)) in
    rw c.from.ensures (made_are M K n.states n.arrows marks arrows rows f c.write-3.new.into c.write-4.new.into c.put_words.new.rows
    (ap (λ j. take j c.write-3.new.into) (sym long) ∙ cs) (ap (λ j. take j c.write-4.new.into) (sym long') ∙ rs) (sym (written_whole c.put_words.new.rows rows (omega (arith, c.reduce.auto.into_rows, c.put_words.auto.rows, roomy.square)) c.put_words.ensures.here)) rc rr least)
