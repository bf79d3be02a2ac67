use Rattle.std.proofs.Common.{◌≡◌, map, length, take, sym, arith, length-take-le, rules, tests}
use Rattle.exported.specs.Foreign.{mark_of, arrow_of}
use Rattle.exported.proofs.Books.{blank, bounded_are, settled_are}
use Rattle.exported.proofs.Copies.{made_map}
use Rattle.exported.proofs.worsklif_settle.Goals as goal

pub slice_bounds-settle-end : goal.slice_bounds-settle-end
slice_bounds-settle-end c = sym (length-take-le _ c.write-2.new.into (let fits = c.is_book.ensures.fits c.if-not-is_book.false in omega (arith, fits.1, c.write-2.auto.into)))

pub slice_bounds-settle-end-2 : goal.slice_bounds-settle-end-2
slice_bounds-settle-end-2 c = sym (length-take-le _ c.write.new.into (let fits = c.is_book.ensures.fits c.if-not-is_book.false in omega (arith, fits.0, c.write.auto.into)))

pub settle-number-requires-clause-within : goal.settle-number-requires-clause-within
settle-number-requires-clause-within c =
    let fits = c.is_book.ensures.fits c.if-not-is_book.false in
    let codes = c.args.codes.now in
    let rules = c.args.rules.now in
    let m : take (length codes) c.write.new.into ≡ map mark_of codes = made_map mark_of 0 codes c.write.new.into (omega (arith, fits.0, c.write.auto.into)) (λ k d e lt. let h = c.write.ensures.made k d e lt in search (rules, tests)) in
    let x : take (length rules) c.write-2.new.into ≡ map arrow_of rules = made_map arrow_of blank rules c.write-2.new.into (omega (arith, fits.1, c.write-2.auto.into)) (λ k d e lt. let h = c.write-2.ensures.made k d e lt in search (rules, tests)) in
    (bounded_are codes rules c.write.new.into c.write-2.new.into m x (c.is_book.ensures.bounded.0 c.if-not-is_book.false)).within

pub returns-clause-settled : goal.returns-clause-settled
returns-clause-settled c _ =
    let fits = c.is_book.ensures.fits c.if-not-is_book.false in
    let codes = c.args.codes.now in
    let rules = c.args.rules.now in
    let m : take (length codes) c.write.new.into ≡ map mark_of codes = made_map mark_of 0 codes c.write.new.into (omega (arith, fits.0, c.write.auto.into)) (λ k d e lt. let h = c.write.ensures.made k d e lt in search (rules, tests)) in
    let x : take (length rules) c.write-2.new.into ≡ map arrow_of rules = made_map arrow_of blank rules c.write-2.new.into (omega (arith, fits.1, c.write-2.auto.into)) (λ k d e lt. let h = c.write-2.ensures.made k d e lt in search (rules, tests)) in
    let e = c.settle-number.ensures in
    settled_are codes rules c.write.new.into c.write-2.new.into m x c.settle-number.new.rows c.settle-number.result e.keeps e.greatest e.empty e.count

pub returns-clause-refused : goal.returns-clause-refused
returns-clause-refused c none = absurd (none (record { book = c.is_book.ensures.bounded.0 c.if-not-is_book.false; square = search rules }))
