use Rattle.std.proofs.Common.{◌≡◌, ◌^◌, ◌<◌, Some, get_or, length, sym, ap, ◌∙◌, arith}
use Rattle.std.proofs.lemmas.List.{get_or-take}
use Rattle.written.specs.Hex.{hex_value}
use Rattle.written.specs.Texts.{reads_word}
use Rattle.written.specs.Hexes.{read_more, read_stop, digits_fit, word_fits, value_below}
use Rattle.written.proofs.hex.read_word.Goals as goal

pub overflow_mul-predicate : goal.overflow_mul-predicate
overflow_mul-predicate c =
    let below : c.loop-byte.byte-index < 16 = omega (arith, c.in_ok-byte-items.ensures.lookup, c.loop-byte-test.true) in
    omega (arith, word_fits c.loop-byte.byte-index c.loop-byte.predicate 0 below c.loop-byte.invariant.fits (omega arith))

pub overflow_add-predicate : goal.overflow_add-predicate
overflow_add-predicate c =
    let below : c.loop-byte.byte-index < 16 = omega (arith, c.in_ok-byte-items.ensures.lookup, c.loop-byte-test.true) in
    let small = value_below (get_or c.in_ok-byte-items.byte-items.now c.loop-byte.byte-index 0) c.in_ok-value.field-0 (sym c.in_ok-value.ensures) in
    omega (arith, c.from.ensures, word_fits c.loop-byte.byte-index c.loop-byte.predicate c.in_ok-value.field-0 below c.loop-byte.invariant.fits small)

pub returns-in_err-value : goal.returns-in_err-value
returns-in_err-value c =
    let i = c.loop-byte.byte-index in
    let bytes = c.args.bytes.now in
    let below : i < 16 = omega (arith, c.in_ok-byte-items.ensures.lookup, c.loop-byte-test.true) in
    let within : i < length bytes = omega (arith, c.in_ok-byte-items.ensures.lookup, below) in
    let here = ap (λ xs. get_or xs i 0) c.in_ok-byte-items.ensures.lookup.0.2 ∙ get_or-take 16 bytes i 0 below in
    c.from_residual-in_err-value.ensures
    ∙ ap (reads_word (2 ^ 64)) (sym (c.loop-byte.invariant.read ∙ read_stop i c.loop-byte.predicate bytes below within (ap hex_value (sym here) ∙ sym c.in_err-value.ensures)))

pub loop-byte-preserved : goal.loop-byte-preserved
loop-byte-preserved c =
    let i = c.loop-byte.byte-index in
    let bytes = c.args.bytes.now in
    let below : i < 16 = omega (arith, c.in_ok-byte-items.ensures.lookup, c.loop-byte-test.true) in
    let within : i < length bytes = omega (arith, c.in_ok-byte-items.ensures.lookup, below) in
    let here = ap (λ xs. get_or xs i 0) c.in_ok-byte-items.ensures.lookup.0.2 ∙ get_or-take 16 bytes i 0 below in
    let digit : hex_value (get_or bytes i 0) ≡ Some c.from.result = ap hex_value (sym here) ∙ sym c.in_ok-value.ensures ∙ ap Some (sym c.from.ensures) in
    record {
      fits = digits_fit i c.loop-byte.predicate c.from.result c.loop-byte.invariant.fits (value_below (get_or bytes i 0) c.from.result digit);
      read = c.loop-byte.invariant.read ∙ read_more i c.loop-byte.predicate c.from.result bytes below within digit;
    }
