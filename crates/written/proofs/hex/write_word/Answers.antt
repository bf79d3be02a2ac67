use Rattle.std.proofs.Common.{◌≡◌, ◌<◌, ◌-◌, ◌*◌, ◌/◌, ◌%◌, ◌^◌, [], ◌++◌, length, take, drop, set, sym, ap, ◌∙◌, ap₂, arith}
use lib.Bits.{and_mask}
use Rattle.std.proofs.lemmas.List.{append-nil, drop_all, length-take-le, take_all}
use Rattle.written.specs.Hex.{hex_digit, hexes}
use Rattle.written.specs.Hexes.{length-hexes, get_or-hexes, put_more}
use Rattle.written.proofs.hex.write_word.Goals as goal

pub loop-i-preserved : goal.loop-i-preserved
loop-i-preserved c =
    let i = c.loop-i.i in
    let word = c.args.word in
    let was = take 16 c.args.out.now in
    let long : length was ≡ 16 = length-take-le 16 c.args.out.now c.if-out-lt16.false in
    let below : i < 16 = omega (arith, long, c.loop-i-test.true) in
    let place : 60 - 4 * i ≡ 4 * (16 - 1 - i) = omega arith in
    let digit = c.digit.ensures ∙ ap hex_digit (and_mask (word / 2 ^ (60 - 4 * i)) 4 ∙ ap (λ k. word / 2 ^ k % 16) place) ∙ sym (get_or-hexes 16 word i below) in
    ap (λ bs. set bs i c.digit.result) c.loop-i.invariant
    ∙ put_more (hexes 16 word) was i c.digit.result (omega (arith, length-hexes 16 word)) c.loop-i-test.true digit

pub returns : goal.returns
returns c =
    let word = c.args.word in
    let was = take 16 c.args.out.now in
    let long : length was ≡ 16 = length-take-le 16 c.args.out.now c.if-out-lt16.false in
    let whole = take_all c.loop-i.i (hexes 16 word) (omega (arith, long, c.loop-i-test.false, length-hexes 16 word)) in
    let nothing : drop c.loop-i.i was ≡ [] = drop_all c.loop-i.i was c.loop-i-test.false in
    (sym (length-hexes 16 word), ap (λ bs. bs ++ drop 16 c.args.out.now) (c.loop-i.invariant ∙ ap₂ ◌++◌ whole nothing ∙ append-nil (hexes 16 word)))
