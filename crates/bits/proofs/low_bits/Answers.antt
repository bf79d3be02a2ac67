use Rattle.std.proofs.Common.{◌≡◌, ◌+◌, ◌%◌, ◌^◌, ap, ◌∙◌, arith, rules}
use Rattle.bits.specs.Bit.{bit}
use Rattle.bits.proofs.Lows.{low_mask, bit_low, word_mod}
use Rattle.bits.proofs.low_bits.Goals as goal

pub returns-then-last-lt63 : goal.returns-then-last-lt63
returns-then-last-lt63 c =
    let n = c.args.last + 1 in
    let e = low_mask c.args.word n (omega arith) in
    record { value = e; bits = λ k. ap (λ m. bit m k) e ∙ bit_low n c.args.word k }

pub returns-else-last-lt63 : goal.returns-else-last-lt63
returns-else-last-lt63 c =
    let n = c.args.last + 1 in
    let e : c.args.word ≡ c.args.word % 2 ^ n = word_mod c.args.word n (search rules) (omega arith) in
    record { value = e; bits = λ k. ap (λ m. bit m k) e ∙ bit_low n c.args.word k }
