use Rattle.std.proofs.Common.{ap, inl, inr, ◌∙◌, arith, rules}
use Rattle.std.proofs.lemmas.Bool.{cases_eq, eq-eqb, ne_eqb}
use Rattle.bits.specs.Bit.{bit}
use Rattle.bits.proofs.Words.{bit_zero}
use Rattle.bits.proofs.Lows.{lowest_bit}
use Rattle.bits.proofs.lowest.Goals as goal

pub returns : goal.returns
returns c = elim (cases_eq c.args.word 0) [
  | inl e ↦ rw (c.then_some.ensures, eq-eqb c.args.word 0 e) (λ k. ap (λ n. bit n k) e ∙ bit_zero k)
  | inr ne ↦ rw (c.then_some.ensures, ne_eqb c.args.word 0 ne) (lowest_bit c.args.word (omega arith) (search rules))
]
