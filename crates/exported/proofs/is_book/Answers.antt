use Rattle.std.proofs.Common.{map, length, sym, subst, arith}
use Rattle.std.specs.List.{AllByRecursion}
use Rattle.std.proofs.ByRecursion.{All-map}
use Rattle.std.proofs.lemmas.List.{length-map}
use Rattle.automata.specs.Automata.{Within}
use Rattle.exported.specs.Foreign.{mark_of, arrow_of}
use Rattle.exported.proofs.Copies.{all_unmapped}
use Rattle.exported.proofs.is_book.Goals as goal

pub returns-then-rules-le8192 : goal.returns-then-rules-le8192
returns-then-rules-le8192 c =
    let codes = c.args.codes.now in
    let rules = c.args.rules.now in
    let n = length-map codes mark_of in
    record {
      bounded = (
        λ e. record {
          states = omega (arith, n);
          few = omega (arith, length-map rules arrow_of);
          within = subst (λ k. AllByRecursion (Within k) (map arrow_of rules)) (sym n) (All-map (Within (length codes)) arrow_of rules (c.is_within.ensures.0 e));
        },
        λ b. c.is_within.ensures.1 (all_unmapped (Within (length codes)) arrow_of rules (subst (λ k. AllByRecursion (Within k) (map arrow_of rules)) n b.within)),
      );
      fits = λ _. (omega arith, omega arith);
    }
