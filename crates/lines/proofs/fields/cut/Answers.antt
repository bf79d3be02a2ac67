use Rattle.std.proofs.Common.{◌≡◌, rules}
use borrow.Author.Tests.{tests}
use Rattle.std.proofs.lemmas.Iterator.{IsFirst-from_position, YieldsList-from_slice}
use Rattle.lines.proofs.Parts.{parted_from_first}
use Rattle.lines.proofs.fields.cut.Goals as goal

pub returns : goal.returns
returns c =
    parted_from_first c.args.by c.args.text.now c.in_ok-i.i
    (IsFirst-from_position _ _ _ (λ x. x ≡ c.args.by) (λ x. x ≡ c.args.by → ⊥) c.in_ok-i.ensures.ran (YieldsList-from_slice c.args.text.now cc) (λ x q k. search (rules, tests)) (λ x q k. search (rules, tests)))
