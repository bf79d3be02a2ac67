use Rattle.labels.specs.declared.sum.Either.TheVariants.{Left, Right}
use Rattle.label_uses.proofs.Leaves.{on_leaves}
use Rattle.label_uses.proofs.is_within_leaves.Goals as goal

pub returns : goal.returns
returns c =
    let within = c.is_within.ensures in (
      λ t. record {
        first = λ x. within.0 t (Left (Left (Left x)));
        second = λ x. within.0 t (Left (Left (Right x)));
        third = λ x. within.0 t (Left (Right x));
        fourth = λ x. within.0 t (Right x);
      },
      λ w. within.1 (on_leaves _ w.first w.second w.third w.fourth),
    )
