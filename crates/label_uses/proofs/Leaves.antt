-- A fact on every symbol of a sum three deep is one on the symbols of each leaf.
use Rattle.labels.specs.declared.sum.Either.{Either}
use Rattle.labels.specs.declared.sum.Either.TheVariants.{Left, Right}

pub on_leaves : {A B C D : Type 0} (P : Either (Either (Either A B) C) D → Type 0)
    → ((x : A) → P (Left (Left (Left x)))) → ((x : B) → P (Left (Left (Right x)))) → ((x : C) → P (Left (Right x))) → ((x : D) → P (Right x))
    → (v : Either (Either (Either A B) C) D) → P v
on_leaves P a b c d (Left (Left (Left x))) = a x
on_leaves P a b c d (Left (Left (Right x))) = b x
on_leaves P a b c d (Left (Right x)) = c x
on_leaves P a b c d (Right x) = d x
