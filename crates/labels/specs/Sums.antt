-- A test on the symbols of a sum: on each side the test of that side.
use Rattle.std.specs.Prelude.{Bool}
use Rattle.labels.specs.declared.sum.Either.{Either}
use Rattle.labels.specs.declared.sum.Either.TheVariants.{Left, Right}

abbrev pub either : {V W : Type 0} → (V → Bool) → (W → Bool) → Either V W → Bool
either f g (Left x) = f x
either f g (Right y) = g y
