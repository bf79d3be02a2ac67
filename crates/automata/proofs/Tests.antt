-- Facts on tests. Assumes nothing.
use Rattle.std.proofs.Common.{◌≡◌, Bool, true, false, ◌&&◌, ◌||◌, T, ◌⊎◌, sym, refl, subst, inl, inr}

pub both : (a b : Bool) → T a → T b → T (a && b)
both true b x y = y
both false b x y = x

and_l : (a b : Bool) → T (a && b) → T a
and_l true b t = tt
and_l false b t = t

and_r : (a b : Bool) → T (a && b) → T b
and_r true b t = t
and_r false b t = absurd t

pub parts : (a b : Bool) → T (a && b) → T a × T b
parts a b t = (and_l a b t, and_r a b t)

pub or_l : (a b : Bool) → T a → T (a || b)
or_l true b t = tt
or_l false b t = absurd t

pub or_r : (a b : Bool) → T b → T (a || b)
or_r true b t = tt
or_r false b t = t

pub ways : (a b : Bool) → T (a || b) → T a ⊎ T b
ways true b t = inl tt
ways false b t = inr t

pub test : (b : Bool) → T b ⊎ (T b → ⊥)
test true = inl tt
test false = inr (λ t. t)

pub unless : (b : Bool) → ((T b → ⊥) → ⊥) → T b
unless true f = tt
unless false f = f (λ t. t)

-- two tests that pass together are one
pub T_same : (a b : Bool) → (T a → T b) → (T b → T a) → a ≡ b
T_same true true f g = refl
T_same true false f g = absurd (f tt)
T_same false true f g = absurd (g tt)
T_same false false f g = refl

pub forth : {a b : Bool} → a ≡ b → T a → T b
forth e t = subst T e t

pub back : {a b : Bool} → a ≡ b → T b → T a
back e t = subst T (sym e) t
