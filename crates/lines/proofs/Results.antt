-- Results of reading, and what they were made of.
use Rattle.std.proofs.Common.{◌≡◌, ℕ, Some, None, Ok, Err, Option, Result, refl, ap, arith}
use Rattle.std.specs.Option.{ok_or}
use Rattle.lines.specs.Texts.{and_then, over, Refuses}
use Rattle.lines.specs.declared.Fault.{Fault}
use Rattle.lines.specs.declared.Refusal.{Refusal}
use Rattle.lines.specs.declared.Refusal.TheVariants as refusal

-- nothing is both
pub clash : {X : Type 0} {Goal : Type 0} (o : Option X) (x : X) → o ≡ None → o ≡ Some x → Goal
clash o x a b = let z : ◌≡◌ {A = ℕ} 0 1 = cc in absurd (omega arith)

pub failed : {X Y : Type 0} {Goal : Type 0} (r : Result X Y) (x : X) (y : Y) → r ≡ Err y → r ≡ Ok x → Goal
failed r x y a b = let z : ◌≡◌ {A = ℕ} 0 1 = cc in absurd (omega arith)

-- what an accepted result was made of
pub record Went {X Y : Type 0} (r : Result X Fault) (more : X → Result Y Fault) (y : Y) : Type 0 where
  pub first : X
  pub was : r ≡ Ok first
  pub so : more first ≡ Ok y

pub went : {X Y : Type 0} (r : Result X Fault) (more : X → Result Y Fault) (y : Y) → and_then r more ≡ Ok y → Went r more y
went (Ok x) more y e = record { first = x; was = refl; so = e }
went (Err f) more y e = failed _ _ _ refl e

pub record Made {X Y : Type 0} (r : Result X Fault) (made : X → Y) (y : Y) : Type 0 where
  pub part : X
  pub was : r ≡ Ok part
  pub so : made part ≡ y

pub made_of : {X Y : Type 0} (r : Result X Fault) (made : X → Y) (y : Y) → over made r ≡ Ok y → Made r made y
made_of (Ok x) made y e = record { part = x; was = refl; so = cc }
made_of (Err f) made y e = failed _ _ _ refl e

pub some_from_ok_or : {X : Type 0} (o : Option X) (f : Fault) (x : X) → ok_or o f ≡ Ok x → o ≡ Some x
some_from_ok_or None f x e = failed _ _ _ refl e
some_from_ok_or (Some y) f x e = let same : y ≡ x = cc in ap Some same

pub none_from_ok_or : {X : Type 0} (o : Option X) (f g : Fault) → ok_or o f ≡ Err g → (o ≡ None) × (f ≡ g)
none_from_ok_or None f g e = (refl, cc)
none_from_ok_or (Some y) f g e = failed _ _ _ e refl

-- what is made of a fault is the fault
pub err_from_over : {X Y : Type 0} (made : X → Y) (r : Result X Fault) (f : Fault) → over made r ≡ Err f → r ≡ Err f
err_from_over made (Ok x) f e = failed _ _ _ e refl
err_from_over made (Err g) f e = let same : g ≡ f = cc in ap Err same

-- a refusal of what is made of a result is one of the result
pub refuses_from_over : {X Y : Type 0} (made : X → Y) (r : Result X Fault) (why : Refusal) → Refuses (over made r) why → Refuses r why
refuses_from_over made r (refusal.Fault f) e = err_from_over made r f e
refuses_from_over made r refusal.Memory e = tt

pub over-over : {X Y Z : Type 0} (made : Y → Z) (part : X → Y) (r : Result X Fault) → over made (over part r) ≡ over (λ x. made (part x)) r
over-over made part (Ok x) = refl
over-over made part (Err f) = refl

pub over-same : {X Y : Type 0} (made made' : X → Y) → ((x : X) → made x ≡ made' x) → (r : Result X Fault) → over made r ≡ over made' r
over-same made made' same (Ok x) = ap Ok (same x)
over-same made made' same (Err f) = refl
