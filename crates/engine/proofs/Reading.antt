-- What arrows say of the reads of an automaton. Assumes nothing.
use Rattle.std.proofs.Common.{◌≡◌, ℕ, zero, suc, ◌<◌, Bool, true, T, List, [], ◌∷◌, length, get_or, refl, subst, le_of_suc-le-suc, not-suc-le-zero}
use mathlib.Core.List.{Memᴰ}
use Rattle.std.specs.List.{HoldsAt, AllByRecursion}
use Rattle.std.proofs.lemmas.List.{get_or_default}
use Rattle.automata.specs.declared.Arrow.{Arrow}
use Rattle.automata.specs.Automata.{some_label, leads}
use Rattle.automata.proofs.Tests.{T_same, back}
use Rattle.automata.proofs.Labels.{all_mem, label_found, label_finds, leads_from, leads_to}

-- a test that is true passes, and one that passes is true
pub passes : (b : Bool) → b ≡ true → T b
passes b e = back e tt

pub passed : (b : Bool) → T b → b ≡ true
passed b t = T_same b true (λ _. tt) (λ _. t)

-- what holds of an element holds of it whatever the default
pub at_get_or : {X : Type 0} (P : X → Type 0) (xs : List X) (i : ℕ) (d : X) → i < length xs → P (get_or xs i d) → HoldsAt P xs i
at_get_or P xs i d lt p e = subst P (get_or_default xs i d e lt) p

mem_get_or : {X : Type 0} (xs : List X) (i : ℕ) (d : X) → i < length xs → Memᴰ (get_or xs i d) xs
mem_get_or [] i d h = absurd (not-suc-le-zero h)
mem_get_or (x ∷ xs) zero d h = Memᴰ.head refl
mem_get_or (x ∷ xs) (suc i) d h = Memᴰ.tail (mem_get_or xs i d (le_of_suc-le-suc h))

module _ {P V : Type 0} (h : P → V → Bool) (xs : List (Arrow P)) (p q : ℕ) (a : V) where
  -- what an arrow says is read
  pub reads_at : (i : ℕ) (d : Arrow P) → i < length xs → (get_or xs i d).source ≡ p → (get_or xs i d).target ≡ q → h (get_or xs i d).label a ≡ true → T (some_label h (leads p q) xs a)
  reads_at i d lt s t l = label_finds h (leads p q) a (get_or xs i d) xs (mem_get_or xs i d lt) (leads_from p q (get_or xs i d) s t) (passes (h (get_or xs i d).label a) l)

  -- what is read some arrow says
  pub reads_by : (G : Arrow P → Type 0) → AllByRecursion G xs → T (some_label h (leads p q) xs a) → (x : Arrow P) × G x × (x.source ≡ p) × (x.target ≡ q) × (h x.label a ≡ true)
  reads_by G all t =
      let f = label_found h (leads p q) a xs t in
      let x = f.0 in
      let e = leads_to p q x f.2 in
      (x, all_mem G x xs all f.1, e.0, e.1, passed (h x.label a) f.3)
