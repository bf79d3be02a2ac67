-- The labels of classes, joined over arrows, hold of what the classes read. Assumes nothing.
use Rattle.std.proofs.Common.{◌≡◌, ℕ, Bool, true, false, cond, not, ◌&&◌, ◌||◌, T, eqb, List, [], ◌∷◌, length, sym, refl, ap, ◌∙◌, subst, ⊎_elim, arith, eqb→eq}
use mathlib.Core.List.{Memᴰ}
use Rattle.std.specs.List.{AllByRecursion}
use Rattle.automata.specs.declared.Arrow.{Arrow}
use Rattle.automata.specs.declared.Mark.{Mark}
use Rattle.automata.specs.Below.{any_below}
use Rattle.automata.specs.Automata.{automaton, some_label, leads, Within}
use Rattle.automata.specs.Reduction.{name, below, highest, Merged, Pruned, Tells}
use Rattle.automata.specs.Labels.{Algebra, Lawful, between, over, joined, merged_label, pruned_label}
use Rattle.automata.specs.Theorems.{Labelled}
use Rattle.automata.proofs.Tests.{both, parts, or_l, or_r, ways, T_same, forth, back}
use Rattle.automata.proofs.Below.{found, finds}
use Rattle.automata.proofs.Names.{equal, name_le, member_from, member_to}

pub all_mem : {X : Type 0} (P : X → Type 0) (x : X) (xs : List X) → AllByRecursion P xs → Memᴰ x xs → P x
all_mem P x [] h m = elim m [ ]
all_mem P x (y ∷ xs) h (Memᴰ.head e) = subst P (sym e) h.0
all_mem P x (y ∷ xs) h (Memᴰ.tail m) = all_mem P x xs h.1 m

module _ {P V : Type 0} (h : P → V → Bool) (f : Arrow P → Bool) (a : V) where
  pub label_found : (xs : List (Arrow P)) → T (some_label h f xs a) → (x : Arrow P) × Memᴰ x xs × T (f x) × T (h x.label a)
  unfolding some_label
  label_found [] t = absurd t
  label_found (x ∷ xs) t = ⊎_elim
      (λ u. let k = parts (f x) (h x.label a) u in (x, Memᴰ.head refl, k.0, k.1))
      (λ u. let r = label_found xs u in (r.0, Memᴰ.tail r.1, r.2, r.3))
      (ways (f x && h x.label a) (some_label h f xs a) t)

  pub label_finds : (x : Arrow P) (xs : List (Arrow P)) → Memᴰ x xs → T (f x) → T (h x.label a) → T (some_label h f xs a)
  unfolding some_label
  label_finds x [] m u v = elim m [ ]
  label_finds x (y ∷ xs) (Memᴰ.head e) u v = or_l (f y && h y.label a) (some_label h f xs a) (both (f y) (h y.label a) (subst (λ (z : Arrow P). T (f z)) e u) (subst (λ (z : Arrow P). T (h z.label a)) e v))
  label_finds x (y ∷ xs) (Memᴰ.tail m) u v = or_r (f y && h y.label a) (some_label h f xs a) (label_finds x xs m u v)

module _ {P : Type 0} (K : ℕ → ℕ → Bool) (c d : ℕ) (x : Arrow P) where
  pub between_from : name K x.source ≡ c → name K x.target ≡ d → T (between K c d x)
  unfolding between
  between_from e u = both _ _ (equal (name K x.source) c e) (equal (name K x.target) d u)

  pub between_to : T (between K c d x) → (name K x.source ≡ c) × (name K x.target ≡ d)
  unfolding between
  between_to t = let k = parts _ _ t in (eqb→eq (name K x.source) c k.0, eqb→eq (name K x.target) d k.1)

  pub over_from : name K x.source ≡ c → T (below K d (name K x.target)) → T (over K c d x)
  unfolding over
  over_from e t = both _ _ (equal (name K x.source) c e) t

  pub over_to : T (over K c d x) → (name K x.source ≡ c) × T (below K d (name K x.target))
  unfolding over
  over_to t = let k = parts _ _ t in (eqb→eq (name K x.source) c k.0, k.1)

pub leads_from : {P : Type 0} (p q : ℕ) (x : Arrow P) → x.source ≡ p → x.target ≡ q → T (leads p q x)
leads_from p q x e u = both _ _ (equal x.source p e) (equal x.target q u)

pub leads_to : {P : Type 0} (p q : ℕ) (x : Arrow P) → T (leads p q x) → (x.source ≡ p) × (x.target ≡ q)
leads_to p q x t = let k = parts (eqb x.source p) (eqb x.target q) t in (eqb→eq x.source p k.0, eqb→eq x.target q k.1)

-- what is joined over the arrows of a class is what the class reads
module _ {P V : Type 0} (h : P → V → Bool) (marks : List Mark) (arrows : List (Arrow P)) (K : ℕ → ℕ → Bool) (within : AllByRecursion (Within (length marks)) arrows) where
  pub merged_is : (c d : ℕ) (a : V) → some_label h (between K c d) arrows a ≡ (Merged (automaton h marks arrows) K).reads c a d
  merged_is c d a = T_same (some_label h (between K c d) arrows a) ((Merged (automaton h marks arrows) K).reads c a d) there again
    where
      there : T (some_label h (between K c d) arrows a) → T ((Merged (automaton h marks arrows) K).reads c a d)
      there t =
          let r = label_found h (between K c d) a arrows t in
          let x = r.0 in
          let n = between_to K c d x r.2 in
          let w = all_mem (Within (length marks)) x arrows within r.1 in
          member_from K (length marks) _ c x.source w.0 n.0 (member_from K (length marks) _ d x.target w.1 n.1 (label_finds h (leads x.source x.target) a x arrows r.1 (leads_from x.source x.target x refl refl) r.3))

      again : T ((Merged (automaton h marks arrows) K).reads c a d) → T (some_label h (between K c d) arrows a)
      again t =
          let m = member_to K (length marks) _ c t in
          let k = member_to K (length marks) _ d m.3 in
          let r = label_found h (leads m.0 k.0) a arrows k.3 in
          let e = leads_to m.0 k.0 r.0 r.2 in
          label_finds h (between K c d) a r.0 arrows r.1 (between_from K c d r.0 (ap (name K) e.0 ∙ m.2) (ap (name K) e.1 ∙ k.2)) r.3

  pub over_is : (c d : ℕ) (a : V) → some_label h (over K c d) arrows a ≡ any_below (length marks) (λ e. (Merged (automaton h marks arrows) K).reads c a e && below K d e)
  over_is c d a = T_same (some_label h (over K c d) arrows a) (any_below (length marks) (λ e. (Merged (automaton h marks arrows) K).reads c a e && below K d e)) there again
    where
      there : T (some_label h (over K c d) arrows a) → T (any_below (length marks) (λ e. (Merged (automaton h marks arrows) K).reads c a e && below K d e))
      there t =
          let r = label_found h (over K c d) a arrows t in
          let x = r.0 in
          let e = name K x.target in
          let n = over_to K c d x r.2 in
          let w = all_mem (Within (length marks)) x arrows within r.1 in
          finds _ _ e (omega (arith, w.1, name_le K x.target)) (both _ _ (forth (merged_is c e a) (label_finds h (between K c e) a x arrows r.1 (between_from K c e x n.0 refl) r.3)) n.1)

      again : T (any_below (length marks) (λ e. (Merged (automaton h marks arrows) K).reads c a e && below K d e)) → T (some_label h (over K c d) arrows a)
      again t =
          let m = found _ _ t in
          let k = parts ((Merged (automaton h marks arrows) K).reads c a m.0) (below K d m.0) m.2 in
          let r = label_found h (between K c m.0) a arrows (back (merged_is c m.0 a) k.0) in
          let n = between_to K c m.0 r.0 r.2 in
          label_finds h (over K c d) a r.0 arrows r.1 (over_from K c d r.0 n.0 (subst (λ (z : ℕ). T (below K d z)) (sym n.1) k.1)) r.3

  -- what is left of the first, where the second holds of what goes, and s of all symbols
  pub pruned_is : (c d : ℕ) (a : V) (s : Bool) → (T (some_label h (between K c d) arrows a) → T s) → (some_label h (between K c d) arrows a && (s && not (some_label h (over K c d) arrows a))) ≡ (Pruned (automaton h marks arrows) K).reads c a d
  unfolding highest
  pruned_is c d a s proper = left (some_label h (between K c d) arrows a) s (some_label h (over K c d) arrows a) proper ∙ ap (λ y. y && not (some_label h (over K c d) arrows a)) (merged_is c d a) ∙ ap (λ y. (Merged (automaton h marks arrows) K).reads c a d && not y) (over_is c d a)
    where
      left : (x s o : Bool) → (T x → T s) → (x && (s && not o)) ≡ (x && not o)
      left false s o k = refl
      left true true o k = refl
      left true false o k = absurd (k tt)

module _ {P V : Type 0} (A : Algebra P V) (law : Lawful A) where
  joined_is : (f : Arrow P → Bool) (xs : List (Arrow P)) (a : V) → A.holds (joined A f xs) a ≡ some_label A.holds f xs a
  unfolding joined some_label
  joined_is f [] a = law.none a
  joined_is f (x ∷ xs) a = go (f x) (joined_is f xs a)
    where
      go : (b : Bool) → A.holds (joined A f xs) a ≡ some_label A.holds f xs a → A.holds (cond b (A.join x.label (joined A f xs)) (joined A f xs)) a ≡ ((b && A.holds x.label a) || some_label A.holds f xs a)
      go true e = law.join x.label (joined A f xs) a ∙ ap (λ y. A.holds x.label a || y) e
      go false e = e

  module _ (marks : List Mark) (arrows : List (Arrow P)) (K : ℕ → ℕ → Bool) (within : AllByRecursion (Within (length marks)) arrows) where
    merged : (c d : ℕ) (a : V) → A.holds (merged_label A arrows K c d) a ≡ (Merged (automaton A.holds marks arrows) K).reads c a d
    merged c d a = joined_is (between K c d) arrows a ∙ merged_is A.holds marks arrows K within c d a

    pruned : (c d : ℕ) (a : V) → A.holds (pruned_label A arrows K c d) a ≡ (Pruned (automaton A.holds marks arrows) K).reads c a d
    pruned c d a =
        law.meet (merged_label A arrows K c d) (A.complement (joined A (over K c d) arrows)) a
        ∙ ap (λ y. A.holds (merged_label A arrows K c d) a && y) (law.complement (joined A (over K c d) arrows) a)
        ∙ ap (λ y. A.holds (merged_label A arrows K c d) a && (A.symbol a && not y)) (joined_is (over K c d) arrows a)
        ∙ ap (λ y. y && (A.symbol a && not (some_label A.holds (over K c d) arrows a))) (joined_is (between K c d) arrows a)
        ∙ pruned_is A.holds marks arrows K within c d a (A.symbol a) (λ t. law.proper (merged_label A arrows K c d) a (back (joined_is (between K c d) arrows a) t))

    told : Tells (automaton A.holds marks arrows) K (λ c d. A.satisfiable (pruned_label A arrows K c d))
    told = record {
      so = λ c d hc hd t. let s = law.sample (pruned_label A arrows K c d) t in (s.0, forth (pruned c d s.0) s.1);
      if = λ c d hc hd t. law.fits (pruned_label A arrows K c d) t.0 (back (pruned c d t.0) t.1);
    }

pub labelled : (P V : Type 0) → Labelled P V
labelled P V = record { merged = merged; pruned = pruned; told = told }
