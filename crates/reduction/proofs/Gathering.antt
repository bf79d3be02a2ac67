-- Labels joined over the arrows of a class. Assumes nothing.
use Rattle.std.proofs.Common.{◌≡◌, ℕ, zero, suc, ◌<◌, Option, Some, None, Bool, true, false, not, ◌&&◌, ◌||◌, T, List, [], ◌∷◌, length, get_or, sym, refl, ap, ◌∙◌, subst, ⊎_elim, le_of_suc-le-suc, not-suc-le-zero}
use mathlib.Core.List.{Memᴰ}
use Rattle.std.specs.List.{HoldsAt, AllByRecursion}
use Rattle.std.proofs.lemmas.List.Elements.{at_read}
use Rattle.std.proofs.ByRecursion.{All-weaker}
use Rattle.std.proofs.lemmas.Bool.{both_ways}
use Rattle.automata.specs.declared.Arrow.{Arrow}
use Rattle.automata.specs.declared.Mark.{Mark}
use Rattle.automata.specs.Automata.{automaton, some_label}
use Rattle.automata.specs.Reduction.{name, Pruned}
use Rattle.automata.specs.Labels.{between, over}
use Rattle.automata.proofs.Tests.{or_l, or_r, ways, T_same, forth, back}
use Rattle.automata.proofs.Names.{below_from, below_to}
use Rattle.automata.proofs.Labels.{all_mem, label_found, label_finds, pruned_is, between_from, between_to, over_from, over_to}
use Rattle.reduction.specs.Filled.{EndsBelow}
use Rattle.reduction.specs.Chains.{Heads, Links}
use Rattle.reduction.specs.Sorted.{sources}
use Rattle.reduction.proofs.Naming.{to_T, from_T, all_ends}
use Rattle.reduction.proofs.Chains.{Walk, left, walk_none, walk_here, walk_less, walk_more, walk_all, key_read}

mem_read : {X : Type 0} (xs : List X) (i : ℕ) (x : X) → i < length xs → x ≡ get_or xs i x → Memᴰ x xs
mem_read [] i x lt is = absurd (not-suc-le-zero lt)
mem_read (y ∷ xs) zero x lt is = Memᴰ.head is
mem_read (y ∷ xs) (suc i) x lt is = Memᴰ.tail (mem_read xs i x (le_of_suc-le-suc lt) is)

module _ {P V : Type 0} (h : P → V → Bool) (f : Arrow P → Bool) where
  -- if the arrow passes, its label is within `all`
  abbrev Taken : P → Arrow P → Type 0
  Taken all x = T (f x) → (v : V) → T (h x.label v) → T (h all v)

  -- `all` holds only of what is on arrows that pass
  abbrev Sound : List (Arrow P) → P → Type 0
  Sound xs all = (v : V) → T (h all v) → T (some_label h f xs v)

  sound_none : (xs : List (Arrow P)) (all : P) → ((v : V) → h all v ≡ false) → Sound xs all
  sound_none xs all none v t = absurd (forth (none v) t)

  module _ (all new label : P) (joins : (v : V) → h new v ≡ (h all v || h label v)) where
    sound_more : (xs : List (Arrow P)) (x : Arrow P) → Memᴰ x xs → label ≡ x.label → T (f x) → Sound xs all → Sound xs new
    sound_more xs x m e on was v t = ⊎_elim (was v) (λ u. label_finds h f v x xs m on (subst (λ (l : P). T (h l v)) e u)) (ways (h all v) (h label v) (forth (joins v) t))

    taken_more : (x : Arrow P) → Taken all x → Taken new x
    taken_more x was on v t = back (joins v) (or_l (h all v) (h label v) (was on v t))

    taken_here : (x : Arrow P) → label ≡ x.label → Taken new x
    taken_here x e on v t = back (joins v) (or_r (h all v) (h label v) (subst (λ (l : P). T (h l v)) (sym e) t))

  gathered : (xs : List (Arrow P)) (all : P) → AllByRecursion (Taken all) xs → Sound xs all → (v : V) → h all v ≡ some_label h f xs v
  gathered xs all each sound v = T_same (h all v) (some_label h f xs v) (sound v) (λ t. let r = label_found h f v xs t in all_mem (Taken all) r.0 xs each r.1 r.2 v r.3)

module _ {P : Type 0} (K : ℕ → ℕ → Bool) (c d : ℕ) (x : Arrow P) where
  over_on : name K x.source ≡ c → (name K x.target ≡ d → ⊥) → T (K d (name K x.target)) → T (over K c d x)
  over_on s ne t = over_from K c d x s (below_from K d (name K x.target) (λ e. ne (sym e)) t)

  over_so : T (over K c d x) → (name K x.source ≡ c) × (name K x.target ≡ d → ⊥) × T (K d (name K x.target))
  over_so t =
      let k = over_to K c d x t in
      let b = below_to K d (name K x.target) k.1 in
      (k.0, λ e. b.0 (sym e), b.1)

-- the arrows of the class c: from `at` on, those to d are joined in `low`, and those to what is above d in `high`
module _ {P V : Type 0} (h : P → V → Bool) (K : ℕ → ℕ → Bool) (c d : ℕ) (xs : List (Arrow P)) where
  abbrev Both : P → P → Arrow P → Type 0
  Both low high x = Taken h (between K c d) low x × Taken h (over K c d) high x

  pub record Gathers (low high : P) (at : Option ℕ) : Type 0 where
    pub walk : Walk (sources K xs) (length xs) c (HoldsAt (Both low high) xs) at
    pub lows : Sound h (between K c d) xs low
    pub highs : Sound h (over K c d) xs high

  gathers_all : (low high : P) (at : Option ℕ) → at ≡ None → Gathers low high at → (v : V) → (h low v ≡ some_label h (between K c d) xs v) × (h high v ≡ some_label h (over K c d) xs v)
  gathers_all low high at z g v =
      let all = walk_all (λ x. name K x.source) xs c (Both low high) at z g.walk in (
        gathered h (between K c d) xs low (All-weaker (λ x. name K x.source ≡ c → Both low high x) (Taken h (between K c d) low) (λ x k on. (k (between_to K c d x on).0).0 on) xs all) g.lows v,
        gathered h (over K c d) xs high (All-weaker (λ x. name K x.source ≡ c → Both low high x) (Taken h (over K c d) high) (λ x k on. (k (over_so K c d x on).0).1 on) xs all) g.highs v,
      )

  -- the meet of the one with the complement of the other, where s says what the symbols are
  pub gathers_pruned : (marks : List Mark) → EndsBelow (length marks) xs → (low high rest' rest : P) (at : Option ℕ) → at ≡ None → Gathers low high at
      → (v : V) (s : Bool) → (h low v ≡ true → s ≡ true) → h rest v ≡ (s && not (h high v)) → h rest' v ≡ (h low v && h rest v) → h rest' v ≡ (Pruned (automaton h marks xs) K).reads c v d
  gathers_pruned marks within low high rest' rest at z g v s proper complement meet =
      let k = gathers_all low high at z g v in
      meet ∙ ap (λ y. h low v && y) (complement ∙ ap (λ y. s && not y) k.1) ∙ ap (λ y. y && (s && not (some_label h (over K c d) xs v))) k.0
      ∙ pruned_is h marks xs K (all_ends (length marks) xs within) c d v s (λ t. to_T (proper (k.0 ∙ from_T _ t)))

  pub gathers_none : (last : List (Option ℕ)) → Heads (sources K xs) (length xs) last → (low high : P) → c < 256 → ((v : V) → h low v ≡ false) → ((v : V) → h high v ≡ false) → Gathers low high (get_or last c None)
  gathers_none last heads low high hc x y = record {
    walk = walk_none (sources K xs) (length xs) c last heads (HoldsAt (Both low high) xs) hc;
    lows = sound_none h (between K c d) xs low x;
    highs = sound_none h (over K c d) xs high y;
  }

  pub gathers_here : (low high : P) (at : Option ℕ) (k : ℕ) → at ≡ Some k → Gathers low high at → k < length xs
  gathers_here low high at k e g = (walk_here (sources K xs) (length xs) c (HoldsAt (Both low high) xs) at k e g.walk).0

  module _ (before : List (Option ℕ)) (links : Links (sources K xs) (length xs) before) where
    pub gathers_less : (low high : P) (at : Option ℕ) (k : ℕ) → at ≡ Some k → Gathers low high at → left (get_or before k None) < left at
    gathers_less low high at k e g = walk_less (sources K xs) (length xs) c before links (HoldsAt (Both low high) xs) at k e g.walk

    -- one arrow more, x, at the place k, which leads to the class e
    module _ (low high : P) (at : Option ℕ) (k : ℕ) (now' : at ≡ Some k) (x : Arrow P) (is : x ≡ get_or xs k x) (e : ℕ) (leads : HoldsAt (λ y. e ≡ name K y.target) xs k) (g : Gathers low high at) where
      to : e ≡ name K x.target
      to = leads x ∙ ap (λ (y : Arrow P). name K y.target) (sym is)

      lt : k < length xs
      lt = gathers_here low high at k now' g

      from : name K x.source ≡ c
      from = sym (key_read (λ x. name K x.source) xs k x lt is) ∙ (walk_here (sources K xs) (length xs) c (HoldsAt (Both low high) xs) at k now' g.walk).1

      on : (low' high' : P) → Both low' high' x → ((y : Arrow P) → Both low high y → Both low' high' y) → Walk (sources K xs) (length xs) c (HoldsAt (Both low' high') xs) (get_or before k None)
      on low' high' here more =
          walk_more (sources K xs) (length xs) c before links (HoldsAt (Both low high) xs) (HoldsAt (Both low' high') xs) at k now'
          (at_read xs (Both low' high') k x lt is here) (λ j was y. more (get_or xs j y) (was y)) g.walk

      pub gathers_low : e ≡ d → (new : P) → ((v : V) → h new v ≡ (h low v || h x.label v)) → Gathers new high (get_or before k None)
      gathers_low same new joins = record {
        walk = on new high (taken_here h (between K c d) low new x.label joins x refl, λ o. absurd ((over_so K c d x o).1 (sym to ∙ same))) (λ y was. (taken_more h (between K c d) low new x.label joins y was.0, was.1));
        lows = sound_more h (between K c d) low new x.label joins xs x (mem_read xs k x lt is) refl (between_from K c d x from (sym to ∙ same)) g.lows;
        highs = g.highs;
      }

      pub gathers_high : (e ≡ d → ⊥) → K d e ≡ true → (new : P) → ((v : V) → h new v ≡ (h high v || h x.label v)) → Gathers low new (get_or before k None)
      gathers_high ne above new joins = record {
        walk = on low new ((λ o. absurd (ne (to ∙ (between_to K c d x o).1))), taken_here h (over K c d) high new x.label joins x refl) (λ y was. (was.0, taken_more h (over K c d) high new x.label joins y was.1));
        lows = g.lows;
        highs = sound_more h (over K c d) high new x.label joins xs x (mem_read xs k x lt is) refl (over_on K c d x from (λ s. ne (to ∙ s)) (subst (λ (y : ℕ). T (K d y)) to (to_T above))) g.highs;
      }

      pub gathers_off : (e ≡ d → ⊥) → K d e ≡ false → Gathers low high (get_or before k None)
      gathers_off ne below' = record {
        walk = on low high ((λ o. absurd (ne (to ∙ (between_to K c d x o).1))), λ o. absurd (both_ways (K d e) below' (from_T (K d e) (subst (λ (y : ℕ). T (K d y)) (sym to) (over_so K c d x o).2)))) (λ y was. was);
        lows = g.lows;
        highs = g.highs;
      }
