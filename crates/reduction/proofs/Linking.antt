-- The links of one class, found along its chain of arrows. Assumes nothing.
use Rattle.std.proofs.Common.{◌≡◌, ℕ, ◌<◌, Option, Some, None, Bool, true, false, ◌||◌, List, length, get_or, set, replicate, Decides, sym, refl, ap, ◌∙◌, subst, inl, inr, arith, get_or-set_other, get_or-set_same}
use Rattle.std.specs.List.{HoldsAt}
use Rattle.std.proofs.lemmas.List.{length-set, length-replicate}
use Rattle.std.proofs.lemmas.Bool.{cases_eq, cases_Bool, both_ways}
use Rattle.std.proofs.lemmas.Bool.Decides.{Decides-like}
use Rattle.automata.specs.declared.Arrow.{Arrow}
use Rattle.automata.specs.declared.Mark.{Mark}
use Rattle.automata.specs.Automata.{Automaton, automaton, Linked}
use Rattle.automata.specs.Reduction.{name, Pruned}
use Rattle.automata.specs.Labels.{between}
use Rattle.automata.proofs.Tests.{back}
use Rattle.automata.proofs.Names.{highest_to}
use Rattle.automata.proofs.Labels.{all_mem, label_found, merged_is, between_to}
use Rattle.bits.specs.Matrix.{pair, Changed}
use Rattle.reduction.specs.Filled.{EndsBelow}
use Rattle.reduction.specs.Chains.{Heads, Links}
use Rattle.reduction.specs.Sorted.{sources}
use Rattle.bits.proofs.Pairs.{get_or_blank}
use Rattle.reduction.proofs.Naming.{to_T, from_T, all_ends}
use Rattle.reduction.proofs.Chains.{Walk, left, walk_none, walk_here, walk_less, walk_more, walk_all}

-- a test for symbols of a label that holds of what is read tells whether anything is read
pub linked_tells : {P V : Type 0} (h : P → V → Bool) (M : Automaton V) (c d : ℕ) (label : P) (b : Bool) → ((v : V) → h label v ≡ M.reads c v d) → Decides b ((v : V) × (h label v ≡ true)) → Decides b (Linked M c d)
linked_tells h M c d label b same tells = Decides-like b (λ s. (s.0, to_T (sym (same s.0) ∙ s.1))) (λ s. (s.0, same s.0 ∙ from_T _ s.1)) tells

module _ {P V : Type 0} (h : P → V → Bool) (marks : List Mark) (xs : List (Arrow P)) (K : ℕ → ℕ → Bool) (c : ℕ) (start : List ℕ) (before : List Bool) where
  abbrev M : Automaton V
  M = Pruned (automaton h marks xs) K

  -- where an arrow from `at` on leads is seen, and what is seen is told
  pub record Seeing (seen : List Bool) (links : List ℕ) (reached : List Bool) (at : Option ℕ) : Type 0 where
    pub walk : Walk (sources K xs) (length xs) c (HoldsAt (λ x. get_or seen (name K x.target) false ≡ true) xs) at
    pub told : (d : ℕ) → get_or seen d false ≡ true → Decides (pair links c d) (Linked M c d)
    pub off : (d : ℕ) → get_or seen d false ≡ false → pair links c d ≡ false
    pub others : (i j : ℕ) → (i ≡ c → ⊥) → pair links i j ≡ pair start i j
    pub grown : (d : ℕ) → get_or reached d false ≡ (pair links c d || get_or before d false)
    pub size : length seen ≡ 256
    pub wide : length reached ≡ 256

  -- a class that no arrow leads to is not linked
  pub seeing_all : EndsBelow (length marks) xs → (seen : List Bool) (links : List ℕ) (reached : List Bool) (at : Option ℕ) → at ≡ None → Seeing seen links reached at → (d : ℕ) → Decides (pair links c d) (Linked M c d)
  seeing_all within seen links reached at z s d = elim (cases_Bool (get_or seen d false)) [
    | inl on ↦ s.told d on
    | inr off ↦ (λ t. absurd (both_ways _ (s.off d off) t), λ l. absurd (both_ways _ off (led l)))
  ]
    where
      led : Linked M c d → get_or seen d false ≡ true
      led l =
          let r = label_found h (between K c d) l.0 xs (back (merged_is h marks xs K (all_ends (length marks) xs within) c d l.0) (highest_to K (length marks) _ d l.1).0) in
          let e = between_to K c d r.0 r.2 in
          let all = walk_all (λ x. name K x.source) xs c (λ x. get_or seen (name K x.target) false ≡ true) at z s.walk in
          ap (λ y. get_or seen y false) (sym e.1) ∙ all_mem (λ x. name K x.source ≡ c → get_or seen (name K x.target) false ≡ true) r.0 xs all r.1 e.0

  pub seeing_none : (last : List (Option ℕ)) → Heads (sources K xs) (length xs) last → c < 256 → length before ≡ 256 → ((d : ℕ) → pair start c d ≡ false) → Seeing (replicate 256 false) start before (get_or last c None)
  seeing_none last heads hc wide empty = record {
    walk = walk_none (sources K xs) (length xs) c last heads _ hc;
    told = λ d on. absurd (both_ways _ (get_or_blank 256 d false) on);
    off = λ d _. empty d;
    others = λ i j ne. refl;
    grown = λ d. rw (empty d) refl;
    size = length-replicate 256 false;
    wide = wide;
  }

  module _ (seen : List Bool) (links : List ℕ) (reached : List Bool) (at : Option ℕ) (k : ℕ) (now' : at ≡ Some k) (s : Seeing seen links reached at) where
    pub seeing_here : k < length xs
    seeing_here = (walk_here (sources K xs) (length xs) c _ at k now' s.walk).0

    module _ (earlier : List (Option ℕ)) (chained : Links (sources K xs) (length xs) earlier) where
      pub seeing_less : left (get_or earlier k None) < left at
      seeing_less = walk_less (sources K xs) (length xs) c earlier chained _ at k now' s.walk

    module _ (earlier : List (Option ℕ)) (chained : Links (sources K xs) (length xs) earlier) (d : ℕ) (leads : HoldsAt (λ x. d ≡ name K x.target) xs k) where
      pub seeing_again : get_or seen d false ≡ true → Seeing seen links reached (get_or earlier k None)
      seeing_again on = record {
        walk = walk_more (sources K xs) (length xs) c earlier chained _ _ at k now' (λ y. ap (λ e. get_or seen e false) (sym (leads y)) ∙ on) (λ j was. was) s.walk;
        told = s.told;
        off = s.off;
        others = s.others;
        grown = s.grown;
        size = s.size;
        wide = s.wide;
      }

      module _ (lt : d < 256) (fresh : get_or seen d false ≡ false) where
        here : get_or (set seen d true) d false ≡ true
        here = get_or-set_same seen d true false (omega (arith, s.size))

        stays_seen : (e : ℕ) → get_or seen e false ≡ true → get_or (set seen d true) e false ≡ true
        stays_seen e on = elim (cases_eq e d) [
          | inl same ↦ rw same here
          | inr ne ↦ get_or-set_other seen d e true false ne ∙ on
        ]

        walk_on : Walk (sources K xs) (length xs) c (HoldsAt (λ x. get_or (set seen d true) (name K x.target) false ≡ true) xs) (get_or earlier k None)
        walk_on = walk_more (sources K xs) (length xs) c earlier chained _ _ at k now' (λ y. ap (λ e. get_or (set seen d true) e false) (sym (leads y)) ∙ here) (λ j was y. stays_seen _ (was y)) s.walk

        pub seeing_off : (Linked M c d → ⊥) → Seeing (set seen d true) links reached (get_or earlier k None)
        seeing_off none = record {
          walk = walk_on;
          told = λ e on. elim (cases_eq e d) [
            | inl same ↦ subst (λ (y : ℕ). Decides (pair links c y) (Linked M c y)) (sym same) (λ t. absurd (both_ways _ (s.off d fresh) t), λ l. absurd (none l))
            | inr ne ↦ s.told e (sym (get_or-set_other seen d e true false ne) ∙ on)
          ];
          off = λ e off. elim (cases_eq e d) [
            | inl same ↦ rw same (s.off d fresh)
            | inr ne ↦ s.off e (sym (get_or-set_other seen d e true false ne) ∙ off)
          ];
          others = s.others;
          grown = s.grown;
          size = length-set seen d true ∙ s.size;
          wide = s.wide;
        }

        pub seeing_on : Linked M c d → (links' : List ℕ) → Changed true links links' c d → Seeing (set seen d true) links' (set reached d true) (get_or earlier k None)
        seeing_on linked links' new = record {
          walk = walk_on;
          told = λ e on. elim (cases_eq e d) [
            | inl same ↦ subst (λ (y : ℕ). Decides (pair links' c y) (Linked M c y)) (sym same) (λ _. linked, λ _. new.here)
            | inr ne ↦ subst (λ (b : Bool). Decides b (Linked M c e)) (sym (new.others c e (λ _. ne))) (s.told e (sym (get_or-set_other seen d e true false ne) ∙ on))
          ];
          off = λ e off. elim (cases_eq e d) [
            | inl same ↦ absurd (both_ways _ off (rw same here))
            | inr ne ↦ new.others c e (λ _. ne) ∙ s.off e (sym (get_or-set_other seen d e true false ne) ∙ off)
          ];
          others = λ i j ne. new.others i j (λ e _. ne e) ∙ s.others i j ne;
          grown = λ e. elim (cases_eq e d) [
            | inl same ↦ rw (same, new.here) (get_or-set_same reached d true false (omega (arith, s.wide)))
            | inr ne ↦ rw (new.others c e (λ _. ne)) (get_or-set_other reached d e true false ne ∙ s.grown e)
          ];
          size = length-set seen d true ∙ s.size;
          wide = length-set reached d true ∙ s.wide;
        }
