-- A book that holds a reduction: its arrows end at its states, and its kept pairs are a preorder. Assumes nothing.
use Rattle.std.proofs.Common.{◌≡◌, ℕ, ◌<◌, ◌≤◌, Bool, T, eqb, ◌⊎◌, List, [], ◌∷◌, length, take, sym, ap, ◌∙◌, subst, inl, inr, arith, eqb→eq, Ok, Err, Result, MatchResult, IfOk}
use lib.Dec.{eqb_refl}
use Rattle.std.specs.List.{AllByRecursion}
use Rattle.std.proofs.lemmas.List.{length-map, length-take-le, get_or-take}
use Rattle.std.proofs.ByRecursion.{All-weaker, All-get_or}
use Rattle.std.proofs.lemmas.Bool.{cases_lt, cases_eq}
use Rattle.automata.specs.declared.Arrow.{Arrow}
use Rattle.automata.specs.declared.Mark.{Mark}
use Rattle.automata.specs.Automata.{Automaton, Within}
use Rattle.automata.specs.Book.{ends, ReducedBook}
use Rattle.automata.specs.Simulation.{Keeps}
use Rattle.automata.specs.Minimal.{Minimal}
use Rattle.bits.specs.Matrix.{pair}
use Rattle.automata.specs.Reduction.{staying, class, reduced_kept}
use Rattle.automata.proofs.Tests.{or_l, or_r, ways, forth, back}
use Rattle.automata.proofs.Below.{rising_at, rising_rises}
use Rattle.automata.proofs.Names.{equal, below_from, below_to}
use Rattle.automata.proofs.Simulations.{Preorder, simulations}
use Rattle.automata.proofs.Tables.{rows_all}
use Rattle.automata.proofs.Book.{books}
use Rattle.reduction.specs.Filled.{Filled, Crowded}
use Rattle.reduction.specs.declared.Counts.{Counts}
use Rattle.rulebook.specs.declared.parts.Condition.{Condition}
use Rattle.rulebook.specs.Invariants.{EndsIn, Reflexive, Transitive, OnStates}
use Rattle.rulebook.specs.Model.{Abstract, machine}
use Rattle.rulebook.specs.declared.parts.Refusal.{Refusal}
use Rattle.rulebook.specs.declared.parts.Refusal.TheVariants.{TooSmall}
use Rattle.rulebook.specs.Reducing.{ReducedInto}
use Rattle.rulebook.proofs.Kept.{ordered}

-- what holds of the ends holds of the arrows
all_ends : {P : Type 0} (n : ℕ) (arrows : List (Arrow P)) → AllByRecursion (λ x. (x.0 < n) × (x.1 < n)) (ends arrows) → AllByRecursion (Within n) arrows
all_ends n [] a = tt
all_ends n (x ∷ xs) a = (a.0, all_ends n xs a.1)

module _ {P V : Type 0} (holds : P → V → Bool) (M : Automaton V) (K : ℕ → ℕ → Bool) (marks : List Mark) (arrows : List (Arrow P)) (L : ℕ → ℕ → Bool) (b : ReducedBook holds M K marks arrows L) where
  size_is : length marks ≡ length (staying M K b.linked)
  size_is = ap length b.marked ∙ length-map (staying M K b.linked) _

  pub reduced_within : AllByRecursion (Within (length marks)) arrows
  reduced_within = rw size_is (all_ends _ arrows (rw b.drawn (All-weaker _ _ (λ x k. (k.0, k.1)) _ (rows_all _ _ _))))

  named : (i : ℕ) → i < length marks → class M K b.linked i < M.size
  named i h = (rising_at _ M.size i (rw size_is at h)).0

  apart : (i j : ℕ) → i < length marks → j < length marks → class M K b.linked i ≡ class M K b.linked j → i ≡ j
  apart i j hi hj e = elim (cases_lt i j) [
    | inl l ↦ let r = rising_rises _ M.size i j l (rw size_is at hj) in omega arith
    | inr l ↦ elim (cases_eq i j) [
      | inl s ↦ s
      | inr d ↦ let l' : j < i = omega arith in let r = rising_rises _ M.size j i l' (rw size_is at hi) in omega arith
    ]
  ]

  under : (i j : ℕ) → T (reduced_kept M K b.linked i j) → (i ≡ j) ⊎ T (K (class M K b.linked i) (class M K b.linked j))
  under i j t = elim (ways (eqb i j) _ t) [ inl e ↦ inl (eqb→eq i j e) | inr k ↦ inr (below_to K _ _ k).1 ]

  over : (i j : ℕ) → i < length marks → j < length marks → T (K (class M K b.linked i) (class M K b.linked j)) → T (reduced_kept M K b.linked i j)
  over i j hi hj t = elim (cases_eq i j) [
    | inl e ↦ or_l (eqb i j) _ (equal i j e)
    | inr d ↦ or_r (eqb i j) _ (below_from K _ _ (λ e. d (apart i j hi hj e)) t)
  ]

  pub reduced_preorder : Preorder M.size K → Preorder (length marks) L
  reduced_preorder o = record {
    self = λ {p = i} h. back (b.kept i i h h) (or_l (eqb i i) _ (eqb_refl i));
    trans = λ {p = i} {q = j} {r = k} hi hj hk x y. elim (under i j (forth (b.kept i j hi hj) x)) [
      | inl e ↦ subst (λ (z : ℕ). T (L z k)) (sym e) y
      | inr s ↦ elim (under j k (forth (b.kept j k hj hk) y)) [
        | inl e ↦ subst (λ (z : ℕ). T (L i z)) e x
        | inr t ↦ back (b.kept i k hi hk) (over i k hi hk (o.trans (named i hi) (named j hj) (named k hk) s t))
      ]
    ];
  }

-- the invariants of a book that was just filled
pub filled_ends : {P V : Type 0} (holds : P → V → Bool) (M : Automaton V) (K : ℕ → ℕ → Bool) (n m : ℕ) (marks : List Mark) (slots : List (Arrow P)) (rows : List ℕ) → Filled holds M K n m marks slots rows → (m ≤ length slots) × EndsIn n m slots
filled_ends holds M K n m marks slots rows f =
    let fit = f.arrows_fit in
    let long : length (take n marks) ≡ n = length-take-le n marks f.states_fit in (
      omega arith,
      λ k d h. let l : length (take m slots) ≡ m = length-take-le m slots (omega arith) in
          rw get_or-take at (rw long at (All-get_or (Within (length (take n marks))) (take m slots) k d (omega arith) (reduced_within holds M K (take n marks) (take m slots) (pair rows) f.book))),
    )

pub filled_order : {P V : Type 0} (holds : P → V → Bool) (M : Automaton V) (K : ℕ → ℕ → Bool) (n m : ℕ) (marks : List Mark) (slots : List (Arrow P)) (rows : List ℕ) → Filled holds M K n m marks slots rows → Preorder M.size K → (c : Condition) → Reflexive c n rows × Transitive c n rows × OnStates c n rows
filled_order holds M K n m marks slots rows f o c =
    ordered n rows c (subst (λ (k : ℕ). Preorder k (pair rows)) (length-take-le n marks f.states_fit) (reduced_preorder holds M K (take n marks) (take m slots) (pair rows) f.book o)) f.rest

-- where the kept pairs are those of the simulations, the target is minimal
pub into_minimal : {P V : Type 0} (holds : P → V → Bool) (b t t' : Abstract P) (K L : ℕ → ℕ → Bool) (c : Counts) → ReducedInto holds b K t c t' L → Keeps (machine holds b) K → Minimal (machine holds b) (machine holds t') L c.arrows
into_minimal holds b t t' K L c r k =
    subst (λ (n : ℕ). Minimal (machine holds b) (machine holds t') L n) (sym r.arrows)
    ((books _ _).minimal holds (machine holds b) K t'.marks t'.arrows L (((simulations _).keeps (machine holds b) K).1 k) r.book)

pub reduces_least : {P V : Type 0} (holds : P → V → Bool) (b t t' : Abstract P) (K L' : ℕ → ℕ → Bool) (r : Result Counts Refusal) → MatchResult r (λ c. ReducedInto holds b K t c t' L') (λ e. (e ≡ TooSmall) × Crowded (machine holds b) K t.room)
    → IfOk r (λ c. Keeps (machine holds b) K → Minimal (machine holds b) (machine holds t') L' c.arrows)
reduces_least holds b t t' K L' (Ok c) m = λ k. into_minimal holds b t t' K L' c m k
reduces_least holds b t t' K L' (Err x) m = tt
