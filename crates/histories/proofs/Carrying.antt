-- One call of a history, from what the book's own calls promise. Assumes nothing.
use Rattle.std.proofs.Common.{◌≡◌, ℕ, ◌<◌, Bool, true, false, cond, T, eqb, List, length, Ok, Err, Decides, Result, sym, refl, ap, ◌∙◌, subst, arith}
use Rattle.std.proofs.lemmas.Bool.{and_from}
use Rattle.std.specs.Result.{result_and}
use Rattle.bits.specs.Matrix.{pair}
use Rattle.automata.specs.Automata.{Automaton}
use Rattle.automata.specs.Automata as automata
use Rattle.automata.specs.Simulation.{Keeps}
use Rattle.automata.proofs.Tests.{forth, back}
use Rattle.automata.proofs.Simulations.{simulations}
use Rattle.reduction.specs.declared.Counts as reduction
use Rattle.reduction.proofs.Naming.{from_T}
use Rattle.rulebook.specs.declared.parts.Condition.{Condition}
use Rattle.rulebook.specs.declared.parts.Condition.TheVariants.{Settled, Open}
use Rattle.rulebook.specs.declared.parts.Refusal.{Refusal}
use Rattle.rulebook.specs.declared.parts.Refusal.TheVariants.{ForeignTicket}
use Rattle.rulebook.specs.declared.parts.Act.TheVariants.{Reads}
use Rattle.rulebook.specs.declared.parts.Act.TheVariants as act
use Rattle.rulebook.specs.Refusals.{judged, is_settled}
use Rattle.rulebook.specs.declared.book.Book.{Book}
use Rattle.rulebook.specs.View.{view, kept}
use Rattle.rulebook.proofs.Views.{states_are}
use Rattle.rulebook.specs.Model.{machine, by, answers, with_condition, settling}
use Rattle.rulebook.specs.Reducing.{ReduceGives}
use Rattle.rulebook.proofs.Reduced.{into_minimal}
use Rattle.histories.specs.declared.calls.Call.{Call}
use Rattle.histories.specs.declared.calls.Call.TheVariants as call
use Rattle.histories.specs.declared.calls.Answer.TheVariants as answer
use Rattle.histories.specs.Present.{left_by, part}
use Rattle.histories.specs.Moments.{Moment, Said, said, Unless, Whole, Counted, Settles, FilledBy, Still, Beside, Says, KeptBy, KeptWithin, ReducedRight, Right, Step}

-- the book is still settled where a reading call is let through
settled_first : {R : Type 0} (b : Condition) (r : Result R Refusal) (x : R) → result_and (judged b Reads) r ≡ Ok x → (b ≡ Settled) × (r ≡ Ok x)
settled_first Settled r x e = (refl, e)
settled_first Open r x e = let z : ◌≡◌ {A = ℕ} 0 1 = cc in absurd (omega arith)

kept_agree : {V : Type 0} (M : Automaton V) (K L : ℕ → ℕ → Bool) → ((p q : ℕ) → p < M.size → L p q ≡ K p q) → Keeps M K → Keeps M L
kept_agree M K L same k p q hp hq = ((λ t. (k p q hp hq).0 (forth (same p q hp) t)), λ s. back (same p q hp) ((k p q hp hq).1 s))

-- a settled book keeps no pair but of its states
pub kept_within : {P : Type 0} (b : Book P) → (view b).condition ≡ Settled → (p q : ℕ) → T (kept b p q) → (p < length (view b).marks) × (q < length (view b).marks)
kept_within b s p q t =
    let both = b.inner.bounded p q (and_from (is_settled b.inner.condition) (pair b.inner.rows.words p q) (ap is_settled s) (from_T _ t)) in
    let states = states_are b in
    (omega arith, omega arith)

module _ {P V : Type 0} (text : List V) (holds : P → V → Bool) (sat : P → Bool) (m n : Moment P) (within : KeptWithin n) where
  whole_same : n.book ≡ m.book → n.kept ≡ m.kept → Whole holds m → Whole holds n
  whole_same e k w s =
      subst (λ x. Keeps (machine holds x) n.kept) (sym e) (subst (Keeps (machine holds m.book)) (sym k) (w (sym (ap (λ x. x.condition) e) ∙ s)))

  -- a call that leaves the book
  pub still_step : (c : Call P) (a : Said) → left_by sat m.book c ≡ m.book → n.book ≡ m.book → n.kept ≡ m.kept → Beside holds m c a n → Says text holds sat m c a n → KeptBy m c n → (Whole holds m → Right text holds sat m c a n) → Step (Whole holds m) text holds sat m c a n
  still_step c a l e k s says keeps r = record { book = e ∙ sym l; beside = s; says = says; kept = keeps; within = within; right = r; whole = whole_same e k }

  pub settle_step : (t : ℕ) (a : Said) → Settles (settling m.book t).answer (machine holds m.book) m.kept a n.kept → n.book ≡ (settling m.book t).next → Still m n → Step (Whole holds m) text holds sat m (call.Settle t) a n
  settle_step t a says e s = record {
    book = e;
    beside = s;
    says = says;
    kept = tt;
    within = within;
    right = λ w. right (settling m.book t).answer says;
    whole = whole (eqb t m.book.number) m.book.condition refl says e;
  }
    where
      right : (r : Result (Unit {0}) Refusal) → Settles r (machine holds m.book) m.kept a n.kept → Unless r a ((k : ℕ) × (a ≡ Ok (answer.Pairs k)) × Counted (machine holds m.book) k)
      right (Ok x) f = (f.0, f.1, (n.kept, f.2, f.3))
      right (Err x) f = f.0

      whole : (x : Bool) (k : Condition) → m.book.condition ≡ k
          → Settles (by (cond x (judged k act.Settles) (Err ForeignTicket)) m.book (λ c. answers {R = Unit {0}} tt (with_condition m.book c))).answer (machine holds m.book) m.kept a n.kept
          → n.book ≡ (by (cond x (judged k act.Settles) (Err ForeignTicket)) m.book (λ c. answers {R = Unit {0}} tt (with_condition m.book c))).next
          → Whole holds m → Whole holds n
      whole true Settled o f e w s = whole_same e f.1 w s
      whole true Open o f e w s = subst (λ x. Keeps (machine holds x) n.kept) (sym e) f.2
      whole false k o f e w s = whole_same e f.1 w s

  pub word_step : (i j : ℕ) (k : Bool) → Decides k (automata.Accepts (machine holds m.book) (part i j text)) → n.book ≡ m.book → n.kept ≡ m.kept → Still m n → Step (Whole holds m) text holds sat m (call.TestWord i j) (Ok (answer.Accepts k)) n
  word_step i j k d e same s = still_step (call.TestWord i j) (Ok (answer.Accepts k)) refl e same s (k, refl, d) same (λ w. (k, refl, d))

  pub reduce_step : (a : Said) → FilledBy holds m.book m.kept m.target m.order a n.target n.order → n.book ≡ m.book → n.kept ≡ m.kept → n.words ≡ m.words → Step (Whole holds m) text holds sat m call.Reduce a n
  reduce_step a f e k words = still_step call.Reduce a refl e k (record { target = f; words = words }) tt k (λ w c s. go f.result f.reduces (sym f.says ∙ s) w)
    where
      go : {c : reduction.Counts} (r : Result reduction.Counts Refusal) → ReduceGives holds m.book m.kept m.target m.order r n.target n.order → said answer.Counts r ≡ Ok (answer.Counts c) → Whole holds m
          → ReducedRight holds m.book n.target n.order c
      go {c} (Ok d) r s w =
          let same : d ≡ c = cc in
          let least = into_minimal holds m.book m.target n.target m.kept n.order d r.1 (w (settled_first m.book.condition _ tt r.0).0) in
          subst (ReducedRight holds m.book n.target n.order) same
          (record { minimal = least; states = r.1.states; arrows = r.1.arrows; starts = ((simulations _).keeps (machine holds n.target) n.order).0 least.reduced.greatest })
      go {c} (Err x) r s w = let z : ◌≡◌ {A = ℕ} 0 1 = cc in absurd (omega arith)

-- the call goes by another name
pub step_of : {P V : Type 0} {W : Type 0} {text : List V} {holds : P → V → Bool} {sat : P → Bool} {m n : Moment P} {a : Said} {c d : Call P} → c ≡ d → Step W text holds sat m d a n → Step W text holds sat m c a n
step_of {W} {text} {holds} {sat} {m} {n} {a} e s = subst (λ x. Step W text holds sat m x a n) (sym e) s
