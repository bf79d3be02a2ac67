-- What was worked out and written is the reduction. Assumes nothing.
use Rattle.std.proofs.Common.{◌≡◌, ℕ, ◌<◌, ◌≤◌, min, Bool, ◌&&◌, ◌||◌, eqb, ltb, List, [], ◌∷◌, map, length, get_or, take, Decides, sym, refl, ap, ap₂, ◌∙◌, subst, inl, inr, arith}
use Rattle.std.specs.List.{AllByRecursion}
use Rattle.std.proofs.ByRecursion.{All-map, All-weaker}
use Rattle.std.proofs.lemmas.List.{length-take-le}
use Rattle.std.proofs.lemmas.Bool.{cases_eq, cases_order, eq-eqb, ne_eqb, lt-ltb, le-ltb, and_left, and_right}
use Rattle.automata.specs.declared.Arrow.{Arrow}
use Rattle.automata.specs.declared.Mark.{Mark}
use Rattle.automata.specs.Below.{rising, table}
use Rattle.automata.specs.declared.Mark.TheVariants.{Neither}
use Rattle.automata.specs.Automata.{Automaton, automaton, Reachable, mark, mark_is_start, mark_accepts}
use Rattle.automata.specs.Simulation.{Greatest}
use Rattle.automata.specs.Minimal.{Minimal}
use Rattle.automata.specs.Reduction.{Pruned, Tells, below, reached, staying, class, Reduction, reduced_marks, reduced_ends, reduced_kept}
use Rattle.automata.specs.Book.{ends, ReducedBook}
use Rattle.automata.proofs.Tests.{T_same}
use Rattle.automata.proofs.Below.{rising_rises}
use Rattle.automata.proofs.Reach.{reached_is, is_reached}
use Rattle.automata.proofs.Tables.{rows_all}
use Rattle.automata.proofs.Book.{books}
use Rattle.bits.specs.Matrix.{pair}
use Rattle.reduction.specs.Drawn.{linked_at, reads_at, Drawn}
use Rattle.reduction.specs.Filled.{Filled}
use Rattle.reduction.proofs.Naming.{to_T, from_T, map_agree, mark_of_both}
use Rattle.automata.proofs.Book.{rising_same}

pub marks_agree : {V : Type 0} (M : Automaton V) (K : ℕ → ℕ → Bool) (marks : List Mark) (classes : List ℕ) → ((c : ℕ) → c < M.size → mark_is_start (get_or marks c Neither) ≡ (Pruned M K).initial c) → ((c : ℕ) → c < M.size → mark_accepts (get_or marks c Neither) ≡ (Pruned M K).accepting c) → AllByRecursion (λ c. c < M.size) classes
    → map (λ c. get_or marks c Neither) classes ≡ map (λ c. mark ((Pruned M K).initial c) ((Pruned M K).accepting c)) classes
marks_agree M K marks classes x y low = map_agree _ _ classes (All-weaker (λ c. c < M.size) _ (λ c h. mark_of_both (get_or marks c Neither) ∙ ap₂ mark (x c h) (y c h)) classes low)

module _ {V : Type 0} (M : Automaton V) (K linked : ℕ → ℕ → Bool) (told : Tells M K linked) where
  -- the classes found to be reached are those that stay
  pub listed_is : (stays : ℕ → Bool) → ((c : ℕ) → c < M.size → Decides (stays c) (Reachable (Pruned M K) c)) → rising stays M.size ≡ staying M K linked
  listed_is stays tells = rising_same stays _ M.size (λ c h. T_same _ _ (λ t. is_reached (Pruned M K) linked told ((tells c h).0 (from_T _ t))) (λ t. to_T ((tells c h).1 (reached_is (Pruned M K) linked told c h t))))

  -- a book whose labels are the sets that are read
  abbrev arrow_of : ℕ × ℕ → Arrow (V → Bool)
  arrow_of e = record { source = e.0; label = λ a. (Reduction M K linked).reads e.0 a e.1; target = e.1 }

  drawn_of : (l : List (ℕ × ℕ)) → ends (map arrow_of l) ≡ l
  drawn_of [] = refl
  drawn_of (x ∷ l) = ap (λ (m : List (ℕ × ℕ)). x ∷ m) (drawn_of l)

  book_of : ReducedBook (λ (f : V → Bool) (a : V). f a) M K (reduced_marks M K linked) (map arrow_of (reduced_ends M K linked)) (reduced_kept M K linked)
  book_of = record {
    linked = linked;
    told = told;
    marked = refl;
    drawn = drawn_of (reduced_ends M K linked);
    labelled = All-map _ arrow_of (reduced_ends M K linked) (All-weaker _ _ (λ x k a. refl) (reduced_ends M K linked) (rows_all (λ i j. linked (class M K linked i) (class M K linked j)) (length (staying M K linked)) (length (staying M K linked))));
    kept = λ i j hi hj. refl;
  }

-- by whatever test, the reduction has as many arrows
pub ends_agree : {V : Type 0} (M : Automaton V) (K l l' : ℕ → ℕ → Bool) → Tells M K l → Tells M K l' → length (reduced_ends M K l) ≡ length (reduced_ends M K l')
ends_agree {V} M K l l' t t' =
    let s = (books (V → Bool) V).sole (λ (f : V → Bool) (a : V). f a) M K _ _ _ _ _ _ (book_of M K l t) (book_of M K l' t') in
    ap length (sym (drawn_of M K l t (reduced_ends M K l)) ∙ s.drawn ∙ drawn_of M K l' t' (reduced_ends M K l'))

module _ {P V : Type 0} (h : P → V → Bool) (M : Automaton V) (K linked : ℕ → ℕ → Bool) (told : Tells M K linked) (states number : ℕ) (marks : List Mark) (arrows : List (Arrow P)) (rows : List ℕ) where
  -- the target is written for these classes
  pub record Written (classes : List ℕ) : Type 0 where
    pub size : states ≡ length classes
    pub marked : take states marks ≡ map (λ c. mark ((Pruned M K).initial c) ((Pruned M K).accepting c)) classes
    pub drawn : Drawn h (reads_at (Pruned M K).reads classes) (table (linked_at linked classes) (length classes)) number arrows
    pub kept : (i j : ℕ) → pair rows i j ≡ (ltb i (length classes) && (ltb j (length classes) && (eqb i j || linked_at K classes i j)))

  -- different numbers are of different classes
  one_number : (i j : ℕ) → i < length (staying M K linked) → j < length (staying M K linked) → (i ≡ j → ⊥) → class M K linked i ≡ class M K linked j → ⊥
  one_number i j hi hj ne e = elim (cases_order i j) [
    | inl same ↦ ne same
    | inr (inl l) ↦ omega (arith, e, rising_rises (reached M.size linked (Pruned M K).initial M.size) M.size i j l hj)
    | inr (inr l) ↦ omega (arith, e, rising_rises (reached M.size linked (Pruned M K).initial M.size) M.size j i l hi)
  ]

  order : (i j : ℕ) → i < length (staying M K linked) → j < length (staying M K linked) → (eqb i j || K (class M K linked i) (class M K linked j)) ≡ reduced_kept M K linked i j
  unfolding below
  order i j hi hj = elim (cases_eq i j) [
    | inl e ↦ rw (eq-eqb i j e) refl
    | inr ne ↦ rw (ne_eqb i j ne, ne_eqb (class M K linked i) (class M K linked j) (one_number i j hi hj ne)) refl
  ]

  pub filled : (classes : List ℕ) → classes ≡ staying M K linked → states ≤ length marks → number ≤ min (length arrows) 8192 → Written classes → Filled h M K states number marks arrows rows
  filled classes e fits room given =
      let w = subst Written e given in
      let n : length (take states marks) ≡ states = length-take-le states marks fits in
      record {
        book = record {
          linked = linked;
          told = told;
          marked = w.marked;
          drawn = w.drawn.drawn;
          labelled = w.drawn.labelled;
          kept = λ i j hi hj.
              let hi' : i < length (staying M K linked) = omega (arith, n, w.size) in
              let hj' : j < length (staying M K linked) = omega (arith, n, w.size) in
              w.kept i j ∙ rw (lt-ltb i (length (staying M K linked)) hi', lt-ltb j (length (staying M K linked)) hj') (order i j hi' hj');
        };
        rest = λ p q past. w.kept p q ∙ elim past [
          | inl l ↦ and_left (ltb p (length (staying M K linked))) _ (le-ltb p (length (staying M K linked)) (omega (arith, w.size)))
          | inr l ↦ and_right (ltb p (length (staying M K linked))) _ (and_left (ltb q (length (staying M K linked))) _ (le-ltb q (length (staying M K linked)) (omega (arith, w.size))))
        ];
        states_fit = fits;
        arrows_fit = room;
      }

-- so it is least, where K is the greatest simulation
pub filled_least : {P V : Type 0} (h : P → V → Bool) (M : Automaton V) (K : ℕ → ℕ → Bool) (states number : ℕ) (marks : List Mark) (arrows : List (Arrow P)) (rows : List ℕ) → Greatest M K → Filled h M K states number marks arrows rows → Minimal M (automaton h (take states marks) (take number arrows)) (pair rows) number
filled_least {P} {V} h M K states number marks arrows rows greatest f =
    let n : length (take number arrows) ≡ number = length-take-le number arrows (omega (arith, f.arrows_fit)) in
    subst (Minimal M (automaton h (take states marks) (take number arrows)) (pair rows)) n ((books P V).minimal h M K (take states marks) (take number arrows) (pair rows) greatest f.book)
