-- The marks and arrows that hold a reduction are it, and there is only one such book. Assumes nothing.
use Rattle.std.proofs.Common.{◌≡◌, ℕ, zero, suc, ◌<◌, Bool, true, false, ◌||◌, T, eqb, List, [], ◌∷◌, map, length, get_or, drop, sym, refl, ap, ◌∙◌, subst, arith}
use mathlib.Core.List.{Memᴰ}
use Rattle.std.specs.List.{AllZip, AllByRecursion}
use Rattle.std.proofs.lemmas.List.{length-map, get_or-map}
use Rattle.automata.specs.declared.Arrow.{Arrow}
use Rattle.automata.specs.declared.Mark.{Mark}
use Rattle.automata.specs.declared.Mark.TheVariants.{Neither}
use Rattle.automata.specs.Below.{rising, beside, rows, table}
use Rattle.automata.specs.Automata.{Automaton, automaton, mark_is_start, mark_accepts, mark, some_label, leads}
use Rattle.automata.specs.Simulation.{Greatest}
use Rattle.automata.specs.Reduction.{reached, Pruned, Tells, staying, class, Reduction, reduced_ends, reduced_kept, below}
use Rattle.automata.specs.Book.{ends, ReducedBook, SameBook}
use Rattle.automata.specs.Minimal.{Alike, Equivalent, Reduced, Least, Minimal}
use Rattle.automata.specs.Theorems.{Books}
use Rattle.automata.proofs.Tests.{T_same, forth, back}
use Rattle.automata.proofs.Words.{inclusion}
use Rattle.automata.proofs.Simulations.{simulated_trans}
use Rattle.automata.proofs.Alike.{turned, alike_simulated, reduced_alike}
use Rattle.automata.proofs.Classes.{faithful, reduces, class_here, stays}
use Rattle.automata.proofs.Reach.{reached_is, is_reached}
use Rattle.automata.proofs.Tables.{rows_has}
use Rattle.automata.proofs.Fewest.{fewest}
use Rattle.automata.proofs.Labels.{all_mem, label_found, label_finds, leads_from, leads_to}

pub initial_mark : (a b : Bool) → mark_is_start (mark a b) ≡ a
initial_mark false false = refl
initial_mark false true = refl
initial_mark true false = refl
initial_mark true true = refl

pub accepting_mark : (a b : Bool) → mark_accepts (mark a b) ≡ b
accepting_mark false false = refl
accepting_mark false true = refl
accepting_mark true false = refl
accepting_mark true true = refl

ends_at : {P : Type 0} (x : Arrow P) (i j : ℕ) → beside x.source x.target ≡ beside i j → (x.source ≡ i) × (x.target ≡ j)
ends_at x i j e = (ap (λ (z : ℕ × ℕ). z.0) e, ap (λ (z : ℕ × ℕ). z.1) e)

module _ {P V : Type 0} (holds : P → V → Bool) (M : Automaton V) (K : ℕ → ℕ → Bool) (marks : List Mark) (arrows : List (Arrow P)) (L : ℕ → ℕ → Bool) (b : ReducedBook holds M K marks arrows L) where
  abbrev linked : ℕ → ℕ → Bool
  linked = b.linked

  abbrev A : Automaton V
  A = automaton holds marks arrows

  abbrev k : ℕ
  k = length (staying M K linked)

  size : length marks ≡ k
  size = ap length b.marked ∙ length-map (staying M K linked) _

  mark_at_place : (i : ℕ) → i < k → get_or marks i Neither ≡ mark ((Pruned M K).initial (class M K linked i)) ((Pruned M K).accepting (class M K linked i))
  mark_at_place i h = ap (λ (x : List Mark). get_or x i Neither) b.marked ∙ get_or-map _ (staying M K linked) i 0 Neither h

  -- a label holds of what is read between its arrow's ends
  label_at : (x : Arrow P) → Memᴰ x arrows → (i : ℕ) (a : V) (j : ℕ) → x.source ≡ i → x.target ≡ j → holds x.label a ≡ (Reduction M K linked).reads i a j
  label_at x m i a j es et = all_mem _ x arrows b.labelled m a ∙ ap (λ (y : ℕ). (Reduction M K linked).reads y a x.target) es ∙ ap (λ (y : ℕ). (Reduction M K linked).reads i a y) et

  reads : (i : ℕ) (a : V) (j : ℕ) → i < k → j < k → A.reads i a j ≡ (Reduction M K linked).reads i a j
  reads i a j hi hj = T_same (some_label holds (leads i j) arrows a) ((Reduction M K linked).reads i a j) there again
    where
      there : T (some_label holds (leads i j) arrows a) → T ((Reduction M K linked).reads i a j)
      there t =
          let r = label_found holds (leads i j) a arrows t in
          let e = leads_to i j r.0 r.2 in
          forth (label_at r.0 r.1 i a j e.0 e.1) r.3

      again : T ((Reduction M K linked).reads i a j) → T (some_label holds (leads i j) arrows a)
      again t =
          let l = b.told.if _ _ (stays M K linked b.told i hi) (class_here M K linked j hj) (a, t) in
          let m : Memᴰ (beside i j) (reduced_ends M K linked) = rows_has (λ i j. linked (class M K linked i) (class M K linked j)) k k i j hi hj l in
          let x = mathlib.Core.List.Memᴰ.of_map _ arrows (subst (λ (z : List (ℕ × ℕ)). Memᴰ (beside i j) z) (sym b.drawn) m) in
          let e = ends_at x.0 i j x.2 in
          label_finds holds (leads i j) a x.0 arrows x.1 (leads_from i j x.0 e.0 e.1) (back (label_at x.0 x.1 i a j e.0 e.1) t)

  alike : Alike A (Reduction M K linked)
  alike = record {
    size = size;
    initial = λ i h. ap mark_is_start (mark_at_place i (omega (arith, size))) ∙ initial_mark _ _;
    accepting = λ i h. ap mark_accepts (mark_at_place i (omega (arith, size))) ∙ accepting_mark _ _;
    reads = λ i a j hi hj. reads i a j (omega (arith, size)) (omega (arith, size));
  }

  equivalent : Greatest M K → Equivalent M A
  equivalent g =
      let both = faithful V M K linked g b.told in
      let u = simulated_trans both.up (alike_simulated (turned alike)) in
      let d = simulated_trans (alike_simulated alike) both.down in
      record { up = u; down = d; words = λ w. (inclusion V M A u w, inclusion V A M d w) }

  reduced : Greatest M K → Reduced A L
  reduced g = reduced_alike A (Reduction M K linked) L (reduced_kept M K linked) alike b.kept (reduces V M K linked g b.told)

  drawn_length : length arrows ≡ length (reduced_ends M K linked)
  drawn_length = sym (length-map arrows _) ∙ ap length b.drawn

  least : Greatest M K → Least M (length marks) (length arrows)
  least g N s r =
      let f = fewest V M K linked g b.told N s r in
      record {
        states = omega (arith, size, f.states);
        listed = (f.listed.0, f.listed.1, f.listed.2 ∙ sym drawn_length);
        counted = λ l t. omega (arith, drawn_length, f.counted l t);
      }

  minimal : Greatest M K → Minimal M A L (length arrows)
  minimal g = record { equivalent = equivalent g; reduced = reduced g; least = least g }

-- tests that agree below n list the same
pub rising_same : (f g : ℕ → Bool) (n : ℕ) → ((k : ℕ) → k < n → f k ≡ g k) → rising f n ≡ rising g n
unfolding rising
rising_same f g zero e = refl
rising_same f g (suc n) e = rw (e n (omega arith), rising_same f g n (λ k h. e k (omega arith)))

rows_same : (R S : ℕ → ℕ → Bool) (n m : ℕ) → ((p q : ℕ) → p < m → q < n → R p q ≡ S p q) → rows R n m ≡ rows S n m
unfolding rows
rows_same R S n zero e = refl
rows_same R S n (suc m) e = rw (rising_same (R m) (S m) n (λ q h. e m q (omega arith) h), rows_same R S n m (λ p q h. e p q (omega arith)))

module _ {V : Type 0} (M : Automaton V) (K l l' : ℕ → ℕ → Bool) (t : Tells M K l) (t' : Tells M K l') where
  -- by either test the same can be reached
  reached_same : (d : ℕ) → d < M.size → reached M.size l (Pruned M K).initial M.size d ≡ reached M.size l' (Pruned M K).initial M.size d
  reached_same d h = T_same _ _ (λ x. is_reached (Pruned M K) l' t' (reached_is (Pruned M K) l t d h x)) (λ x. is_reached (Pruned M K) l t (reached_is (Pruned M K) l' t' d h x))

  staying_same : staying M K l ≡ staying M K l'
  staying_same = rising_same _ _ M.size reached_same

  linked_same : (i j : ℕ) → i < length (staying M K l) → j < length (staying M K l) → l (class M K l i) (class M K l j) ≡ l' (class M K l i) (class M K l j)
  linked_same i j hi hj =
      let r = stays M K l t i hi in
      let h = class_here M K l j hj in
      T_same _ _ (λ x. t'.if _ _ r h (t.so _ _ r h x)) (λ x. t.if _ _ r h (t'.so _ _ r h x))

  ends_same : reduced_ends M K l ≡ reduced_ends M K l'
  ends_same =
      rows_same _ (λ i j. l' (class M K l i) (class M K l j)) (length (staying M K l)) (length (staying M K l)) linked_same
      ∙ ap (λ (s : List ℕ). table (λ i j. l' (get_or s i 0) (get_or s j 0)) (length s)) staying_same

-- labels that mean the same at the same ends
labels_same : {P V : Type 0} (holds : P → V → Bool) (F G : ℕ → V → ℕ → Bool) → ((i : ℕ) (a : V) (j : ℕ) → F i a j ≡ G i a j) → (xs ys : List (Arrow P)) → ends xs ≡ ends ys
    → AllByRecursion (λ x. (a : V) → holds x.label a ≡ F x.source a x.target) xs → AllByRecursion (λ x. (a : V) → holds x.label a ≡ G x.source a x.target) ys → AllZip (λ x y. (a : V) → holds x.label a ≡ holds y.label a) xs ys
labels_same holds F G same [] [] e f g = tt
labels_same holds F G same [] (y ∷ ys) e f g = absurd (let z = ap length e in omega arith)
labels_same holds F G same (x ∷ xs) [] e f g = absurd (let z = ap length e in omega arith)
labels_same holds F G same (x ∷ xs) (y ∷ ys) e f g =
    let s : x.source ≡ y.source = ap (λ (z : List (ℕ × ℕ)). (get_or z 0 (0, 0)).0) e in
    let t : x.target ≡ y.target = ap (λ (z : List (ℕ × ℕ)). (get_or z 0 (0, 0)).1) e in
    (λ a. f.0 a ∙ same x.source a x.target ∙ ap (λ (i : ℕ). G i a x.target) s ∙ ap (λ (j : ℕ). G y.source a j) t ∙ sym (g.0 a), labels_same holds F G same xs ys (ap (drop 1) e) f.1 g.1)

module _ {P V : Type 0} (holds : P → V → Bool) (M : Automaton V) (K : ℕ → ℕ → Bool) (marks marks' : List Mark) (arrows arrows' : List (Arrow P)) (L L' : ℕ → ℕ → Bool) (b : ReducedBook holds M K marks arrows L) (b' : ReducedBook holds M K marks' arrows' L') where
  sole : SameBook holds marks marks' arrows arrows' L L'
  sole =
      let stay = staying_same M K b.linked b'.linked b.told b'.told in
      let drawn = b.drawn ∙ ends_same M K b.linked b'.linked b.told b'.told ∙ sym b'.drawn in
      let marked = b.marked ∙ ap (map _) stay ∙ sym b'.marked in
      record {
        marked = marked;
        drawn = drawn;
        labelled = labels_same holds (Reduction M K b.linked).reads (Reduction M K b'.linked).reads (λ i a j. ap (λ (s : List ℕ). (Pruned M K).reads (get_or s i 0) a (get_or s j 0)) stay) arrows arrows' drawn b.labelled b'.labelled;
        kept = λ i j hi hj. b.kept i j hi hj ∙ ap (λ (s : List ℕ). eqb i j || below K (get_or s i 0) (get_or s j 0)) stay ∙ sym (b'.kept i j (omega (arith, ap length marked)) (omega (arith, ap length marked)));
      }

pub books : (P V : Type 0) → Books P V
books P V = record { alike = alike; minimal = λ h M K m a L g b. minimal h M K m a L b g; sole = sole }
