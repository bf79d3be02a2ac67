-- Books that were read from numbers, and written into them. Assumes nothing.
use Rattle.std.proofs.Common.{◌≡◌, ℕ, ◌<◌, ◌≤◌, Bool, false, ◌⊎◌, List, [], ◌∷◌, map, length, take, sym, refl, ap, ◌∙◌, subst, arith, length-take-le}
use Rattle.std.specs.List.{AllByRecursion}
use Rattle.std.proofs.ByRecursion.{All-map}
use Rattle.std.proofs.lemmas.List.{length-map, take-map}
use Rattle.automata.specs.declared.Arrow.{Arrow}
use Rattle.automata.specs.declared.Mark.{Mark}
use Rattle.automata.specs.declared.Mark.TheVariants.{Neither, Initial, Accepting, Both}
use Rattle.automata.specs.Automata.{Automaton, automaton}
use Rattle.automata.specs.Below.{pairs}
use Rattle.automata.specs.Book.{ReducedBook}
use Rattle.automata.specs.Minimal.{Minimal}
use Rattle.automata.specs.Reduction.{reduced_ends}
use Rattle.automata.specs.Simulation.{Greatest, Keeps}
use Rattle.bits.specs.Bit.{bit}
use Rattle.bits.specs.Matrix.{pair}
use Rattle.reduction.specs.Filled.{Bounded, Filled, Crowded}
use Rattle.reduction.proofs.Whole.{ends_agree}
use Rattle.exported.specs.declared.Rule.{Rule}
use Rattle.exported.specs.Foreign.{mark_of, code_of, arrow_of, rule_of, Settled, Made}
use Rattle.exported.proofs.Copies.{read_back}

pub blank_arrow : Arrow ℕ
blank_arrow = record { source = 0; label = 0; target = 0 }

pub blank : Rule
blank = record { source = 0; target = 0; label = 0 }

-- the first marks and arrows of two buffers are those of the numbers
module _ (codes : List ℕ) (rules : List Rule) (marks : List Mark) (arrows : List (Arrow ℕ)) (m : take (length codes) marks ≡ map mark_of codes) (x : take (length rules) arrows ≡ map arrow_of rules) where
  abbrev marked : List Mark
  marked = take (length codes) marks

  abbrev drawn : List (Arrow ℕ)
  drawn = take (length rules) arrows

  pub moved : (F : List Mark → List (Arrow ℕ) → Type 0) → F marked drawn → F (map mark_of codes) (map arrow_of rules)
  moved F f = subst (λ y. F (map mark_of codes) y) x (subst (λ y. F y drawn) m f)

  pub bounded_are : Bounded (map mark_of codes) (map arrow_of rules) → Bounded marked drawn
  bounded_are b = subst (λ y. Bounded y drawn) (sym m) (subst (λ y. Bounded (map mark_of codes) y) (sym x) b)

  pub settled_are : (rows : List ℕ) (number : ℕ) → Keeps (automaton bit marked drawn) (pair rows) → Greatest (automaton bit marked drawn) (pair rows)
      → ((p q : ℕ) → (length marked ≤ p) ⊎ (length marked ≤ q) → pair rows p q ≡ false) → number ≡ pairs (pair rows) (length marked) → Settled codes rules rows number
  settled_are rows number keeps greatest empty count =
      let long : length marked ≡ length codes = ap length m ∙ length-map codes mark_of in
      record {
        keeps = moved (λ y z. Keeps (automaton bit y z) (pair rows)) keeps;
        greatest = moved (λ y z. Greatest (automaton bit y z) (pair rows)) greatest;
        empty = subst (λ n. (p q : ℕ) → (n ≤ p) ⊎ (n ≤ q) → pair rows p q ≡ false) long empty;
        count = count ∙ ap (pairs (pair rows)) long;
      }

all_of : {X : Type 0} (G : X → Type 0) → ((x : X) → G x) → (xs : List X) → AllByRecursion G xs
all_of G g [] = tt
all_of G g (x ∷ xs) = (g x, all_of G g xs)

code_small : (m : Mark) → code_of m < 4
code_small Neither = omega arith
code_small Initial = omega arith
code_small Accepting = omega arith
code_small Both = omega arith

mark_back : (m : Mark) → mark_of (code_of m) ≡ m
unfolding bit
mark_back Neither = refl
mark_back Initial = refl
mark_back Accepting = refl
mark_back Both = refl

-- ---- the target

module _ (M : Automaton ℕ) (K : ℕ → ℕ → Bool) (states number : ℕ) (marks : List Mark) (arrows : List (Arrow ℕ)) (rows : List ℕ) (f : Filled bit M K states number marks arrows rows) where
  pub number_fits : number ≤ length arrows
  number_fits = omega (arith, f.arrows_fit)

  pub marks_long : length (take states marks) ≡ states
  marks_long = length-take-le states marks f.states_fit

  pub arrows_long : length (take number arrows) ≡ number
  arrows_long = length-take-le number arrows number_fits

  -- written into the buffers of the caller
  pub made_are : (codes : List ℕ) (rules : List Rule) (rows' : List ℕ) → take states codes ≡ map code_of (take states marks) → take number rules ≡ map rule_of (take number arrows) → rows' ≡ rows
      → states ≤ length codes → number ≤ length rules → (Greatest M K → Minimal M (automaton bit (take states marks) (take number arrows)) (pair rows) number) → Made M K codes rules rows' states number
  made_are codes rules rows' cs rs wx room_codes room_rules least =
      let mb = sym (read_back code_of mark_of mark_back (take states marks) (take states codes) cs) in
      let ab = sym (read_back rule_of arrow_of (λ x. refl) (take number arrows) (take number rules) rs) in
      let move : (F : List Mark → List (Arrow ℕ) → List ℕ → Type 0) → F (take states marks) (take number arrows) rows → F (map mark_of (take states codes)) (map arrow_of (take number rules)) rows' =
      λ F x. subst (λ y. F (map mark_of (take states codes)) (map arrow_of (take number rules)) y) (sym wx) (subst (λ y. F (map mark_of (take states codes)) y rows) ab (subst (λ y. F y (take number arrows) rows) mb x)) in
      record {
        filled = record {
          book = rw (take-map mark_of states codes, take-map arrow_of number rules) (move (λ y z r. ReducedBook bit M K y z (pair r)) f.book);
          rest = subst (λ r. (p q : ℕ) → (states ≤ p) ⊎ (states ≤ q) → pair r p q ≡ false) (sym wx) f.rest;
          states_fit = omega (arith, length-map codes mark_of);
          arrows_fit = omega (arith, length-map rules arrow_of, f.arrows_fit);
        };
        small = subst (AllByRecursion (λ c. c < 4)) (sym cs) (All-map (λ c. c < 4) code_of (take states marks) (all_of (λ m. code_of m < 4) code_small (take states marks)));
        least = λ g. move (λ y z r. Minimal M (automaton bit y z) (pair r) number) (least g);
      }

  -- too many arrows for the caller's buffer
  pub crowded_are : (room : ℕ) → room < number → Crowded M K room
  crowded_are room few linked t =
      let b = f.book in
      let long : number ≡ length (reduced_ends M K b.linked) = sym (length-take-le number arrows number_fits) ∙ sym (length-map (take number arrows) (λ x. (x.source, x.target))) ∙ ap length b.drawn in
      omega (arith, long, ends_agree M K b.linked linked b.told t)

pub crowded_less : {V : Type 0} (M : Automaton V) (K : ℕ → ℕ → Bool) (room : ℕ) → Crowded M K 8192 → Crowded M K room
crowded_less M K room crowded linked t = omega (arith, crowded linked t)
