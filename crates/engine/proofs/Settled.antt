-- The pairs that are left at the end are the greatest simulation. Assumes nothing.
use Rattle.std.proofs.Common.{◌≡◌, ℕ, ◌<◌, ◌≤◌, Bool, true, false, not, ◌&&◌, ◌||◌, ltb, ◌⊎◌, List, length, get_or, sym, ◌∙◌, inl, inr}
use Rattle.std.proofs.lemmas.Bool.{and_parts, or_cases, or_left, or_right, and_from, lt-ltb, cases_Bool, not-true, not_from_false, both_ways}
use Rattle.bits.specs.Matrix.{pair}
use Rattle.automata.specs.declared.Arrow.{Arrow}
use Rattle.automata.specs.declared.Mark.{Mark}
use Rattle.automata.specs.declared.Mark.TheVariants.{Neither}
use Rattle.automata.specs.Automata.{automaton, mark_accepts}
use Rattle.automata.specs.Simulation.{Wide, Greatest}
use Rattle.engine.specs.Columns.{allowed, Answered}
use Rattle.engine.proofs.Filling.{allowed_row, allowed_column}
use Rattle.engine.proofs.Reading.{passes, passed}

module _ (marks : List Mark) (p q : ℕ) where
  allowed_from : p < length marks → q < length marks → (mark_accepts (get_or marks p Neither) ≡ true → mark_accepts (get_or marks q Neither) ≡ true) → allowed marks p q ≡ true
  unfolding allowed
  allowed_from hp hq a =
      and_from (ltb p (length marks) && ltb q (length marks)) (mark_accepts (get_or marks q Neither) || not (mark_accepts (get_or marks p Neither)))
      (and_from (ltb p (length marks)) (ltb q (length marks)) (lt-ltb p (length marks) hp) (lt-ltb q (length marks) hq))
      (elim (cases_Bool (mark_accepts (get_or marks p Neither))) [
        | inl t ↦ or_left (mark_accepts (get_or marks q Neither)) (not (mark_accepts (get_or marks p Neither))) (a t)
        | inr f ↦ or_right (mark_accepts (get_or marks q Neither)) (not (mark_accepts (get_or marks p Neither))) (not_from_false (mark_accepts (get_or marks p Neither)) f)
      ])

  allowed_accepts : allowed marks p q ≡ true → mark_accepts (get_or marks p Neither) ≡ true → mark_accepts (get_or marks q Neither) ≡ true
  unfolding allowed
  allowed_accepts e t =
      elim (or_cases (mark_accepts (get_or marks q Neither)) (not (mark_accepts (get_or marks p Neither))) (and_parts (ltb p (length marks) && ltb q (length marks)) (mark_accepts (get_or marks q Neither) || not (mark_accepts (get_or marks p Neither))) e).1) [
        | inl s ↦ s
        | inr s ↦ absurd (both_ways (mark_accepts (get_or marks p Neither)) (not-true (mark_accepts (get_or marks p Neither)) s) t)
      ]

-- from the first fill on, fewer pairs, and no other
pub settled_empty : (marks : List Mark) (first last : List ℕ) → ((p q : ℕ) → pair first p q ≡ allowed marks p q) → ((p q : ℕ) → pair last p q ≡ true → pair first p q ≡ true)
    → (p q : ℕ) → (length marks ≤ p) ⊎ (length marks ≤ q) → pair last p q ≡ false
settled_empty marks first last filled fewer p q out = elim (cases_Bool (pair last p q)) [
  | inl on ↦ absurd (both_ways (allowed marks p q) (sym (elim out [ inl h ↦ allowed_row marks p q h | inr h ↦ allowed_column marks p q h ])) (sym (filled p q) ∙ fewer p q on))
  | inr off ↦ off
]

-- from the first fill on, which loses no simulation, to answered pairs
module _ {P V : Type 0} (h : P → V → Bool) (marks : List Mark) (xs : List (Arrow P)) (first : List ℕ) (filled : (p q : ℕ) → pair first p q ≡ allowed marks p q) where
  pub filled_wide : Wide (automaton h marks xs) (pair first)
  filled_wide R s p q hp hq r = passes (pair first p q) (filled p q ∙ allowed_from marks p q hp hq
      (λ a. passed (mark_accepts (get_or marks q Neither)) (s.accepts hp hq r (passes (mark_accepts (get_or marks p Neither)) a))))

  pub greatest : (last : List ℕ) → ((p q : ℕ) → pair last p q ≡ true → pair first p q ≡ true) → Wide (automaton h marks xs) (pair last)
      → ((p q : ℕ) → q < length marks → pair last p q ≡ true → Answered (automaton h marks xs) (pair last) p q) → Greatest (automaton h marks xs) (pair last)
  greatest last fewer wide answered = record {
    simulation = record {
      accepts = λ {p} {q} hp hq k a. passes (mark_accepts (get_or marks q Neither))
          (allowed_accepts marks p q (sym (filled p q) ∙ fewer p q (passed (pair last p q) k)) (passed (mark_accepts (get_or marks p Neither)) a));
      follows = λ {p} {q} hp hq k {a} {p'} hp' r. answered p q hq (passed (pair last p q) k) a p' hp' r;
    };
    contains = wide;
  }
