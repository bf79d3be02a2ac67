-- Small books with their kept pairs and their reductions, and two small lists of cuts. Assumes nothing.
use Rattle.std.specs.Prelude.{◌≡◌, Bool, false, not, ◌&&◌, List, [], ◌∷◌, ℕ, ◌-◌, ◌^◌, length}
use Rattle.bits.specs.Bit.{bit}
use Rattle.labels.specs.Segments.{is_point, segment, point_holds}
use Rattle.automata.specs.declared.Arrow.{Arrow}
use Rattle.automata.specs.declared.Mark.{Mark}
use Rattle.automata.specs.declared.Mark.TheVariants.{Neither, Initial, Accepting, Both}
use Rattle.automata.specs.Below.{pairs}
use Rattle.automata.specs.Automata.{Automaton, automaton, Accepts}
use Rattle.automata.specs.Simulation.{Greatest}
use Rattle.automata.specs.Reduction.{Tells, reduced_marks, reduced_ends}

-- a book over style marks: a label is a word, and holds of s when bit s is set
abbrev pub book : List Mark → List (Arrow ℕ) → Automaton ℕ
book marks arrows = automaton bit marks arrows

abbrev pub arrow : ℕ → ℕ → ℕ → Arrow ℕ
arrow p l q = record { source = p; label = l; target = q }

-- the book keeps just so many pairs
pub record Settles (marks : List Mark) (arrows : List (Arrow ℕ)) (number : ℕ) : Type 0 where
  pub kept : ℕ → ℕ → Bool
  pub greatest : Greatest (book marks arrows) kept
  pub counted : pairs kept (length marks) ≡ number

-- and is reduced to states with these marks and arrows with these ends
pub record Reduces (marks : List Mark) (arrows : List (Arrow ℕ)) (number : ℕ) (marks' : List Mark) (ends' : List (ℕ × ℕ)) : Type 0 where
  pub settles : Settles marks arrows number
  pub linked : ℕ → ℕ → Bool
  pub told : Tells (book marks arrows) settles.kept linked
  pub marked : reduced_marks (book marks arrows) settles.kept linked ≡ marks'
  pub drawn : reduced_ends (book marks arrows) settles.kept linked ≡ ends'

pub record SmallBooks : Type 0 where
  -- 1: no states
  pub nothing : Reduces [] [] 0 [] []
  -- 2: state 0 marked both
  pub single : Settles (Both ∷ []) [] 1
  pub empty_word : Accepts (book (Both ∷ []) []) []
  -- 3: state 0 initial, state 1 both
  pub below : Reduces (Initial ∷ Both ∷ []) [] 3 (Both ∷ []) []
  -- 4: mark 0 from state 0 to each of the twins 1 and 2
  pub twins : Reduces (Initial ∷ Accepting ∷ Accepting ∷ []) (arrow 0 1 1 ∷ arrow 0 1 2 ∷ []) 5 (Initial ∷ Accepting ∷ []) ((0, 1) ∷ [])
  -- 5: marks 0 and 1 on one arrow from 0 to 2, and on two arrows from 1 to 2
  pub joined : Reduces (Initial ∷ Neither ∷ Accepting ∷ []) (arrow 0 3 2 ∷ arrow 1 1 2 ∷ arrow 1 2 2 ∷ []) 5 (Initial ∷ Accepting ∷ []) ((0, 1) ∷ [])
  -- 6: mark 0 from 0 to 0, and the same struck
  pub looped : Settles (Neither ∷ Neither ∷ []) (arrow 0 1 0 ∷ []) 3
  pub struck : Settles (Neither ∷ Neither ∷ []) [] 4
  -- 7: with no cuts, a complement of 1, as the word with all other bits is, holds of no code point
  pub flipped : (c : ℕ) → point_holds [] (2 ^ 64 - 1 - 1) c ≡ (is_point c && not (point_holds [] 1 c))
  pub uncut : (p : ℕ) → ((c : ℕ) → point_holds [] p c ≡ (is_point c && not (point_holds [] 1 c))) → (c : ℕ) → point_holds [] p c ≡ false
  -- 8: with the cut 97
  pub before : segment (97 ∷ []) 96 ≡ 0
  pub after : segment (97 ∷ []) 97 ≡ 1
  -- one more, where every step has something to do: 0 and 2 are kept both ways and named 0; what 0 reads to 3 goes, since 3 is
  -- below 1; and then 3 is reached no more
  pub every_step : Reduces (Initial ∷ Accepting ∷ Neither ∷ Neither ∷ []) (arrow 0 1 1 ∷ arrow 0 1 3 ∷ arrow 2 1 1 ∷ []) 9 (Initial ∷ Accepting ∷ []) ((0, 1) ∷ [])
