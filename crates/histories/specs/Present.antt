-- The present book: what a list of calls leaves, worked out from the start and the arguments of the calls alone. Assumes nothing.
use Rattle.std.specs.Prelude.{ℕ, Bool, not, cond, ◌&&◌, ◌||◌, is_ok, List, [], ◌∷◌, length, nat_le}
use Rattle.std.specs.List.{between}
use Rattle.rulebook.specs.Model.{Abstract, opening, adding_state, re_marking, adding_arrow, striking, settling}
use Rattle.histories.specs.declared.calls.Call.{Call}
use Rattle.histories.specs.declared.calls.Call.TheVariants.{Open, AddState, ReMark, AddArrow, Strike, Settle, Ask, CopyRows, TestWord, Reduce}

module _ {P : Type 0} (satisfiable : P → Bool) where
  -- what one call leaves of the book: a call that is declined, a question and a reduction into a target change nothing
  abbrev pub left_by : Abstract P → Call P → Abstract P
  left_by b Open = (opening b).next
  left_by b (AddState t m) = (adding_state b t m).next
  left_by b (ReMark t p m) = (re_marking b t p m).next
  left_by b (AddArrow t p l q) = (adding_arrow b t p l q (satisfiable l)).next
  left_by b (Strike t k) = (striking b t k).next
  left_by b (Settle t) = (settling b t).next
  left_by b (Ask p q) = b
  left_by b (CopyRows i j) = b
  left_by b (TestWord i j) = b
  left_by b Reduce = b

  -- what the calls leave, one after another
  abbrev pub present : Abstract P → List (Call P) → Abstract P
  present b [] = b
  present b (c ∷ cs) = present (left_by b c) cs

-- whether a ticket of the book is held after a call, where one is or is not before: an accepted open hands one out, and an accepted
-- settle spends it
abbrev pub ticket_by : {P : Type 0} → Abstract P → Bool → Call P → Bool
ticket_by b h Open = is_ok (opening b).answer || h
ticket_by b h (AddState t m) = h
ticket_by b h (ReMark t p m) = h
ticket_by b h (AddArrow t p l q) = h
ticket_by b h (Strike t k) = h
ticket_by b h (Settle t) = not (is_ok (settling b t).answer) && h
ticket_by b h (Ask p q) = h
ticket_by b h (CopyRows i j) = h
ticket_by b h (TestWord i j) = h
ticket_by b h Reduce = h

-- and after the calls, one after another
abbrev pub ticket_after : {P : Type 0} → (P → Bool) → Abstract P → Bool → List (Call P) → Bool
ticket_after satisfiable b h [] = h
ticket_after satisfiable b h (c ∷ cs) = ticket_after satisfiable (left_by satisfiable b c) (ticket_by b h c) cs

-- the part of a list from i up to j, or nothing where there is no such part
abbrev pub part : {X : Type 0} → ℕ → ℕ → List X → List X
part i j xs = cond (nat_le i j && nat_le j (length xs)) (between i j xs) []
