-- Texts by their lines: a turn at what is left, and the law of texts.
use Rattle.std.proofs.Common.{◌≡◌, ℕ, List, [], ◌∷◌, ◌++◌, length, Some, None, Ok, Err, codes, Option, Result, sym, refl, ap, ◌∙◌, subst, ap₂, MatchOption, rules}
use Rattle.std.specs.List.{flat_map, AllByRecursion}
use Rattle.std.proofs.lemmas.List.{append_assoc, append-nil}
use Rattle.lines.specs.Fields.{Free, fields, split, above}
use Rattle.lines.specs.Places.{further, next}
use Rattle.lines.specs.Texts.{and_then, over, closes, lines_say, text_says, lines_text, ByFault, Refuses}
use Rattle.lines.specs.declared.Fault.{Fault}
use Rattle.lines.specs.declared.Fault.TheVariants as fault
use Rattle.lines.specs.declared.Place.{Place}
use Rattle.lines.specs.declared.Refusal.{Refusal}
use Rattle.lines.specs.declared.Refusal.TheVariants as refusal
use Rattle.lines.proofs.Parts.{split_empty, split_newline, text_joined}
use Rattle.lines.proofs.Results.{failed, went, made_of, over-over, over-same}

-- whether something stands behind the end
module _ {X : Type 0} (x : X) (at : Place) (t : List ℕ) where
  pub closes_none : t ≡ [] → Ok x ≡ closes x at (split t).whole (split t).rest
  unfolding split
  closes_none none = sym (ap (λ u. closes x at (split u).whole (split u).rest) none)

  pub closes_some : (t ≡ [] → ⊥) → Err (fault.Stop at) ≡ closes x at (split t).whole (split t).rest
  closes_some some = on (split t).whole (split t).rest (λ a b. some (split_empty t a b))
    where
      on : (ls : List (List ℕ)) (r : List ℕ) → (ls ≡ [] → r ≡ [] → ⊥) → Err (fault.Stop at) ≡ closes x at ls r
      on [] [] h = absurd (h refl refl)
      on [] (b ∷ bytes) h = refl
      on (l ∷ ls) r h = refl

over-closes : {X Y : Type 0} (made : X → Y) (x : X) (at : Place) (ls : List (List ℕ)) (r : List ℕ) → over made (closes x at ls r) ≡ over (λ _. made x) (closes (tt {0}) at ls r)
over-closes made x at [] [] = refl
over-closes made x at [] (b ∷ bytes) = refl
over-closes made x at (l ∷ ls) r = refl

module _ {X : Type 0} (says : Place → List (List ℕ) → Result (Option X) Fault) where
  -- what a line says, and the lines behind it
  abbrev by_said : Place → List ℕ → List (List ℕ) → List ℕ → Result (Option X) Fault → Result (List X) Fault
  by_said at line ls rest r = and_then r (λ said. elim said [
    | Some x ↦ over (λ xs. x ∷ xs) (lines_say says (next at line) ls rest)
    | None ↦ closes [] (next at line) ls rest
  ])

  lines_say_more : (at : Place) (line : List ℕ) (ls : List (List ℕ)) (rest : List ℕ) (r : Result (Option X) Fault) → says at (fields line) ≡ r → lines_say says at (line ∷ ls) rest ≡ by_said at line ls rest r
  unfolding lines_say
  lines_say_more at line ls rest r e = ap (by_said at line ls rest) e

  -- a turn of a loop over the lines: `whole` is made of what the lines that are left say
  module _ {Y : Type 0} (whole : Result Y Fault) (made : List X → Y) (at : Place) (left : List ℕ) (so : whole ≡ over made (text_says says at left)) where
    pub turn_stop : split left ≡ record { whole = []; rest = left } → whole ≡ Err (fault.Stop (further at (length left)))
    unfolding lines_say
    turn_stop is = so ∙ ap (λ s. over made (lines_say says at s.whole s.rest)) is

    module _ (line rest : List ℕ) (is : split left ≡ above line (split rest)) where
      turn : (r : Result (Option X) Fault) → says at (fields line) ≡ r → whole ≡ over made (by_said at line (split rest).whole (split rest).rest r)
      turn r e = so ∙ ap (λ s. over made (lines_say says at s.whole s.rest)) is ∙ ap (over made) (lines_say_more at line (split rest).whole (split rest).rest r e)

      pub turn_fault : (f : Fault) → says at (fields line) ≡ Err f → whole ≡ Err f
      turn_fault f e = turn (Err f) e

      pub turn_refuses : (why : Refusal) → Refuses (says at (fields line)) why → Refuses whole why
      turn_refuses (refusal.Fault f) e = turn_fault f e
      turn_refuses refusal.Memory e = tt

      pub turn_more : (x : X) (made' : List X → Y) → says at (fields line) ≡ Ok (Some x) → ((xs : List X) → made (x ∷ xs) ≡ made' xs) → whole ≡ over made' (text_says says (next at line) rest)
      turn_more x made' e same =
          turn (Ok (Some x)) e ∙ over-over made (λ xs. x ∷ xs) (text_says says (next at line) rest) ∙ over-same (λ xs. made (x ∷ xs)) made' same (text_says says (next at line) rest)

      pub turn_end : (r : Result (Unit {0}) Fault) → says at (fields line) ≡ Ok None → r ≡ closes tt (next at line) (split rest).whole (split rest).rest → whole ≡ over (λ _. made []) r
      turn_end r e ends = turn (Ok None) e ∙ over-closes made [] (next at line) (split rest).whole (split rest).rest ∙ ap (over (λ _. made [])) (sym ends)

-- the text of lines, each of which fits
module _ {X : Type 0} (says : Place → List (List ℕ) → Result (Option X) Fault) (text : X → List ℕ) (Fit : X → Type 0) where
  lines_text_more : (x : X) (xs : List X) → lines_text text (x ∷ xs) ≡ text x ++ (10 ∷ lines_text text xs)
  unfolding lines_text
  lines_text_more x xs =
      append_assoc (text x ++ (10 ∷ [])) (flat_map (λ y. text y ++ (10 ∷ [])) xs) (codes "end" ++ (10 ∷ []))
      ∙ append_assoc (text x) (10 ∷ []) (lines_text text xs)

  -- each line is the text of what it says
  module _ (exact : (at : Place) (line : List ℕ) (said : Option X) → says at (fields line) ≡ Ok said → MatchOption said (line ≡ codes "end") (λ x. (line ≡ text x) × Fit x)) where
    lines_exact : (at : Place) (ls : List (List ℕ)) (rest : List ℕ) (all : List X) → lines_say says at ls rest ≡ Ok all → (flat_map (λ l. l ++ (10 ∷ [])) ls ++ rest ≡ lines_text text all) × AllByRecursion Fit all
    unfolding lines_say lines_text
    lines_exact at [] rest all e = failed _ all _ refl e
    lines_exact at (line ∷ ls) rest all e = let one = went (says at (fields line)) _ all e in by one.first (exact at line one.first one.was) one.so (λ xs. lines_exact (next at line) ls rest xs)
      where
        back : List ℕ
        back = flat_map (λ l. l ++ (10 ∷ [])) ls

        closed : (gs : List (List ℕ)) (r : List ℕ) → line ≡ codes "end" → closes [] (next at line) gs r ≡ Ok all
            → ((((line ++ (10 ∷ [])) ++ flat_map (λ l. l ++ (10 ∷ [])) gs) ++ r) ≡ lines_text text all) × AllByRecursion Fit all
        closed [] [] is f =
            let same : [] ≡ all = cc in
            subst (λ xs. ((((line ++ (10 ∷ [])) ++ []) ++ []) ≡ lines_text text xs) × AllByRecursion Fit xs) same
            (append-nil ((line ++ (10 ∷ [])) ++ []) ∙ append-nil (line ++ (10 ∷ [])) ∙ ap (λ l. l ++ (10 ∷ [])) is, tt)
        closed [] (b ∷ r) is f = failed _ all _ refl f
        closed (g ∷ gs) r is f = failed _ all _ refl f

        by : (said : Option X) → MatchOption said (line ≡ codes "end") (λ x. (line ≡ text x) × Fit x) → by_said says at line ls rest (Ok said) ≡ Ok all
            → ((xs : List X) → lines_say says (next at line) ls rest ≡ Ok xs → (back ++ rest ≡ lines_text text xs) × AllByRecursion Fit xs)
            → ((((line ++ (10 ∷ [])) ++ back) ++ rest) ≡ lines_text text all) × AllByRecursion Fit all
        by None is f more = closed ls rest is f
        by (Some x) is f more =
            let made = made_of (lines_say says (next at line) ls rest) (λ xs. x ∷ xs) all f in
            let others = more made.part made.was in
            let whole : ((line ++ (10 ∷ [])) ++ back) ++ rest ≡ lines_text text (x ∷ made.part) =
            append_assoc (line ++ (10 ∷ [])) back rest ∙ append_assoc line (10 ∷ []) (back ++ rest) ∙ ap₂ (λ l t. l ++ (10 ∷ t)) is.0 others.0 ∙ sym (lines_text_more x made.part) in
            subst (λ xs. ((((line ++ (10 ∷ [])) ++ back) ++ rest) ≡ lines_text text xs) × AllByRecursion Fit xs) made.so (whole, (is.1, others.1))

    -- so a text that is accepted is the text of what it says
    pub text_exact : (t : List ℕ) (at : Place) (all : List X) → text_says says at t ≡ Ok all → (t ≡ lines_text text all) × AllByRecursion Fit all
    text_exact t at all e = let all_of = lines_exact at (split t).whole (split t).rest all e in (text_joined t ∙ all_of.0, all_of.1)

  -- each text is a line, and is accepted
  module _ (again : Place → (x : X) → X) (back : (at : Place) (x : X) → Fit x → says at (fields (text x)) ≡ Ok (Some (again at x))) (ends : (at : Place) → says at (codes "end" ∷ []) ≡ Ok None)
      (free : (x : X) → Fit x → Free 10 (text x)) where
    text_back : (at : Place) (xs : List X) → AllByRecursion Fit xs → (all : List X) × (text_says says at (lines_text text xs) ≡ Ok all)
    unfolding split lines_text fields
    text_back at [] fit =
        let no_end : Free 10 (codes "end") = search rules in
        ([], ap (λ s. lines_say says at s.whole s.rest) (split_newline (codes "end") [] no_end) ∙ lines_say_more says at (codes "end") [] [] (Ok None) (ends at))
    text_back at (x ∷ xs) fit =
        let rest = lines_text text xs in
        let more = text_back (next at (text x)) xs fit.1 in
        let parts : split (lines_text text (x ∷ xs)) ≡ above (text x) (split rest) = ap split (lines_text_more x xs) ∙ split_newline (text x) rest (free x fit.0) in (
          again at x ∷ more.0,
          ap (λ s. lines_say says at s.whole s.rest) parts
              ∙ lines_say_more says at (text x) (split rest).whole (split rest).rest (Ok (Some (again at x))) (back at x fit.0)
              ∙ ap (over (λ ys. again at x ∷ ys)) more.1,
        )

    -- so no text of lines has a fault
    pub no_text : (t : List ℕ) (at : Place) (f : Fault) → text_says says at t ≡ Err f → (xs : List X) → AllByRecursion Fit xs → t ≡ lines_text text xs → ⊥
    no_text t at f e xs fit is = let ok = text_back at xs fit in failed _ ok.0 f e (ap (text_says says at) is ∙ ok.1)

    pub refuses_texts : (t : List ℕ) (at : Place) (why : Refusal) → Refuses (text_says says at t) why → ByFault (λ f. (xs : List X) → AllByRecursion Fit xs → t ≡ lines_text text xs → ⊥) why
    refuses_texts t at (refusal.Fault f) e = no_text t at f e
    refuses_texts t at refusal.Memory e = tt
