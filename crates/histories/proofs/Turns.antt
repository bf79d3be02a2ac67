-- A history that is carried out call by call. Assumes nothing.
use Rattle.std.proofs.Common.{◌≡◌, ℕ, ◌+◌, ◌<◌, Bool, List, [], ◌∷◌, ◌++◌, length, get_or, Ok, take, drop, set, sym, refl, ap, ◌∙◌, subst, inl, inr, arith, drop-drop}
use Rattle.std.proofs.lemmas.List.{take_more, take_more_set, drop-set-lt}
use Rattle.histories.specs.declared.calls.Call.{Call}
use Rattle.reduction.specs.declared.Counts.{Counts}
use Rattle.histories.specs.declared.calls.Call.TheVariants.{Reduce}
use Rattle.histories.specs.declared.calls.Answer.TheVariants as answer
use Rattle.histories.specs.Present.{left_by, present, ticket_by, ticket_after}
use Rattle.rulebook.specs.Model.{Abstract}
use Rattle.histories.specs.declared.scene.Scene.{Scene}
use Rattle.histories.specs.Held.{SameLoans}
use Rattle.histories.specs.Moments.{Moment, Said, Whole, Start, ReducedRight, Step, History}

module _ {P V : Type 0} (text : List V) (holds : P → V → Bool) (sat : P → Bool) where
  -- less is known of the start
  pub step_from : {W X : Type 0} {m n : Moment P} {c : Call P} {a : Said} → (W → X) → Step X text holds sat m c a n → Step W text holds sat m c a n
  step_from f s = record { book = s.book; beside = s.beside; says = s.says; kept = s.kept; within = s.within; right = λ w. s.right (f w); whole = λ w. s.whole (f w) }

  module _ (W : Type 0) where
    pub history_more : (m n k : Moment P) (cs : List (Call P)) (as' : List Said) (c : Call P) (a : Said) → History W text holds sat m cs as' n → Step W text holds sat n c a k → History W text holds sat m (cs ++ (c ∷ [])) (as' ++ (a ∷ [])) k
    history_more m n k [] [] c a h s = (k, subst (λ x. Step W text holds sat x c a k) h s, refl)
    history_more m n k [] (b ∷ as') c a h s = absurd h
    history_more m n k (d ∷ cs) [] c a h s = absurd h
    history_more m n k (d ∷ cs) (b ∷ as') c a h s = (h.0, h.1, history_more h.0 n k cs as' c a h.2 s)

    pub history_whole : (m n : Moment P) (cs : List (Call P)) (as' : List Said) → History W text holds sat m cs as' n → (W → Whole holds m) → W → Whole holds n
    history_whole m n [] [] h f w = subst (Whole holds) (sym h) (f w)
    history_whole m n [] (b ∷ as') h f w = absurd h
    history_whole m n (d ∷ cs) [] h f w = absurd h
    history_whole m n (d ∷ cs) (b ∷ as') h f w = history_whole h.0 n cs as' h.2 h.1.whole w

    pub history_present : (m n : Moment P) (cs : List (Call P)) (as' : List Said) → History W text holds sat m cs as' n → n.book ≡ present sat m.book cs
    history_present m n [] [] h = ap (λ x. x.book) h
    history_present m n [] (b ∷ as') h = absurd h
    history_present m n (d ∷ cs) [] h = absurd h
    history_present m n (d ∷ cs) (b ∷ as') h = history_present h.0 n cs as' h.2 ∙ ap (λ x. present sat x cs) h.1.book

    -- one turn: the call at i, and its answer at the place i
    pub history_turn : (m n k : Moment P) (cs : List (Call P)) (as' : List Said) (i : ℕ) (c : Call P) (a : Said) → (W → Whole holds m) → i < length cs → i < length as' → c ≡ get_or cs i c
        → History W text holds sat m (take i cs) (take i as') n → Step (Whole holds n) text holds sat n c a k → History W text holds sat m (take (i + 1) cs) (take (i + 1) (set as' i a)) k
    history_turn m n k cs as' i c a f hc ha read h s =
        let calls : take i cs ++ (c ∷ []) ≡ take (i + 1) cs = ap (λ x. take i cs ++ (x ∷ [])) read ∙ sym (take_more cs i c hc) in
        let answers : take i as' ++ (a ∷ []) ≡ take (i + 1) (set as' i a) = sym (take_more_set as' i a ha) in
        subst (λ x. History W text holds sat m x (take (i + 1) (set as' i a)) k) calls
        (subst (λ x. History W text holds sat m (take i cs ++ (c ∷ [])) x k) answers
        (history_more m n k (take i cs) (take i as') c a h (step_from (history_whole m n (take i cs) (take i as') h f) s)))

-- a last call more
ticket_more : {P : Type 0} (sat : P → Bool) (b : Abstract P) (h : Bool) (cs : List (Call P)) (c : Call P) → ticket_after sat b h (cs ++ (c ∷ [])) ≡ ticket_by (present sat b cs) (ticket_after sat b h cs) c
ticket_more sat b h [] c = refl
ticket_more sat b h (d ∷ cs) c = ticket_more sat (left_by sat b d) (ticket_by b h d) cs c

-- whether a ticket is held, after one turn more
pub ticket_turn : {P : Type 0} (sat : P → Bool) (b n : Abstract P) (h o x : Bool) (cs : List (Call P)) (i : ℕ) (c : Call P) → i < length cs → c ≡ get_or cs i c
    → n ≡ present sat b (take i cs) → o ≡ ticket_after sat b h (take i cs) → x ≡ ticket_by n o c → x ≡ ticket_after sat b h (take (i + 1) cs)
ticket_turn sat b n h o x cs i c lt read here was is =
    let calls : take i cs ++ (c ∷ []) ≡ take (i + 1) cs = ap (λ y. take i cs ++ (y ∷ [])) read ∙ sym (take_more cs i c lt) in
    is ∙ ap (λ y. ticket_by y o c) here ∙ ap (λ y. ticket_by (present sat b (take i cs)) y c) was ∙ sym (ticket_more sat b h (take i cs) c) ∙ ap (ticket_after sat b h) calls

-- a start keeps the right pairs
pub start_whole : {P V : Type 0} (holds : P → V → Bool) (m : Moment P) → Start holds m → Whole holds m
start_whole holds m (inl e) s p q hp hq = let none = ap length e in absurd (omega arith)
start_whole holds m (inr w) s p q hp hq = w s p q hp hq

-- the places behind i + 1 are as they were
pub drop_turn : {X : Type 0} (xs ys : List X) (i : ℕ) (x : X) → drop i xs ≡ drop i ys → drop (i + 1) (set xs i x) ≡ drop (i + 1) ys
drop_turn xs ys i x e = drop-set-lt (i + 1) xs i x (omega arith) ∙ sym (drop-drop 1 i xs) ∙ ap (drop 1) e ∙ drop-drop 1 i ys

-- a last call: the history goes one call further, and a reduction is right where the start is. The text is the start's.
module _ {P V : Type 0} (text text' : List V) (holds : P → V → Bool) (sat : P → Bool) (m n k : Moment P) (cs : List (Call P)) (as' : List Said) (a : Said) (same : text' ≡ text)
    (h : History (Start holds m) text holds sat m cs as' n) (s : Step (Whole holds n) text' holds sat n Reduce a k) where
  whole : Start holds m → Whole holds n
  whole = history_whole text holds sat (Start holds m) m n cs as' h (start_whole holds m)

  pub history_reduced : History (Start holds m) text holds sat m (cs ++ (Reduce ∷ [])) (as' ++ (a ∷ [])) k
  history_reduced = history_more text holds sat (Start holds m) m n k cs as' Reduce a h (step_from text holds sat whole (subst (λ t. Step (Whole holds n) t holds sat n Reduce a k) same s))

  pub reduced_right : (c : Counts) → a ≡ Ok (answer.Counts c) → Start holds m → ReducedRight holds (present sat m.book cs) k.target k.order c
  reduced_right c e w = subst (λ x. ReducedRight holds x k.target k.order c) (history_present text holds sat (Start holds m) m n cs as' h) (s.right (whole w) c e)

-- what is lent, from one turn to the next
pub loans_more : {P V : Type 0} {a b c : Scene P V} → SameLoans a b → SameLoans b c → SameLoans a c
loans_more s r = record { text = r.text ∙ s.text; words = r.words ∙ s.words; book = r.book ∙ s.book; target = r.target ∙ s.target; table = r.table ∙ s.table; into = r.into ∙ s.into }
