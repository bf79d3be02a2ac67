-- One step of the word test, and all steps. Assumes nothing.
use Rattle.std.proofs.Common.{◌≡◌, ℕ, ◌+◌, ◌<◌, ◌≤◌, Bool, true, false, T, List, [], ◌∷◌, length, get_or, drop, Decides, sym, ap, ◌∙◌, subst, inl, inr, arith}
use Rattle.std.specs.List.{AllWithin, AllByRecursion}
use Rattle.std.proofs.lemmas.List.Elements.{AllWithin-more, at_read}
use Rattle.std.proofs.ByRecursion.{all_from_every}
use Rattle.std.proofs.lemmas.List.{drop_more, drop_all}
use Rattle.std.proofs.lemmas.Bool.{cases_eq, cases_lt, both_ways}
use Rattle.bits.specs.Matrix.{pair, Changed}
use Rattle.automata.specs.declared.Arrow.{Arrow}
use Rattle.automata.specs.declared.Mark.{Mark}
use Rattle.automata.specs.declared.Mark.TheVariants.{Neither}
use Rattle.automata.specs.Automata.{Automaton, automaton, some_label, leads, Within, Accepts, AcceptsFrom, mark_accepts}
use Rattle.engine.proofs.Reading.{passes, passed, reads_at, reads_by}
use Rattle.engine.proofs.Gathering.{changed_more}

module _ {P V : Type 0} (h : P → V → Bool) (xs : List (Arrow P)) (live : List ℕ) (a : V) where
  -- a live state reads a to q
  abbrev Led : ℕ → Type 0
  Led q = (p : ℕ) × (pair live 0 p ≡ true) × T (some_label h (leads p q) xs a)

  -- the arrow's target is in `next` if it says so
  abbrev Stepped : List ℕ → Arrow P → Type 0
  Stepped next x = pair live 0 x.source ≡ true → h x.label a ≡ true → pair next 0 x.target ≡ true

  -- so far
  abbrev pub Stepping : List ℕ → ℕ → Type 0
  Stepping next i = ((q : ℕ) → pair next 0 q ≡ true → Led q) × AllWithin (Stepped next) xs 0 i

  pub stepping_more : (old next : List ℕ) (i : ℕ) (x : Arrow P) → i < length xs → x ≡ get_or xs i x → pair live 0 x.source ≡ true → h x.label a ≡ true
      → Changed true old next 0 x.target → Stepping old i → Stepping next (i + 1)
  stepping_more old next i x lt is on l c was =
      let t = x.target in (
        (λ q e. elim (cases_eq q t) [
          | inl same ↦ (x.source, on, reads_at h xs x.source q a i x lt (ap (λ y. y.source) (sym is)) (ap (λ y. y.target) (sym is) ∙ sym same) (ap (λ y. h y.label a) (sym is) ∙ l))
          | inr ne ↦ was.0 q (sym (c.others 0 q (λ _ s. ne s)) ∙ e)
        ]),
        AllWithin-more (Stepped next) xs 0 i (λ k d z u on l. changed_more old next 0 t c 0 (get_or xs k d).target (was.1 k d z u on l))
            (at_read xs (Stepped next) i x lt is (λ _ _. c.here)),
      )

  pub stepping_past : (next : List ℕ) (i : ℕ) (x : Arrow P) → i < length xs → x ≡ get_or xs i x → (pair live 0 x.source ≡ true → h x.label a ≡ true → ⊥)
      → Stepping next i → Stepping next (i + 1)
  stepping_past next i x lt is off was =
      (was.0, AllWithin-more (Stepped next) xs 0 i was.1 (at_read xs (Stepped next) i x lt is (λ on l. absurd (off on l))))

  pub stepping_all : (next : List ℕ) (i : ℕ) → length xs ≤ i → Stepping next i → (q : ℕ) → Decides (pair next 0 q) (Led q)
  stepping_all next i top was q = (
    was.0 q,
    λ r. let f = reads_by h xs r.0 q a (Stepped next) (all_from_every (Stepped next) xs (λ k d z u. was.1 k d z (omega arith))) r.2 in
        ap (pair next 0) (sym f.3) ∙ f.1 (ap (pair live 0) f.2 ∙ r.1) f.4,
  )

-- ---- all steps

module _ {V : Type 0} (M : Automaton V) where
  -- from some live state the rest is accepted
  abbrev pub Alive : List ℕ → List V → Type 0
  Alive live w = (p : ℕ) × (p < M.size) × (pair live 0 p ≡ true) × AcceptsFrom M p w

  -- the word is accepted exactly where the rest is, from some live state
  abbrev pub Tested : List V → List ℕ → ℕ → Type 0
  Tested word live i = (Accepts M word → Alive live (drop i word)) × (Alive live (drop i word) → Accepts M word)

  pub tested_none : (word : List V) (live : List ℕ) → ((p : ℕ) → pair live 0 p ≡ M.initial p) → Tested word live 0
  tested_none word live is = (
    (λ t. (t.0, t.1, is t.0 ∙ passed (M.initial t.0) t.2, t.3)),
    (λ t. (t.0, t.1, passes (M.initial t.0) (sym (is t.0) ∙ t.2), t.3)),
  )

  pub tested_more : (word : List V) (live next : List ℕ) (i : ℕ) (a : V) → i < length word → a ≡ get_or word i a → ((p q : ℕ) → T (M.reads p a q) → p < M.size)
      → ((q : ℕ) → Decides (pair next 0 q) ((p : ℕ) × (pair live 0 p ≡ true) × T (M.reads p a q))) → Tested word live i → Tested word next (i + 1)
  tested_more word live next i a lt is within led was =
      let rest : drop i word ≡ a ∷ drop (i + 1) word = drop_more word i a lt ∙ ap (λ y. y ∷ drop (i + 1) word) (sym is) in (
        (λ t. let s = subst (Alive live) rest (was.0 t) in
            let m = s.3 in
            (m.0, m.1, (led m.0).1 (s.0, s.2, m.2), m.3)),
        (λ t. let s = (led t.0).0 t.2 in
            was.1 (subst (Alive live) (sym rest) (s.0, within s.0 t.0 s.2, s.1, (t.0, t.1, s.2, t.3)))),
      )

  pub tested_all : (word : List V) (live : List ℕ) (i : ℕ) (r : Bool) → length word ≤ i → Tested word live i → Decides r (Alive live []) → Decides r (Accepts M word)
  tested_all word live i r top was d =
      let rest = drop_all i word top in
      ((λ e. was.1 (subst (Alive live) (sym rest) (d.0 e))), (λ t. d.1 (subst (Alive live) rest (was.0 t))))

-- a state that reads is a state
pub reads_within : {P V : Type 0} (h : P → V → Bool) (marks : List Mark) (xs : List (Arrow P)) → AllByRecursion (Within (length marks)) xs → (a : V) (p q : ℕ) → T ((automaton h marks xs).reads p a q) → p < length marks
reads_within h marks xs within a p q t = let f = reads_by h xs p q a (Within (length marks)) within t in subst (λ y. y < length marks) f.2 f.1.0

-- an accepting state is live
pub alive_last : {P V : Type 0} (h : P → V → Bool) (marks : List Mark) (xs : List (Arrow P)) (live last : List ℕ) (r : Bool)
    → ((q : ℕ) → q < length marks → pair last 0 q ≡ mark_accepts (get_or marks q Neither)) → ((q : ℕ) → length marks ≤ q → pair last 0 q ≡ false)
    → Decides r ((q : ℕ) × (pair last 0 q ≡ true) × (pair live 0 q ≡ true)) → Decides r (Alive (automaton h marks xs) live [])
alive_last h marks xs live last r some past d = (
  (λ e. let m = d.0 e in
      let lt : m.0 < length marks = elim (cases_lt m.0 (length marks)) [ inl l ↦ l | inr g ↦ absurd (both_ways (pair last 0 m.0) (past m.0 g) m.1) ] in
      (m.0, lt, m.2, passes (mark_accepts (get_or marks m.0 Neither)) (sym (some m.0 lt) ∙ m.1))),
  (λ a. d.1 (a.0, some a.0 a.1 ∙ passed (mark_accepts (get_or marks a.0 Neither)) a.3, a.2)),
)
