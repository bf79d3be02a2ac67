-- What the lines of a script say, one after the other.
use Rattle.std.proofs.Common.{◌≡◌, ℕ, ◌+◌, Bool, true, false, cond, List, [], ◌∷◌, ◌++◌, length, get_or, drop, Some, None, Ok, Err, codes, Option, Result, sym, refl, ap, ◌∙◌, ap₂, arith, length-append}
use Rattle.std.specs.Option.{ok_or}
use Rattle.std.proofs.lemmas.List.{append_assoc, append-nil}
use Rattle.lines.specs.Fields.{fields, split, above}
use Rattle.lines.specs.Places.{further, next}
use Rattle.lines.specs.Texts.{over, closes, text_says, Refuses}
use Rattle.lines.specs.declared.Fault.{Fault}
use Rattle.lines.specs.declared.Fault.TheVariants as fault
use Rattle.lines.specs.declared.Place.{Place}
use Rattle.lines.specs.declared.Refusal.{Refusal}
use Rattle.lines.specs.declared.Refusal.TheVariants as refusal
use Rattle.lines.proofs.Results.{clash, none_from_ok_or, some_from_ok_or, over-over, over-same}
use Rattle.lines.proofs.Texts.{turn_fault, turn_more, turn_end}
use Rattle.labels.specs.declared.sum.Both.{Both}
use Rattle.written.specs.declared.Reading.{Reading}
use Rattle.histories.specs.declared.calls.Call.{Call}
use Rattle.histories.specs.declared.calls.Call.TheVariants as call
use Rattle.label_list.specs.Lists.{styled_reads}
use Rattle.script.specs.declared.verbs.Kind.{Kind}
use Rattle.script.specs.declared.verbs.Kind.TheVariants as kind
use Rattle.script.specs.Lines.{Stated, Line, Symbol, calls, tests, call_of, line_call, line_symbols, calls_of, symbols_of}
use Rattle.script.specs.Reads.{symbols_say, kind_of_word, takes, kind_says, by_kind, line_says}
use Rattle.script.specs.Scripts.{Told, told, Scripted, behind_cuts, script_says, WordRead, said_call, said_symbols, LineRead}
use Rattle.script.proofs.Exact.{kind_exact}

-- a line by its first field, and then by its count of fields
module _ {P : Type 0} (reads : List ℕ → Option (Reading P)) (at : Place) (line word : List ℕ) (first : word ≡ get_or (fields line) 0 []) (o : Option Kind) (kinds : o ≡ kind_of_word word) where
  line_by : line_says reads at (fields line) ≡ by_kind reads at (fields line) o
  unfolding line_says
  line_by = ap (λ w. by_kind reads at (fields line) (kind_of_word w)) (sym first) ∙ ap (by_kind reads at (fields line)) (sym kinds)

  pub line_word : (f : Fault) → Err f ≡ ok_or o (fault.Word at) → line_says reads at (fields line) ≡ Err f
  line_word f e = let none = none_from_ok_or o (fault.Word at) f (sym e) in line_by ∙ ap (by_kind reads at (fields line)) none.0 ∙ ap Err none.1

  module _ (k : Kind) (n : ℕ) (named : Ok k ≡ ok_or o (fault.Word at)) (count : n ≡ length (fields line)) where
    line_of : (t : Bool) → t ≡ takes k n → line_says reads at (fields line) ≡ cond t (kind_says reads at (fields line) k) (Err (fault.Count at))
    line_of t e =
        line_by ∙ ap (by_kind reads at (fields line)) (some_from_ok_or o _ k (sym named)) ∙ ap (λ b. cond b (kind_says reads at (fields line) k) (Err (fault.Count at))) (ap (takes k) (sym count) ∙ sym e)

    pub line_count : false ≡ takes k n → line_says reads at (fields line) ≡ Err (fault.Count at)
    line_count t = line_of false t

    pub line_kind : (k' : Kind) → k ≡ k' → true ≡ takes k n → line_says reads at (fields line) ≡ kind_says reads at (fields line) k'
    line_kind k' same t = line_of true t ∙ ap (kind_says reads at (fields line)) same

    pub line_tests : k ≡ kind.Word → true ≡ takes k n
        → line_says reads at (fields line) ≡ over (λ w. Some (tests w)) (symbols_say (further at (length (get_or (fields line) 0 []) + 1)) (drop 1 (fields line)))
    line_tests same t =
        let is : word ≡ codes "word" = kind_exact word kind.Word (sym kinds ∙ some_from_ok_or o _ k (sym named) ∙ ap Some same) in
        line_kind kind.Word same t ∙ ap (λ w. over (λ s. Some (tests s)) (symbols_say (further at (length w + 1)) (drop 1 (fields line)))) (sym is ∙ first)

-- a call that is read, and its fault
module _ {P : Type 0} (says : Result (Option (Line P)) Fault) where
  pub call_read : (v : Result (Stated P) Fault) (made : Call P) (before : List Symbol) → says ≡ over (λ c. Some (calls c)) v → Ok made ≡ over call_of v → LineRead says before (Some made) before
  call_read (Err f) made before is e = let z : ◌≡◌ {A = ℕ} 0 1 = cc in absurd (omega arith)
  call_read (Ok c) made before is e =
      let same : made ≡ call_of c = cc in
      record { said = Some (calls c); is = is; call = ap Some same; grown = sym (append-nil before) }

  pub call_fault : (v : Result (Stated P) Fault) (f : Fault) → says ≡ over (λ c. Some (calls c)) v → Err f ≡ over call_of v → says ≡ Err f
  call_fault (Err g) f is e = let same : g ≡ f = cc in is ∙ ap Err same
  call_fault (Ok c) f is e = let z : ◌≡◌ {A = ℕ} 0 1 = cc in absurd (omega arith)

  pub read_word : (r : Result (List Symbol) Fault) (made : Call P) (before after : List Symbol) → says ≡ over (λ w. Some (tests w)) r → WordRead r before made after → LineRead says before (Some made) after
  read_word r made before after is t =
      record { said = Some (tests t.word); is = is ∙ ap (over (λ w. Some (tests w))) t.is; call = ap Some t.call; grown = t.grown }

  pub word_refuses : (r : Result (List Symbol) Fault) (why : Refusal) → says ≡ over (λ w. Some (tests w)) r → Refuses r why → Refuses says why
  word_refuses r (refusal.Fault f) is e = is ∙ ap (over (λ w. Some (tests w))) e
  word_refuses r refusal.Memory is e = tt

  pub read_end : (before : List Symbol) → says ≡ Ok None → LineRead says before None before
  read_end before is = record { said = None; is = is; call = refl; grown = sym (append-nil before) }

-- a word that was read
word_by : {P : Type 0} (r : Result (List Symbol) Fault) (before after : List Symbol) → over (λ w. before ++ w) r ≡ Ok after → WordRead {P = P} r before (call.TestWord (length before) (length after)) after
word_by (Err f) before after e = let z : ◌≡◌ {A = ℕ} 0 1 = cc in absurd (omega arith)
word_by (Ok w) before after e =
    let same : before ++ w ≡ after = cc in
    record { word = w; is = refl; call = ap (call.TestWord (length before)) (sym (ap length same) ∙ length-append before w); grown = sym same }

pub word_some : {P : Type 0} (r : Result (List Symbol) Fault) (before after : List Symbol) (from to : ℕ) → over (λ w. before ++ w) r ≡ Ok after → from ≡ length before → to ≡ length after
    → WordRead {P = P} r before (call.TestWord from to) after
word_some r before after from to e f t =
    let made = word_by r before after e in
    record { word = made.word; is = made.is; call = ap₂ call.TestWord f t ∙ made.call; grown = made.grown }

-- the fields behind the first, from where they begin
pub refuses_here : (from at : Place) (fs gs : List (List ℕ)) (why : Refusal) → from ≡ at → fs ≡ gs → Refuses (symbols_say from fs) why → Refuses (symbols_say at gs) why
refuses_here from at fs gs (refusal.Fault f) place is e = ap₂ symbols_say (sym place) (sym is) ∙ e
refuses_here from at fs gs refusal.Memory place is e = tt

-- a line more, told
told_more : {P : Type 0} (cs : List (Call P)) (ss : List Symbol) (x : Line P) (xs : List (Line P)) → told cs ss (x ∷ xs) ≡ told (cs ++ (line_call (length ss) x ∷ [])) (ss ++ line_symbols x) xs
unfolding calls_of symbols_of
told_more cs ss x xs =
    ap₂ (λ a b. record { calls = a; symbols = b })
    (sym (append_assoc cs (line_call (length ss) x ∷ []) (calls_of (length ss + length (line_symbols x)) xs)) ∙ ap (λ n. (cs ++ (line_call (length ss) x ∷ [])) ++ calls_of n xs) (sym (length-append ss (line_symbols x))))
    (sym (append_assoc ss (line_symbols x) (symbols_of xs)))

told_none : {P : Type 0} (cs : List (Call P)) (ss : List Symbol) → told cs ss [] ≡ record { calls = cs; symbols = ss }
unfolding calls_of symbols_of
told_none cs ss = ap₂ (λ a b. record { calls = a; symbols = b }) (append-nil cs) (append-nil ss)

-- a turn at what is left
module _ {P : Type 0} (reads : List ℕ → Option (Reading P)) (whole : Result (Told P) Fault) (cs : List (Call P)) (ss : List Symbol) (at : Place) (left : List ℕ)
    (so : whole ≡ over (told cs ss) (text_says (line_says reads) at left)) (line rest : List ℕ) (is : split left ≡ above line (split rest)) (here : Place) (same_place : here ≡ at) where
  moved : {X : Type 0} (F : Place → X) → F here ≡ F at
  moved F = ap F same_place

  pub turn_call : (at' : Place) (made : Call P) (o : Option (Call P)) (after : List Symbol) (next_calls : List (Call P)) → at' ≡ next at line → o ≡ Some made → LineRead (line_says reads here (fields line)) ss o after → next_calls ≡ cs ++ (made ∷ [])
      → whole ≡ over (told next_calls after) (text_says (line_says reads) at' rest)
  turn_call at' made o after next_calls further some adds grown = by adds.said (sym (moved (λ q. line_says reads q (fields line))) ∙ adds.is) (sym some ∙ adds.call) adds.grown
    where
      by : (said : Option (Line P)) → line_says reads at (fields line) ≡ Ok said → Some made ≡ said_call (length ss) said → after ≡ ss ++ said_symbols said
          → whole ≡ over (told next_calls after) (text_says (line_says reads) at' rest)
      by None e c g = clash _ made refl (sym c)
      by (Some x) e c g =
          let same : made ≡ line_call (length ss) x = cc in
          turn_more (line_says reads) whole (told cs ss) at left so line rest is x (told next_calls after) e
          (λ xs. told_more cs ss x xs ∙ ap₂ (λ a b. told a b xs) (ap (λ m. cs ++ (m ∷ [])) (sym same) ∙ sym grown) (sym g))
          ∙ ap (λ q. over (told next_calls after) (text_says (line_says reads) q rest)) (sym further)

  pub turn_last : (at' : Place) (o : Option (Call P)) (after : List Symbol) (r : Result (Unit {0}) Fault) → at' ≡ next at line → o ≡ None → LineRead (line_says reads here (fields line)) ss o after
      → r ≡ closes tt at' (split rest).whole (split rest).rest → whole ≡ over (λ _. record { calls = cs; symbols = after }) r
  turn_last at' o after r further none adds ends = by adds.said (sym (moved (λ q. line_says reads q (fields line))) ∙ adds.is) (sym none ∙ adds.call) adds.grown
    where
      by : (said : Option (Line P)) → line_says reads at (fields line) ≡ Ok said → None ≡ said_call (length ss) said → after ≡ ss ++ said_symbols said
          → whole ≡ over (λ _. record { calls = cs; symbols = after }) r
      by None e c g =
          turn_end (line_says reads) whole (told cs ss) at left so line rest is r e (ends ∙ ap (λ q. closes tt q (split rest).whole (split rest).rest) further)
          ∙ over-same (λ _. told cs ss []) (λ _. record { calls = cs; symbols = after }) (λ _. told_none cs ss ∙ ap (λ b. record { calls = cs; symbols = b }) (sym (append-nil ss) ∙ sym g)) r
      by (Some x) e c g = clash _ _ (sym c) refl

  pub turn_refused : (why : Refusal) → Refuses (line_says reads here (fields line)) why → Refuses whole why
  turn_refused (refusal.Fault f) e = turn_fault (line_says reads) whole (told cs ss) at left so line rest is f (sym (moved (λ q. line_says reads q (fields line))) ∙ e)
  turn_refused refusal.Memory e = tt

-- a refusal of the lines is one of the script
pub script_refuses : (text cuts : List ℕ) (at : Place) (rest : List ℕ) (why : Refusal) → script_says text ≡ behind_cuts cuts at (split rest).whole (split rest).rest
    → Refuses (text_says (line_says (styled_reads cuts)) at rest) why → Refuses (script_says text) why
script_refuses text cuts at rest (refusal.Fault f) is says = is ∙ ap (over {Y = Scripted} (λ xs. record { cuts = cuts; told = told [] [] xs })) says
script_refuses text cuts at rest refusal.Memory is says = tt

pub script_read : (text cuts : List ℕ) (at : Place) (rest : List ℕ) (t : Told (Both ℕ ℕ)) → script_says text ≡ behind_cuts cuts at (split rest).whole (split rest).rest
    → over (told [] []) (text_says (line_says (styled_reads cuts)) at rest) ≡ Ok t → script_says text ≡ Ok (record { cuts = cuts; told = t })
script_read text cuts at rest t is says = is ∙ sym (over-over {Z = Scripted} (λ u. record { cuts = cuts; told = u }) (told [] []) (text_says (line_says (styled_reads cuts)) at rest)) ∙ ap (over {Y = Scripted} (λ u. record { cuts = cuts; told = u })) says
