-- A line that is accepted is made of the fields of what it says.
use Rattle.std.proofs.Common.{◌≡◌, ℕ, ◌+◌, ◌^◌, ◌<◌, ◌≤◌, Bool, true, false, cond, eqb, leb, List, [], ◌∷◌, ◌++◌, map, length, get_or, drop, Some, None, Ok, Err, codes, decimal, Option, Result, sym, refl, ap, ◌∙◌, subst, arith}
use Rattle.std.specs.Option.{option_map, ok_or}
use Rattle.std.specs.List.{AllByRecursion}
use Rattle.std.specs.Str.{bytes_eq}
use Rattle.std.proofs.lemmas.Slice.Eq.{bytes_eq-Decides}
use Rattle.std.proofs.lemmas.List.{drop_all, drop_more}
use Rattle.std.proofs.lemmas.Bool.{and_parts, eqb-true, leb-true, leb-false}
use Rattle.automata.specs.declared.Mark.{Mark}
use Rattle.automata.specs.declared.Mark.TheVariants as mark
use Rattle.labels.specs.declared.sum.Either.TheVariants.{Left, Right}
use Rattle.lines.specs.Numbers.{number_in}
use Rattle.lines.specs.declared.Fault.{Fault}
use Rattle.lines.specs.declared.Fault.TheVariants as fault
use Rattle.lines.specs.declared.Place.{Place}
use Rattle.lines.proofs.Numbers.{number_in_cases}
use Rattle.written.specs.declared.Reading.{Reading}
use Rattle.label_list.proofs.Law.{text_from_whole}
use Rattle.label_list.specs.Lists.{label_at}
use Rattle.lines.specs.Places.{further}
use Rattle.lines.specs.Texts.{over}
use Rattle.lines.proofs.Parts.{shape_1, shape_2, shape_3, shape_4}
use Rattle.lines.proofs.Results.{clash, failed, went, made_of, some_from_ok_or}
use Rattle.script.specs.declared.verbs.Verb.{Verb}
use Rattle.script.specs.declared.verbs.Verb.TheVariants as verb
use Rattle.script.specs.declared.verbs.Kind.{Kind}
use Rattle.script.specs.declared.verbs.Kind.TheVariants as kind
use Rattle.script.specs.Lines.{Stated, Line, Symbol, opens, adds, marks, links, strikes, settles, asks, copies, reduces, calls, tests, FitsTicket, FitsCall, FitsSymbol, Fits, mark_text, ticket_fields, call_fields, symbol_text, line_fields}
use Rattle.script.specs.Reads.{number_at, ticket_said_at, mark_in, mark_at_place, symbol_in, symbols_say, kind_of_word, least, edits, takes, verb_says, kind_says, by_kind, line_says}

-- the fields
number_exact : (most : ℕ) (field : List ℕ) (n : ℕ) → most < 2 ^ 64 → number_in most field ≡ Some n → (n ≤ most) × (field ≡ decimal n)
number_exact most field n small e = number_in_cases most field (Some n) small (sym e)

-- the choice of one of several words
pick : {X : Type 0} (text : X → List ℕ) (word : List ℕ) (chosen x : X) (more : Option X) → (more ≡ Some chosen → word ≡ text chosen) → cond (bytes_eq word (text x)) (Some x) more ≡ Some chosen → word ≡ text chosen
pick text word chosen x more rest f = by (bytes_eq word (text x)) refl f
  where
    by : (t : Bool) → bytes_eq word (text x) ≡ t → cond t (Some x) more ≡ Some chosen → word ≡ text chosen
    by true t f = let same : x ≡ chosen = cc in (bytes_eq-Decides word (text x)).0 t ∙ ap text same
    by false t f = rest f

mark_exact : (field : List ℕ) (m : Mark) → mark_in field ≡ Some m → field ≡ mark_text m
mark_exact field m e =
    pick mark_text field m mark.Neither _ (pick mark_text field m mark.Initial _ (pick mark_text field m mark.Accepting _ (pick mark_text field m mark.Both _ (λ none. clash _ m refl none)))) e

symbol_exact : (field : List ℕ) (s : Symbol) → symbol_in field ≡ Some s → (field ≡ symbol_text s) × FitsSymbol s
unfolding symbol_in
symbol_exact [] s e = clash _ s refl e
symbol_exact (c ∷ digits) s e = by_mark (eqb c 109) refl e
  where
    left : (o : Option ℕ) → c ≡ 109 → number_in 255 digits ≡ o → option_map Left o ≡ Some s → (c ∷ digits ≡ symbol_text s) × FitsSymbol s
    left None is n f = clash _ s refl f
    left (Some k) is n f =
        let same : Left k ≡ s = cc in
        let exact = number_exact 255 digits k (omega arith) n in
        let whole : c ∷ digits ≡ 109 ∷ decimal k = cc in
        subst (λ t. (c ∷ digits ≡ symbol_text t) × FitsSymbol t) same (whole, exact.0)

    right : (o : Option ℕ) → c ≡ 99 → number_in 4294967295 digits ≡ o → option_map Right o ≡ Some s → (c ∷ digits ≡ symbol_text s) × FitsSymbol s
    right None is n f = clash _ s refl f
    right (Some k) is n f =
        let same : Right k ≡ s = cc in
        let exact = number_exact 4294967295 digits k (omega arith) n in
        let whole : c ∷ digits ≡ 99 ∷ decimal k = cc in
        subst (λ t. (c ∷ digits ≡ symbol_text t) × FitsSymbol t) same (whole, exact.0)

    by_point : (t : Bool) → eqb c 99 ≡ t → cond t (option_map Right (number_in 4294967295 digits)) None ≡ Some s → (c ∷ digits ≡ symbol_text s) × FitsSymbol s
    by_point true t f = right (number_in 4294967295 digits) (eqb-true c 99 t) refl f
    by_point false t f = clash _ s refl f

    by_mark : (t : Bool) → eqb c 109 ≡ t → cond t (option_map Left (number_in 255 digits)) (cond (eqb c 99) (option_map Right (number_in 4294967295 digits)) None) ≡ Some s → (c ∷ digits ≡ symbol_text s) × FitsSymbol s
    by_mark true t f = left (number_in 255 digits) (eqb-true c 109 t) refl f
    by_mark false t f = by_point (eqb c 99) refl f

symbols_exact : (at : Place) (fs : List (List ℕ)) (w : List Symbol) → symbols_say at fs ≡ Ok w → (fs ≡ map symbol_text w) × AllByRecursion FitsSymbol w
unfolding symbols_say
symbols_exact at [] w e = let same : [] ≡ w = cc in subst (λ u. ([] ≡ map symbol_text u) × AllByRecursion FitsSymbol u) same (refl, tt)
symbols_exact at (f ∷ fs) w e =
    let one = went (ok_or (symbol_in f) (fault.Number at)) _ w e in
    let rest = made_of (symbols_say (further at (length f + 1)) fs) (λ ss. one.first ∷ ss) w one.so in
    let here = symbol_exact f one.first (some_from_ok_or (symbol_in f) (fault.Number at) one.first one.was) in
    let more = symbols_exact (further at (length f + 1)) fs rest.part rest.was in
    let whole : f ∷ fs ≡ symbol_text one.first ∷ map symbol_text rest.part = cc (here.0, more.0) in
    subst (λ u. (f ∷ fs ≡ map symbol_text u) × AllByRecursion FitsSymbol u) rest.so (whole, (here.1, more.1))

-- the word of a kind
abbrev pub verb_text : Verb → List ℕ
verb_text verb.Open = codes "open"
verb_text verb.State = codes "state"
verb_text verb.Mark = codes "mark"
verb_text verb.Arrow = codes "arrow"
verb_text verb.Strike = codes "strike"
verb_text verb.Settle = codes "settle"
verb_text verb.Ask = codes "ask"
verb_text verb.Rows = codes "rows"
verb_text verb.Reduce = codes "reduce"

abbrev pub kind_text : Kind → List ℕ
kind_text (kind.Call v) = verb_text v
kind_text kind.Word = codes "word"
kind_text kind.End = codes "end"

pub kind_exact : (word : List ℕ) (k : Kind) → kind_of_word word ≡ Some k → word ≡ kind_text k
kind_exact word k e =
    call verb.Open _ (call verb.State _ (call verb.Mark _ (call verb.Arrow _ (call verb.Strike _ (call verb.Settle _
    (call verb.Ask _ (call verb.Rows _ (pick kind_text word k kind.Word _ (call verb.Reduce _ (pick kind_text word k kind.End _ (λ none. clash _ k refl none))))))))))) e
  where
    call : (v : Verb) (more : Option Kind) → (more ≡ Some k → word ≡ kind_text k) → cond (bytes_eq word (verb_text v)) (Some (kind.Call v)) more ≡ Some k → word ≡ kind_text k
    call v = pick kind_text word k (kind.Call v)

-- a ticket, or nothing, is all that may follow
ticket_exact : (at : Place) (fs : List (List ℕ)) (k : ℕ) (t : Option ℕ) → length fs ≤ k + 1 → ticket_said_at at fs k ≡ Ok t → (drop k fs ≡ ticket_fields t) × FitsTicket t
ticket_exact at fs k t many e = by (leb (length fs) k) refl e
  where
    by : (b : Bool) → leb (length fs) k ≡ b → cond b (Ok None) (over Some (number_at 4294967295 at fs k)) ≡ Ok t → (drop k fs ≡ ticket_fields t) × FitsTicket t
    by true none f =
        let same : None ≡ t = cc in
        subst (λ u. (drop k fs ≡ ticket_fields u) × FitsTicket u) same (drop_all k fs (leb-true (length fs) k none), tt)
    by false some f =
        let inside = leb-false (length fs) k some in
        let got = made_of (number_at 4294967295 at fs k) Some t f in
        let exact = number_exact 4294967295 (get_or fs k []) got.part (omega arith) (some_from_ok_or _ _ got.part got.was) in
        let rest : drop (k + 1) fs ≡ [] = drop_all (k + 1) fs many in
        let whole : drop k fs ≡ decimal got.part ∷ [] = cc (drop_more fs k [] inside, rest, exact.1) in
        subst (λ u. (drop k fs ≡ ticket_fields u) × FitsTicket u) got.so (whole, exact.0)

number_at_exact : (at : Place) (fs : List (List ℕ)) (k n : ℕ) → number_at 65535 at fs k ≡ Ok n → (n ≤ 65535) × (get_or fs k [] ≡ decimal n)
number_at_exact at fs k n e = number_exact 65535 (get_or fs k []) n (omega arith) (some_from_ok_or _ _ n e)

mark_at_exact : (at : Place) (fs : List (List ℕ)) (k : ℕ) (m : Mark) → mark_at_place at fs k ≡ Ok m → get_or fs k [] ≡ mark_text m
mark_at_exact at fs k m e = mark_exact (get_or fs k []) m (some_from_ok_or _ _ m e)

-- what was read has as its text the very bytes taken
module _ {P : Type 0} (text : P → List ℕ) (reads : List ℕ → Option (Reading P))
    (exact : (bytes : List ℕ) (got : Reading P) → reads bytes ≡ Some got → (got.len ≡ length (text got.predicate)) × (bytes ≡ text got.predicate ++ drop got.len bytes)) where
  module _ (at : Place) (fs : List (List ℕ)) where
    -- a call is stated by just these fields
    abbrev States : Stated P → Type 0
    States c = (fs ≡ call_fields text c) × FitsCall c

    state_exact : (c : Stated P) → 2 ≤ length fs → length fs ≤ 3 → get_or fs 0 [] ≡ codes "state" → verb_says reads at fs verb.State ≡ Ok c → States c
    state_exact c few many word e =
        let m = went (mark_at_place at fs 1) _ c e in
        let t = made_of (ticket_said_at at fs 2) (adds m.first) c m.so in
        let mark = mark_at_exact at fs 1 m.first m.was in
        let ticket = ticket_exact at fs 2 t.part many t.was in
        let whole : fs ≡ codes "state" ∷ mark_text m.first ∷ ticket_fields t.part = cc (shape_2 fs few, ticket.0) in
        subst States t.so (whole, ticket.1)

    mark_says_exact : (c : Stated P) → 3 ≤ length fs → length fs ≤ 4 → get_or fs 0 [] ≡ codes "mark" → verb_says reads at fs verb.Mark ≡ Ok c → States c
    mark_says_exact c few many word e =
        let s = went (number_at 65535 at fs 1) _ c e in
        let m = went (mark_at_place at fs 2) _ c s.so in
        let t = made_of (ticket_said_at at fs 3) (marks s.first m.first) c m.so in
        let state = number_at_exact at fs 1 s.first s.was in
        let mark = mark_at_exact at fs 2 m.first m.was in
        let ticket = ticket_exact at fs 3 t.part many t.was in
        let whole : fs ≡ codes "mark" ∷ decimal s.first ∷ mark_text m.first ∷ ticket_fields t.part = cc (shape_3 fs few, state.1, ticket.0) in
        subst States t.so (whole, (state.0, ticket.1))

    arrow_exact : (c : Stated P) → 4 ≤ length fs → length fs ≤ 5 → get_or fs 0 [] ≡ codes "arrow" → verb_says reads at fs verb.Arrow ≡ Ok c → States c
    arrow_exact c few many word e =
        let p = went (number_at 65535 at fs 1) _ c e in
        let q = went (number_at 65535 at fs 2) _ c p.so in
        let l = went (label_at reads at fs 3) _ c q.so in
        let t = made_of (ticket_said_at at fs 4) (links p.first q.first l.first) c l.so in
        let source = number_at_exact at fs 1 p.first p.was in
        let target = number_at_exact at fs 2 q.first q.was in
        let label = text_from_whole text reads exact (get_or fs 3 []) l.first (some_from_ok_or _ _ l.first l.was) in
        let ticket = ticket_exact at fs 4 t.part many t.was in
        let whole : fs ≡ codes "arrow" ∷ decimal p.first ∷ decimal q.first ∷ text l.first ∷ ticket_fields t.part =
        cc (shape_4 fs few, source.1, target.1, ticket.0) in
        subst States t.so (whole, (source.0, target.0, ticket.1))

    strike_exact : (c : Stated P) → 2 ≤ length fs → length fs ≤ 3 → get_or fs 0 [] ≡ codes "strike" → verb_says reads at fs verb.Strike ≡ Ok c → States c
    strike_exact c few many word e =
        let k = went (number_at 65535 at fs 1) _ c e in
        let t = made_of (ticket_said_at at fs 2) (strikes k.first) c k.so in
        let place = number_at_exact at fs 1 k.first k.was in
        let ticket = ticket_exact at fs 2 t.part many t.was in
        let whole : fs ≡ codes "strike" ∷ decimal k.first ∷ ticket_fields t.part = cc (shape_2 fs few, place.1, ticket.0) in
        subst States t.so (whole, (place.0, ticket.1))

    settle_exact : (c : Stated P) → 1 ≤ length fs → length fs ≤ 2 → get_or fs 0 [] ≡ codes "settle" → verb_says reads at fs verb.Settle ≡ Ok c → States c
    settle_exact c few many word e =
        let t = made_of (ticket_said_at at fs 1) settles c e in
        let ticket = ticket_exact at fs 1 t.part many t.was in
        let whole : fs ≡ codes "settle" ∷ ticket_fields t.part = cc (shape_1 fs few, ticket.0) in
        subst States t.so (whole, ticket.1)

    ask_exact : (c : Stated P) → 3 ≤ length fs → length fs ≤ 3 → get_or fs 0 [] ≡ codes "ask" → verb_says reads at fs verb.Ask ≡ Ok c → States c
    ask_exact c few many word e =
        let p = went (number_at 65535 at fs 1) _ c e in
        let q = made_of (number_at 65535 at fs 2) (asks p.first) c p.so in
        let lower = number_at_exact at fs 1 p.first p.was in
        let upper = number_at_exact at fs 2 q.part q.was in
        let whole : fs ≡ codes "ask" ∷ decimal p.first ∷ decimal q.part ∷ [] = cc (shape_3 fs few, lower.1, upper.1, drop_all 3 fs many) in
        subst States q.so (whole, (lower.0, upper.0))

    alone_exact : (c d : Stated P) (word : List ℕ) → 1 ≤ length fs → length fs ≤ 1 → get_or fs 0 [] ≡ word → word ∷ [] ≡ call_fields text d → FitsCall d → ◌≡◌ {A = Result (Stated P) Fault} (Ok d) (Ok c) → States c
    alone_exact c d word few many is text fits e =
        let same : d ≡ c = cc in
        let whole : fs ≡ word ∷ [] = cc (shape_1 fs few, drop_all 1 fs many) in
        subst States same (whole ∙ text, fits)

    verb_exact : (v : Verb) (c : Stated P) → takes (kind.Call v) (length fs) ≡ true → get_or fs 0 [] ≡ verb_text v → verb_says reads at fs v ≡ Ok c → States c
    verb_exact v c count = let both = and_parts (leb (least v) (length fs)) (leb (length fs) (least v + cond (edits v) 1 0)) count in by v (leb-true _ _ both.0) (leb-true _ _ both.1)
      where
        by : (v : Verb) → least v ≤ length fs → length fs ≤ least v + cond (edits v) 1 0 → get_or fs 0 [] ≡ verb_text v → verb_says reads at fs v ≡ Ok c → States c
        by verb.Open few many word e = alone_exact c opens _ few many word refl tt e
        by verb.State few many word e = state_exact c few many word e
        by verb.Mark few many word e = mark_says_exact c few many word e
        by verb.Arrow few many word e = arrow_exact c few many word e
        by verb.Strike few many word e = strike_exact c few many word e
        by verb.Settle few many word e = settle_exact c few many word e
        by verb.Ask few many word e = ask_exact c few many word e
        by verb.Rows few many word e = alone_exact c copies _ few many word refl tt e
        by verb.Reduce few many word e = alone_exact c reduces _ few many word refl tt e

    -- the fields of what a line says
    abbrev pub Says : Option (Line P) → Type 0
    Says None = fs ≡ codes "end" ∷ []
    Says (Some x) = (fs ≡ line_fields text x) × Fits x

    pub line_exact : (said : Option (Line P)) → 1 ≤ length fs → line_says reads at fs ≡ Ok said → Says said
    unfolding line_says
    line_exact said some e = by_kinds (kind_of_word (get_or fs 0 [])) refl e
      where
        by_says : (k : Kind) → get_or fs 0 [] ≡ kind_text k → takes k (length fs) ≡ true → kind_says reads at fs k ≡ Ok said → Says said
        by_says (kind.Call v) word count f =
            let c = made_of (verb_says reads at fs v) (λ s. Some (calls s)) said f in
            subst Says c.so (verb_exact v c.part count word c.was)
        by_says kind.Word word count f =
            let w = made_of (symbols_say (further at 5) (drop 1 fs)) (λ s. Some (tests s)) said f in
            let exact = symbols_exact (further at 5) (drop 1 fs) w.part w.was in
            let whole : fs ≡ codes "word" ∷ map symbol_text w.part = cc (shape_1 fs some, exact.0) in
            subst Says w.so (whole, exact.1)
        by_says kind.End word count f =
            let same : None ≡ said = cc in
            let one = eqb-true (length fs) 1 count in
            let whole : fs ≡ codes "end" ∷ [] = cc (shape_1 fs some, drop_all 1 fs (omega arith)) in
            subst Says same whole

        by_count : (k : Kind) (t : Bool) → get_or fs 0 [] ≡ kind_text k → takes k (length fs) ≡ t → cond t (kind_says reads at fs k) (Err (fault.Count at)) ≡ Ok said → Says said
        by_count k true word count f = by_says k word count f
        by_count k false word count f = failed _ said _ refl f

        by_kinds : (o : Option Kind) → kind_of_word (get_or fs 0 []) ≡ o → by_kind reads at fs o ≡ Ok said → Says said
        by_kinds None is f = failed _ said _ refl f
        by_kinds (Some k) is f = by_count k (takes k (length fs)) (kind_exact (get_or fs 0 []) k is) refl f
