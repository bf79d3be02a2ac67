-- The fields of a line are read as what the line says.
use Rattle.std.proofs.Common.{◌≡◌, ℕ, ◌+◌, ◌^◌, ◌<◌, ◌≤◌, true, cond, ◌&&◌, leb, List, [], ◌∷◌, ◌++◌, map, length, get_or, Some, None, Ok, Err, codes, decimal, Option, Result, refl, ap, ◌∙◌, ap₂, arith, length-append, rules}
use Rattle.std.specs.Option.{option_map, ok_or}
use Rattle.std.specs.List.{flat_map, AllByRecursion}
use Rattle.std.proofs.ByRecursion.{All-append, All-weaker}
use Rattle.std.proofs.lemmas.List.{append-nil, get_or_at}
use Rattle.std.proofs.lemmas.Bool.{le-leb, lt-leb}
use Rattle.automata.specs.declared.Mark.{Mark}
use Rattle.automata.specs.declared.Mark.TheVariants as mark
use Rattle.labels.specs.declared.sum.Either.TheVariants.{Left, Right}
use Rattle.lines.specs.Fields.{Free, fields}
use Rattle.lines.specs.Numbers.{number_in}
use Rattle.lines.specs.declared.Fault.{Fault}
use Rattle.lines.specs.declared.Fault.TheVariants as fault
use Rattle.lines.specs.declared.Place.{Place}
use Rattle.lines.proofs.Parts.{fields_joined}
use Rattle.lines.proofs.Numbers.{number_in_decimal, free_decimal}
use Rattle.written.specs.Texts.{Plain, reads_whole}
use Rattle.written.specs.declared.Reading.{Reading}
use Rattle.label_list.specs.Lists.{label_at}
use Rattle.lines.specs.Places.{further, place_of}
use Rattle.lines.specs.Texts.{and_then, over}
use Rattle.label_list.proofs.Law.{whole_back}
use Rattle.script.specs.declared.verbs.Verb.{Verb}
use Rattle.script.specs.declared.verbs.Verb.TheVariants as verb
use Rattle.script.specs.declared.verbs.Kind.{Kind}
use Rattle.script.specs.declared.verbs.Kind.TheVariants as kind
use Rattle.script.specs.Lines.{Stated, Line, Symbol, opens, adds, marks, links, strikes, settles, asks, copies, reduces, calls, tests, FitsTicket, FitsCall, FitsSymbol, Fits, mark_text, ticket_fields, call_fields, symbol_text, line_fields, by_commas, line_text}
use Rattle.script.specs.Reads.{number_at, ticket_said_at, mark_in, mark_at_place, symbol_in, symbols_say, kind_of_word, least, edits, takes, verb_says, kind_says, by_kind, line_says}

-- numbers, marks, symbols
number_at_back : (most : ℕ) (at : Place) (fs : List (List ℕ)) (k n : ℕ) → most < 2 ^ 64 → get_or fs k [] ≡ decimal n → n ≤ most → number_at most at fs k ≡ Ok n
number_at_back most at fs k n small is h =
    ap (λ f. ok_or (number_in most f) (fault.Number (place_of at fs k))) is ∙ ap (λ o. ok_or o (fault.Number (place_of at fs k))) (number_in_decimal most n h (omega arith))

mark_back : (m : Mark) → mark_in (mark_text m) ≡ Some m
mark_back mark.Neither = refl
mark_back mark.Initial = refl
mark_back mark.Accepting = refl
mark_back mark.Both = refl

mark_at_back : (at : Place) (fs : List (List ℕ)) (k : ℕ) (m : Mark) → get_or fs k [] ≡ mark_text m → mark_at_place at fs k ≡ Ok m
mark_at_back at fs k m is = ap (λ f. ok_or (mark_in f) (fault.Number (place_of at fs k))) is ∙ ap (λ o. ok_or o (fault.Number (place_of at fs k))) (mark_back m)

-- a ticket behind k fields, or none
module _ (at : Place) (fs : List (List ℕ)) (k : ℕ) where
  ticket_none : length fs ≤ k → ticket_said_at at fs k ≡ Ok None
  ticket_none h = ap (λ b. cond b (Ok None) (over Some (number_at 4294967295 at fs k))) (le-leb (length fs) k h)

  ticket_some : (n : ℕ) → k < length fs → get_or fs k [] ≡ decimal n → n ≤ 4294967295 → ticket_said_at at fs k ≡ Ok (Some n)
  ticket_some n h is low =
      ap (λ b. cond b (Ok None) (over Some (number_at 4294967295 at fs k))) (lt-leb (length fs) k h)
      ∙ ap (over Some) (number_at_back 4294967295 at fs k n (omega arith) is low)

symbol_back : (s : Symbol) → FitsSymbol s → symbol_in (symbol_text s) ≡ Some s
unfolding symbol_in
symbol_back (Left n) low = ap (option_map Left) (number_in_decimal 255 n low (omega arith))
symbol_back (Right n) low = ap (option_map Right) (number_in_decimal 4294967295 n low (omega arith))

symbols_back : (at : Place) (w : List Symbol) → AllByRecursion FitsSymbol w → symbols_say at (map symbol_text w) ≡ Ok w
unfolding symbols_say
symbols_back at [] fit = refl
symbols_back at (s ∷ w) fit =
    ap (λ o. and_then (ok_or o (fault.Number at)) (λ t. over (λ ss. t ∷ ss) (symbols_say (further at (length (symbol_text s) + 1)) (map symbol_text w)))) (symbol_back s fit.0)
    ∙ ap (over (λ ss. s ∷ ss)) (symbols_back (further at (length (symbol_text s) + 1)) w fit.1)

-- no field has a comma or byte 10
plain_decimal : (n : ℕ) → n < 2 ^ 64 → Plain (decimal n)
plain_decimal n small = both (decimal n) (free_decimal 44 n (omega arith) small) (free_decimal 10 n (omega arith) small)
  where
    both : (bs : List ℕ) → Free 44 bs → Free 10 bs → Plain bs
    both [] h k = tt
    both (b ∷ bs) h k = ((h.0, k.0), both bs h.1 k.1)

plain_mark : (m : Mark) → Plain (mark_text m)
plain_mark mark.Neither = search rules
plain_mark mark.Initial = search rules
plain_mark mark.Accepting = search rules
plain_mark mark.Both = search rules

plain_ticket : (t : Option ℕ) → FitsTicket t → AllByRecursion Plain (ticket_fields t)
plain_ticket None fit = tt
plain_ticket (Some n) fit = (plain_decimal n (omega arith), tt)

plain_symbols : (w : List Symbol) → AllByRecursion FitsSymbol w → AllByRecursion Plain (map symbol_text w)
plain_symbols [] fit = tt
plain_symbols (Left n ∷ w) fit = ((((λ e. omega arith), (λ e. omega arith)), plain_decimal n (omega (arith, fit.0))), plain_symbols w fit.1)
plain_symbols (Right n ∷ w) fit = ((((λ e. omega arith), (λ e. omega arith)), plain_decimal n (omega (arith, fit.0))), plain_symbols w fit.1)

-- a ticket, or nothing, behind fields
count_last : (v : Verb) (front : List (List ℕ)) (t : Option ℕ) → length front ≡ least v → edits v ≡ true → takes (kind.Call v) (length (front ++ ticket_fields t)) ≡ true
count_last v front t is last =
    let long = length-append front (ticket_fields t) in
    let fs = front ++ ticket_fields t in
    let few : least v ≤ length fs = omega (arith, long, is) in
    let many : length fs ≤ least v + 1 = omega (arith, long, is, one t) in
    ap₂ ◌&&◌ (le-leb (least v) (length fs) few) (ap (λ b. leb (length fs) (least v + cond b 1 0)) last ∙ le-leb (length fs) (least v + 1) many)
  where
    one : (u : Option ℕ) → length (ticket_fields u) ≤ 1
    one None = omega arith
    one (Some n) = omega arith

ticket_last : (at : Place) (front : List (List ℕ)) (t : Option ℕ) → FitsTicket t → ticket_said_at at (front ++ ticket_fields t) (length front) ≡ Ok t
ticket_last at front None fit = ticket_none at (front ++ []) (length front) (omega (arith, ap length (append-nil front)))
ticket_last at front (Some n) fit =
    ticket_some at (front ++ (decimal n ∷ [])) (length front) n (omega (arith, length-append front (decimal n ∷ []))) (get_or_at front (decimal n) [] [] (length front) refl) fit

-- fields without commas and bytes 10 are the fields of their line
free_44 : (bs : List ℕ) → Plain bs → Free 44 bs
free_44 bs h = All-weaker (λ b. (b ≡ 44 → ⊥) × (b ≡ 10 → ⊥)) (λ b. b ≡ 44 → ⊥) (λ b k. k.0) bs h

free_10 : (bs : List ℕ) → Plain bs → Free 10 bs
free_10 bs h = All-weaker (λ b. (b ≡ 44 → ⊥) × (b ≡ 10 → ⊥)) (λ b. b ≡ 10 → ⊥) (λ b k. k.1) bs h

pub fields-by_commas : (fs : List (List ℕ)) → 1 ≤ length fs → AllByRecursion Plain fs → fields (by_commas fs) ≡ fs
fields-by_commas [] some all = absurd (omega arith)
fields-by_commas (f ∷ fs) some all = fields_joined f fs (free_44 f all.0) (All-weaker Plain (Free 44) free_44 fs all.1)

pub free_by_commas : (fs : List (List ℕ)) → AllByRecursion Plain fs → Free 10 (by_commas fs)
free_by_commas [] all = tt
free_by_commas (f ∷ fs) all = All-append (λ b. b ≡ 10 → ⊥) f (flat_map (λ g. 44 ∷ g) fs) (free_10 f all.0) (rest fs all.1)
  where
    rest : (gs : List (List ℕ)) → AllByRecursion Plain gs → Free 10 (flat_map (λ g. 44 ∷ g) gs)
    rest [] h = tt
    rest (g ∷ gs) h = ((λ e. omega arith), All-append (λ b. b ≡ 10 → ⊥) g (flat_map (λ k. 44 ∷ k) gs) (free_10 g h.0) (rest gs h.1))

-- a text is read whole, and can be a field
module _ {P : Type 0} {Same : P → P → Type 0} (text : P → List ℕ) (reads : List ℕ → Option (Reading P))
    (back : (p : P) (rest : List ℕ) → (q : P) × (reads (text p ++ rest) ≡ Some (record { predicate = q; len = length (text p) })) × Same q p)
    (plain : (p : P) → Plain (text p)) where
  label_at_back : (at : Place) (fs : List (List ℕ)) (k : ℕ) (p : P) → get_or fs k [] ≡ text p → label_at reads at fs k ≡ Ok (back p []).0
  label_at_back at fs k p is =
      ap (λ f. ok_or (reads_whole reads f) (fault.Label (place_of at fs k))) is ∙ ap (λ o. ok_or o (fault.Label (place_of at fs k))) (whole_back text reads back plain p)

  -- the call that is read of a stated call
  abbrev again : Stated P → Stated P
  again opens = opens
  again (adds m t) = adds m t
  again (marks s m t) = marks s m t
  again (links p q l t) = links p q (back l []).0 t
  again (strikes k t) = strikes k t
  again (settles t) = settles t
  again (asks p q) = asks p q
  again copies = copies
  again reduces = reduces

  module _ (at : Place) where
    -- a right count, and right fields
    counted : (fs : List (List ℕ)) (k : Kind) (r : Result (Option (Line P)) Fault) → kind_of_word (get_or fs 0 []) ≡ Some k → takes k (length fs) ≡ true → kind_says reads at fs k ≡ r → line_says reads at fs ≡ r
    unfolding line_says
    counted fs k r is count e = ap (by_kind reads at fs) is ∙ ap (λ b. cond b (kind_says reads at fs k) (Err (fault.Count at))) count ∙ e

    stated : (fs : List (List ℕ)) (v : Verb) (c : Stated P) → kind_of_word (get_or fs 0 []) ≡ Some (kind.Call v) → takes (kind.Call v) (length fs) ≡ true → verb_says reads at fs v ≡ Ok c → line_says reads at fs ≡ Ok (Some (calls c))
    stated fs v c is count e = counted fs (kind.Call v) (Ok (Some (calls c))) is count (ap (over (λ s. Some (calls s))) e)

    call_back : (c : Stated P) → FitsCall c → line_says reads at (call_fields text c) ≡ Ok (Some (calls (again c)))
    call_back opens fit = stated (codes "open" ∷ []) verb.Open opens refl refl refl
    call_back (adds m t) fit =
        let front = codes "state" ∷ mark_text m ∷ [] in
        let fs = front ++ ticket_fields t in
        stated fs verb.State (adds m t) refl (count_last verb.State front t refl refl)
        (ap (λ r. and_then r (λ x. over (adds x) (ticket_said_at at fs 2))) (mark_at_back at fs 1 m refl) ∙ ap (over (adds m)) (ticket_last at front t fit))
    call_back (marks s m t) fit =
        let front = codes "mark" ∷ decimal s ∷ mark_text m ∷ [] in
        let fs = front ++ ticket_fields t in
        stated fs verb.Mark (marks s m t) refl (count_last verb.Mark front t refl refl)
        (ap (λ r. and_then r (λ x. and_then (mark_at_place at fs 2) (λ y. over (marks x y) (ticket_said_at at fs 3)))) (number_at_back 65535 at fs 1 s (omega arith) refl fit.0)
        ∙ ap (λ r. and_then r (λ y. over (marks s y) (ticket_said_at at fs 3))) (mark_at_back at fs 2 m refl)
        ∙ ap (over (marks s m)) (ticket_last at front t fit.1))
    call_back (links p q l t) fit =
        let front = codes "arrow" ∷ decimal p ∷ decimal q ∷ text l ∷ [] in
        let fs = front ++ ticket_fields t in
        stated fs verb.Arrow (links p q (back l []).0 t) refl (count_last verb.Arrow front t refl refl)
        (ap (λ r. and_then r (λ x. and_then (number_at 65535 at fs 2) (λ y. and_then (label_at reads at fs 3) (λ z. over (links x y z) (ticket_said_at at fs 4))))) (number_at_back 65535 at fs 1 p (omega arith) refl fit.0)
        ∙ ap (λ r. and_then r (λ y. and_then (label_at reads at fs 3) (λ z. over (links p y z) (ticket_said_at at fs 4)))) (number_at_back 65535 at fs 2 q (omega arith) refl fit.1)
        ∙ ap (λ r. and_then r (λ z. over (links p q z) (ticket_said_at at fs 4))) (label_at_back at fs 3 l refl)
        ∙ ap (over (links p q (back l []).0)) (ticket_last at front t fit.2))
    call_back (strikes k t) fit =
        let front = codes "strike" ∷ decimal k ∷ [] in
        let fs = front ++ ticket_fields t in
        stated fs verb.Strike (strikes k t) refl (count_last verb.Strike front t refl refl)
        (ap (λ r. and_then r (λ x. over (strikes x) (ticket_said_at at fs 2))) (number_at_back 65535 at fs 1 k (omega arith) refl fit.0) ∙ ap (over (strikes k)) (ticket_last at front t fit.1))
    call_back (settles t) fit =
        let front = codes "settle" ∷ [] in
        stated (front ++ ticket_fields t) verb.Settle (settles t) refl (count_last verb.Settle front t refl refl) (ap (over settles) (ticket_last at front t fit))
    call_back (asks p q) fit =
        let fs = codes "ask" ∷ decimal p ∷ decimal q ∷ [] in
        stated fs verb.Ask (asks p q) refl refl
        (ap (λ r. and_then r (λ x. over (asks x) (number_at 65535 at fs 2))) (number_at_back 65535 at fs 1 p (omega arith) refl fit.0) ∙ ap (over (asks p)) (number_at_back 65535 at fs 2 q (omega arith) refl fit.1))
    call_back copies fit = stated (codes "rows" ∷ []) verb.Rows copies refl refl refl
    call_back reduces fit = stated (codes "reduce" ∷ []) verb.Reduce reduces refl refl refl

    abbrev pub again_line : Line P → Line P
    again_line (calls c) = calls (again c)
    again_line (tests w) = tests w

    pub line_back : (x : Line P) → Fits x → line_says reads at (line_fields text x) ≡ Ok (Some (again_line x))
    line_back (calls c) fit = call_back c fit
    line_back (tests w) fit = counted (codes "word" ∷ map symbol_text w) kind.Word (Ok (Some (tests w))) refl refl (ap (over (λ s. Some (tests s))) (symbols_back (further at 5) w fit))

    pub end_back : line_says reads at (codes "end" ∷ []) ≡ Ok None
    end_back = counted (codes "end" ∷ []) kind.End (Ok None) refl refl refl

  plain_call : (c : Stated P) → FitsCall c → AllByRecursion Plain (call_fields text c)
  plain_call opens fit = (search rules, tt)
  plain_call (adds m t) fit = (search rules, (plain_mark m, plain_ticket t fit))
  plain_call (marks s m t) fit = (search rules, (plain_decimal s (omega arith), (plain_mark m, plain_ticket t fit.1)))
  plain_call (links p q l t) fit = (search rules, (plain_decimal p (omega arith), (plain_decimal q (omega arith), (plain l, plain_ticket t fit.2))))
  plain_call (strikes k t) fit = (search rules, (plain_decimal k (omega arith), plain_ticket t fit.1))
  plain_call (settles t) fit = (search rules, plain_ticket t fit)
  plain_call (asks p q) fit = (search rules, (plain_decimal p (omega arith), (plain_decimal q (omega arith), tt)))
  plain_call copies fit = (search rules, tt)
  plain_call reduces fit = (search rules, tt)

  pub plain_line : (x : Line P) → Fits x → AllByRecursion Plain (line_fields text x)
  plain_line (calls c) fit = plain_call c fit
  plain_line (tests w) fit = (search rules, plain_symbols w fit)

  pub fields_line : (x : Line P) → Fits x → fields (line_text text x) ≡ line_fields text x
  fields_line x fit = fields-by_commas (line_fields text x) (some x) (plain_line x fit)
    where
      some : (y : Line P) → 1 ≤ length (line_fields text y)
      some (calls opens) = omega arith
      some (calls (adds m t)) = omega arith
      some (calls (marks s m t)) = omega arith
      some (calls (links p q l t)) = omega arith
      some (calls (strikes k t)) = omega arith
      some (calls (settles t)) = omega arith
      some (calls (asks p q)) = omega arith
      some (calls copies) = omega arith
      some (calls reduces) = omega arith
      some (tests w) = omega arith
