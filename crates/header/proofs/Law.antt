-- A line that says cuts is the line of these cuts, and the line of a rising list says that list.
use Rattle.std.proofs.Common.{◌≡◌, ℕ, ◌+◌, ◌<◌, ◌≤◌, Bool, true, false, cond, ltb, List, [], ◌∷◌, ◌++◌, map, length, get_or, Some, None, Ok, Err, codes, decimal, Option, Result, sym, refl, ap, ◌∙◌, subst, ap₂, arith, rules, MatchResult}
use Rattle.std.specs.List.{flat_map, AllByRecursion}
use Rattle.std.specs.Str.{bytes_eq}
use Rattle.std.proofs.ByRecursion.{All-append, All-from_get_or, All-map}
use Rattle.std.proofs.lemmas.Slice.Eq.{bytes_eq-Decides}
use Rattle.std.proofs.lemmas.List.{append_assoc, append-nil, get_or_at, length-append, length-map, map_push, take_at}
use Rattle.std.proofs.lemmas.Result.{MatchResult-weaker}
use Rattle.std.proofs.lemmas.Bool.{le-ltb}
use Rattle.labels.specs.CutLists.{cuts_of}
use Rattle.labels.specs.Segments.{Rising, goes_on}
use Rattle.labels.specs.declared.cuts.Cuts.{Cuts}
use Rattle.labels.specs.SegmentsLemmas.{rising_goes_on}
use Rattle.lines.specs.Fields.{Free, fields}
use Rattle.lines.specs.Numbers.{number_in}
use Rattle.lines.specs.declared.Fault.{Fault}
use Rattle.lines.specs.declared.Fault.TheVariants.{Word, Count}
use Rattle.lines.specs.declared.Place.{Place}
use Rattle.lines.specs.Places.{further}
use Rattle.lines.proofs.Parts.{fields_joined, line_joined}
use Rattle.lines.proofs.Numbers.{free_decimal, number_in_cases, number_in_decimal}
use Rattle.header.specs.CutLine.{cut_fields_text, cut_line_text, cut_fields, cut_line_of, cut_line}
use Rattle.header.proofs.Reading.{cut_fields_more, cut_fields_number, cut_fields_order}

-- no answer is both
pub ok_not_err : {X Y : Type 0} (r : Result X Y) (x : X) (y : Y) → r ≡ Ok x → r ≡ Err y → ⊥
ok_not_err r x y ok err = let z : ◌≡◌ {A = ℕ} 0 1 = cc in omega arith

cut_fields_text_joined : (cuts : List ℕ) → cut_fields_text cuts ≡ flat_map (λ f. 44 ∷ f) (map decimal cuts)
unfolding cut_fields_text
cut_fields_text_joined [] = refl
cut_fields_text_joined (cut ∷ cuts) = ap (λ t. 44 ∷ (decimal cut ++ t)) (cut_fields_text_joined cuts)

-- fields that are accepted are the texts of the cuts that they add
decimals_from_fields : (cuts : List ℕ) (at : Place) (more : List (List ℕ)) (all : List ℕ) → cut_fields cuts at more ≡ Ok all → map decimal all ≡ map decimal cuts ++ more
unfolding cut_fields
decimals_from_fields cuts at [] all e = let same : cuts ≡ all = cc in ap (map decimal) (sym same) ∙ sym (append-nil (map decimal cuts))
decimals_from_fields cuts at (field ∷ more) all e =
    by_number (number_in 1114111 field) refl (λ cut. decimals_from_fields (cuts ++ (cut ∷ [])) (further at (length field + 1)) more all)
  where
    by_order : (cut : ℕ) (t : Bool) → number_in 1114111 field ≡ Some cut → goes_on cuts cut ≡ t
        → (cut_fields (cuts ++ (cut ∷ [])) (further at (length field + 1)) more ≡ Ok all → map decimal all ≡ map decimal (cuts ++ (cut ∷ [])) ++ more) → map decimal all ≡ map decimal cuts ++ (field ∷ more)
    by_order cut false is on rest = absurd (ok_not_err _ _ _ e (cut_fields_order cuts at field more cut is on))
    by_order cut true is on rest =
        rest (sym (cut_fields_more cuts at field more cut is on) ∙ e)
        ∙ ap (λ fs. fs ++ more) (map_push decimal cuts cut)
        ∙ append_assoc (map decimal cuts) (decimal cut ∷ []) more
        ∙ ap (λ f. map decimal cuts ++ (f ∷ more)) (sym (number_in_cases 1114111 field (Some cut) (omega arith) (sym is)).1)

    by_number : (o : Option ℕ) → number_in 1114111 field ≡ o
        → ((cut : ℕ) → cut_fields (cuts ++ (cut ∷ [])) (further at (length field + 1)) more ≡ Ok all → map decimal all ≡ map decimal (cuts ++ (cut ∷ [])) ++ more) → map decimal all ≡ map decimal cuts ++ (field ∷ more)
    by_number None is rest = absurd (ok_not_err _ _ _ e (cut_fields_number cuts at field more is))
    by_number (Some cut) is rest = by_order cut (goes_on cuts cut) is refl (rest cut)

-- the texts of cuts that rise are accepted
cut_fields_decimals : (cuts more : List ℕ) (at : Place) → Rising (cuts ++ more) → cut_fields cuts at (map decimal more) ≡ Ok (cuts ++ more)
unfolding cut_fields
cut_fields_decimals cuts [] at r = ap Ok (sym (append-nil cuts))
cut_fields_decimals cuts (cut ∷ more) at r =
    let all = cuts ++ (cut ∷ more) in
    let whole : (cuts ++ (cut ∷ [])) ++ more ≡ all = append_assoc cuts (cut ∷ []) more in
    let long : length cuts < length all = omega (arith, length-append cuts (cut ∷ more)) in
    let here : get_or all (length cuts) 0 ≡ cut = get_or_at cuts cut more 0 (length cuts) refl in
    let low : cut ≤ 1114111 = omega (arith, r.high (length cuts) long) in
    let on : goes_on cuts cut ≡ true = ap₂ goes_on (sym (take_at cuts (cut ∷ more) (length cuts) refl)) (sym here) ∙ rising_goes_on all r (length cuts) long in
    cut_fields_more cuts at (decimal cut) (map decimal more) cut (number_in_decimal 1114111 cut low (omega arith)) on
    ∙ cut_fields_decimals (cuts ++ (cut ∷ [])) more (further at (length (decimal cut) + 1)) (subst Rising (sym whole) r)
    ∙ ap Ok whole

-- a line that is accepted
text_from_cut_line : (at : Place) (line cuts : List ℕ) → cut_line at line ≡ Ok cuts → line ≡ cut_line_text cuts
unfolding cut_line
text_from_cut_line at line cuts e = by_fields (fields line) refl e
  where
    by : (word : List ℕ) (more : List (List ℕ)) → fields line ≡ word ∷ more → (t u : Bool) → bytes_eq word (codes "cuts") ≡ t
        → cond t (cond u (Err (Count at)) (cut_fields [] (further at 5) more)) (Err (Word at)) ≡ Ok cuts → line ≡ cut_line_text cuts
    by word more is false u t f = absurd (ok_not_err _ _ _ f refl)
    by word more is true true t f = absurd (ok_not_err _ _ _ f refl)
    by word more is true false t f =
        let named : word ≡ codes "cuts" = (bytes_eq-Decides word (codes "cuts")).0 t in
        let said : map decimal cuts ≡ more = decimals_from_fields [] (further at 5) more cuts f in
        line_joined line word more is ∙ ap₂ ◌++◌ named (ap (flat_map (λ f. 44 ∷ f)) (sym said) ∙ sym (cut_fields_text_joined cuts))

    by_fields : (fs : List (List ℕ)) → fields line ≡ fs → cut_line_of at fs ≡ Ok cuts → line ≡ cut_line_text cuts
    by_fields [] is f = absurd (ok_not_err _ _ _ f refl)
    by_fields (word ∷ more) is f = by word more is (bytes_eq word (codes "cuts")) (ltb 64 (length (word ∷ more))) refl f

-- the line of a rising list
module _ (cuts : List ℕ) (up : Rising cuts) where
  decimals_free : (b : ℕ) → b < 48 → AllByRecursion (λ cut. Free b (decimal cut)) cuts
  decimals_free b low = All-from_get_or (λ cut. Free b (decimal cut)) cuts 0 (λ i h. free_decimal b (get_or cuts i 0) low (omega (arith, up.high i h)))

  pub cut_line_rising : (at : Place) (line : List ℕ) → line ≡ cut_line_text cuts → cut_line at line ≡ Ok cuts
  unfolding cut_line
  cut_line_rising at line is =
      let more = map decimal cuts in
      let word : Free 44 (codes "cuts") = search rules in
      let parts : fields line ≡ codes "cuts" ∷ more =
      ap fields (is ∙ ap (λ t. codes "cuts" ++ t) (cut_fields_text_joined cuts))
      ∙ fields_joined (codes "cuts") more word (All-map (Free 44) decimal cuts (decimals_free 44 (omega arith))) in
      let few : length (codes "cuts" ∷ more) ≤ 64 = omega (arith, length-map cuts decimal, up.few) in
      ap (cut_line_of at) parts
      ∙ ap (λ b. cond b (Err (Count at)) (cut_fields [] (further at 5) more)) (le-ltb 64 (length (codes "cuts" ∷ more)) few)
      ∙ cut_fields_decimals [] cuts (further at 5) up

  pub cut_line_text_free : Free 10 (cut_line_text cuts)
  unfolding cut_fields_text
  cut_line_text_free = let word : Free 10 (codes "cuts") = search rules in All-append (λ x. x ≡ 10 → ⊥) (codes "cuts") (cut_fields_text cuts) word (by cuts (decimals_free 10 (omega arith)))
    where
      by : (cs : List ℕ) → AllByRecursion (λ cut. Free 10 (decimal cut)) cs → Free 10 (cut_fields_text cs)
      by [] h = tt
      by (cut ∷ cs) h = ((λ e. omega arith), All-append (λ x. x ≡ 10 → ⊥) (decimal cut) (cut_fields_text cs) h.0 (by cs h.1))

pub read_law : (at : Place) (line : List ℕ) (r : Result Cuts Fault) → MatchResult r (λ c. cut_line at line ≡ Ok (cuts_of c)) (λ f. cut_line at line ≡ Err f)
    → MatchResult r (λ c. line ≡ cut_line_text (cuts_of c)) (λ f. (cuts : List ℕ) → Rising cuts → line ≡ cut_line_text cuts → ⊥)
read_law at line r says =
    MatchResult-weaker r says (λ c ok. text_from_cut_line at line (cuts_of c) ok) (λ f err cuts up is. ok_not_err _ _ _ (cut_line_rising cuts up at line is) err)
