-- The lines and the fields of texts that are put together, and how long their parts are.
use Rattle.std.proofs.Common.{◌≡◌, ◌≤◌, ℕ, get_or, ◌+◌, ◌-◌, ◌<◌, Bool, true, false, cond, eqb, List, [], ◌∷◌, ◌++◌, length, take, drop, sym, refl, ap, ◌∙◌, ap₂, arith, length-append, Option, Some, None, Bor, subst}
use Rattle.std.proofs.lemmas.List.{append-nil, take-append-drop, drop_more, take_rest, get_or-take, length-take}
use Rattle.std.proofs.lemmas.Bool.{ne_eqb, eqb-true, cond_both}
use Rattle.std.specs.List.{flat_map, AllByRecursion, onto_first, HoldsAt, AllWithin}
use Rattle.std.proofs.ByRecursion.{All-from_get_or}
use Rattle.lines.specs.Fields.{Free, Parted, above, before, split, fields, left_fields, left_size}
use Rattle.lines.specs.Places.{Passes, GoesOn, further}
use Rattle.lines.specs.declared.Place.{Place}

pub fields_free : (a : List ℕ) → Free 44 a → fields a ≡ a ∷ []
unfolding fields
fields_free [] h = refl
fields_free (x ∷ xs) h = rw (ne_eqb x 44 h.0, fields_free xs h.1)

pub fields_comma : (a b : List ℕ) → Free 44 a → fields (a ++ (44 ∷ b)) ≡ a ∷ fields b
unfolding fields
fields_comma [] b h = refl
fields_comma (x ∷ xs) b h = rw (ne_eqb x 44 h.0, fields_comma xs b h.1)

-- fields that are joined by commas
pub fields_joined : (a : List ℕ) (more : List (List ℕ)) → Free 44 a → AllByRecursion (Free 44) more → fields (a ++ flat_map (λ f. 44 ∷ f) more) ≡ a ∷ more
fields_joined a [] h all = ap fields (append-nil a) ∙ fields_free a h
fields_joined a (f ∷ more) h all = fields_comma a (f ++ flat_map (λ f. 44 ∷ f) more) h ∙ ap (λ fs. a ∷ fs) (fields_joined f more all.0 all.1)

length-onto_first : (x : ℕ) (fs : List (List ℕ)) → 0 < length fs → length (onto_first x fs) ≡ length fs
length-onto_first x [] h = absurd (omega arith)
length-onto_first x (f ∷ fs) h = refl

-- every line has a first field
pub fields_some : (a : List ℕ) → 0 < length (fields a)
unfolding fields
fields_some [] = omega arith
fields_some (x ∷ xs) =
    let some = fields_some xs in
    cond_both (eqb x 44) ([] ∷ fields xs) (onto_first x (fields xs)) (λ l. 0 < length l) (λ e. omega arith)
    (λ e. omega (arith, length-onto_first x (fields xs) some))

-- a line is its fields, joined by commas
pub line_joined : (line a : List ℕ) (more : List (List ℕ)) → fields line ≡ a ∷ more → line ≡ a ++ flat_map (λ f. 44 ∷ f) more
unfolding fields
line_joined line a more is = whole line ∙ ap by_commas is
  where
    by_commas : List (List ℕ) → List ℕ
    by_commas [] = []
    by_commas (f ∷ fs) = f ++ flat_map (λ f. 44 ∷ f) fs

    comma : (fs : List (List ℕ)) → 0 < length fs → 44 ∷ by_commas fs ≡ flat_map (λ f. 44 ∷ f) fs
    comma [] h = absurd (omega arith)
    comma (f ∷ fs) h = refl

    byte : (x : ℕ) (fs : List (List ℕ)) → x ∷ by_commas fs ≡ by_commas (onto_first x fs)
    byte x [] = refl
    byte x (f ∷ fs) = refl

    whole : (t : List ℕ) → t ≡ by_commas (fields t)
    whole [] = refl
    whole (x ∷ xs) =
        cond_both (eqb x 44) ([] ∷ fields xs) (onto_first x (fields xs)) (λ fs. x ∷ xs ≡ by_commas fs)
        (λ e. ap₂ ◌∷◌ (eqb-true x 44 e) (whole xs) ∙ comma (fields xs) (fields_some xs))
        (λ e. ap (λ t. x ∷ t) (whole xs) ∙ byte x (fields xs))

pub split_free : (a : List ℕ) → Free 10 a → split a ≡ record { whole = []; rest = a }
unfolding split
split_free [] h = refl
split_free (x ∷ xs) h = rw (ne_eqb x 10 h.0, split_free xs h.1)

pub split_newline : (a b : List ℕ) → Free 10 a → split (a ++ (10 ∷ b)) ≡ above a (split b)
unfolding split
split_newline [] b h = refl
split_newline (x ∷ xs) b h = rw (ne_eqb x 10 h.0, split_newline xs b h.1)

pub split_parted : (whole front back : List ℕ) → Parted 10 whole front back → split whole ≡ above front (split back)
split_parted whole front back p = ap split p.is ∙ split_newline front back p.free

-- a text is its lines, each with the byte 10 that ends it, and the rest
pub text_joined : (t : List ℕ) → t ≡ flat_map (λ l. l ++ (10 ∷ [])) (split t).whole ++ (split t).rest
unfolding split
text_joined [] = refl
text_joined (x ∷ xs) =
    cond_both (eqb x 10) (above [] (split xs)) (before x (split xs).whole (split xs).rest) (λ s. x ∷ xs ≡ flat_map (λ l. l ++ (10 ∷ [])) s.whole ++ s.rest)
    (λ e. ap₂ ◌∷◌ (eqb-true x 10 e) (text_joined xs))
    (λ e. ap (λ t. x ∷ t) (text_joined xs) ∙ byte (split xs).whole (split xs).rest)
  where
    byte : (ls : List (List ℕ)) (r : List ℕ) → x ∷ (flat_map (λ l. l ++ (10 ∷ [])) ls ++ r) ≡ flat_map (λ l. l ++ (10 ∷ [])) (before x ls r).whole ++ (before x ls r).rest
    byte [] r = refl
    byte (l ∷ ls) r = refl

-- only an empty text has no line and no rest
pub split_empty : (t : List ℕ) → (split t).whole ≡ [] → (split t).rest ≡ [] → t ≡ []
unfolding split
split_empty [] a b = refl
split_empty (x ∷ xs) a b = absurd (by (eqb x 10) a b)
  where
    none : (ls : List (List ℕ)) (r : List ℕ) → (before x ls r).whole ≡ [] → (before x ls r).rest ≡ [] → ⊥
    none [] r a b = let z : ◌≡◌ {A = ℕ} 0 1 = cc in omega arith
    none (l ∷ ls) r a b = let z : ◌≡◌ {A = ℕ} 0 1 = cc in omega arith

    by : (t : Bool) → (cond t (above [] (split xs)) (before x (split xs).whole (split xs).rest)).whole ≡ []
        → (cond t (above [] (split xs)) (before x (split xs).whole (split xs).rest)).rest ≡ [] → ⊥
    by true a b = let z : ◌≡◌ {A = ℕ} 0 1 = cc in omega arith
    by false a b = none (split xs).whole (split xs).rest a b

-- a text is parted at its first b in one way
pub same_parted : (b : ℕ) (whole front back front' back' : List ℕ) → Parted b whole front back → Parted b whole front' back' → (front ≡ front') × (back ≡ back')
same_parted b whole front back front' back' p q = by front front' p.free q.free (sym p.is ∙ q.is)
  where
    by : (f f' : List ℕ) → Free b f → Free b f' → f ++ (b ∷ back) ≡ f' ++ (b ∷ back') → (f ≡ f') × (back ≡ back')
    by [] [] h h' e = (refl, cc)
    by [] (x ∷ f') h h' e = absurd (h'.0 (cc))
    by (x ∷ f) [] h h' e = absurd (h.0 (cc))
    by (x ∷ f) (x' ∷ f') h h' e =
        let tails : f ++ (b ∷ back) ≡ f' ++ (b ∷ back') = cc in
        let heads : x ≡ x' = cc in
        let same = by f f' h.1 h'.1 tails in
        (ap₂ ◌∷◌ heads same.0, same.1)

pub length_parted : (b : ℕ) (whole front back : List ℕ) → Parted b whole front back → length front + 1 + length back ≡ length whole
length_parted b whole front back p = omega (arith, ap length p.is ∙ length-append front (b ∷ back))

-- a text is parted at the first b by what stands before and behind it, as slices of the text
pub parted_from_first : (b : ℕ) (t : List ℕ) (i : ℕ) → (i < length t) × HoldsAt (λ x. x ≡ b) t i × AllWithin (λ x. x ≡ b → ⊥) t 0 i →
    Parted b t (take i t) (take (length t - (i + 1)) (drop (i + 1) t))
parted_from_first b t i first =
    record {
      is = rw (take_rest, ← first.1 0) (sym (take-append-drop i t) ∙ rw (drop_more t i 0 first.0));
      free = All-from_get_or (λ x. x ≡ b → ⊥) (take i t) 0 (λ k h. rw (get_or-take i t k 0 (omega (arith, h, length-take i t))) (first.2 k 0 (omega arith) (omega (arith, h, length-take i t))));
    }

-- fields by their places, where there are enough
pub shape_1 : (fs : List (List ℕ)) → 1 ≤ length fs → fs ≡ get_or fs 0 [] ∷ drop 1 fs
shape_1 [] h = absurd (omega arith)
shape_1 (a ∷ fs) h = refl

pub shape_2 : (fs : List (List ℕ)) → 2 ≤ length fs → fs ≡ get_or fs 0 [] ∷ get_or fs 1 [] ∷ drop 2 fs
shape_2 [] h = absurd (omega arith)
shape_2 (a ∷ []) h = absurd (omega arith)
shape_2 (a ∷ b ∷ fs) h = refl

pub shape_3 : (fs : List (List ℕ)) → 3 ≤ length fs → fs ≡ get_or fs 0 [] ∷ get_or fs 1 [] ∷ get_or fs 2 [] ∷ drop 3 fs
shape_3 [] h = absurd (omega arith)
shape_3 (a ∷ []) h = absurd (omega arith)
shape_3 (a ∷ b ∷ []) h = absurd (omega arith)
shape_3 (a ∷ b ∷ c ∷ fs) h = refl

pub shape_4 : (fs : List (List ℕ)) → 4 ≤ length fs → fs ≡ get_or fs 0 [] ∷ get_or fs 1 [] ∷ get_or fs 2 [] ∷ get_or fs 3 [] ∷ drop 4 fs
shape_4 [] h = absurd (omega arith)
shape_4 (a ∷ []) h = absurd (omega arith)
shape_4 (a ∷ b ∷ []) h = absurd (omega arith)
shape_4 (a ∷ b ∷ c ∷ []) h = absurd (omega arith)
shape_4 (a ∷ b ∷ c ∷ d ∷ fs) h = refl

-- a field, and what is left behind it
module _ (o : Option (Bor (List ℕ))) (line : Bor (List ℕ)) (at : Place) (is : o ≡ Some line) (taken : Bor (List ℕ) × Option (Bor (List ℕ))) where
  abbrev pub Took : Bor (List ℕ) × Option (Bor (List ℕ)) → Type 0
  Took t = (at' : Place) → at' ≡ further at (length t.0.now + 1) → Passes o at t.0.now t.1 at'

  pub passes_parted : (bytes rest : Bor (List ℕ)) → taken ≡ (bytes, Some rest) → Parted 44 line.now bytes.now rest.now → Took taken
  passes_parted bytes rest e p = subst Took (sym e) (λ at' on. record {
    first = ap left_fields is ∙ ap fields p.is ∙ fields_comma bytes.now rest.now p.free;
    size = omega (arith, ap left_size is, length_parted 44 line.now bytes.now rest.now p);
    place = on;
    whole = subst (λ o. GoesOn o bytes.now (Some rest)) (sym is) p.is;
    free = p.free;
  })

  pub passes_free : taken ≡ (line, None) → Free 44 line.now → Took taken
  passes_free e h = subst Took (sym e) (λ at' on. record {
    first = ap left_fields is ∙ fields_free line.now h;
    size = omega (arith, ap left_size is);
    place = on;
    whole = subst (λ o. GoesOn o line.now None) (sym is) refl;
    free = h;
  })
