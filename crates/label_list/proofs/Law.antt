-- A text that is accepted is the text of the labels that it says, and the text of labels is accepted.
use Rattle.std.proofs.Common.{◌≡◌, ℕ, Bool, true, false, cond, eqb, List, [], ◌∷◌, ◌++◌, length, get_or, drop, Some, None, Ok, Err, codes, Option, sym, refl, ap, ◌∙◌, subst, arith, rules, MatchOption}
use Rattle.std.specs.List.{AllByRecursion}
use Rattle.std.specs.Option.{ok_or}
use Rattle.std.specs.Str.{bytes_eq}
use Rattle.std.proofs.ByRecursion.{All-append, All-weaker}
use Rattle.std.proofs.lemmas.Slice.Eq.{bytes_eq-Decides}
use Rattle.std.proofs.lemmas.List.{append-nil, drop_all}
use Rattle.std.proofs.lemmas.Bool.{eqb-true}
use Rattle.lines.specs.Fields.{Free, fields}
use Rattle.lines.specs.Places.{place_of}
use Rattle.lines.specs.Texts.{over, text_says, ByFault, Refuses}
use Rattle.lines.specs.declared.Fault.TheVariants as fault
use Rattle.lines.specs.declared.Place.{Place}
use Rattle.lines.specs.declared.Refusal.{Refusal}
use Rattle.lines.specs.declared.Refusal.TheVariants as refusal
use Rattle.lines.proofs.Parts.{fields_comma, fields_free, line_joined, shape_1, shape_2}
use Rattle.lines.proofs.Results.{clash, failed, made_of, some_from_ok_or}
use Rattle.lines.proofs.Texts.{text_exact, refuses_texts}
use Rattle.written.specs.Texts.{Plain, whole_if, reads_whole}
use Rattle.written.specs.declared.Reading.{Reading}
use Rattle.written.specs.Codecs.{whole_some, whole_text}
use Rattle.label_list.specs.Lists.{label_line, labels_text, label_at, label_says, end_says, line_says}

-- every label has a text
abbrev pub Fits : {P : Type 0} → P → Type 0
Fits p = Unit {0}

all_fit : {P : Type 0} (ps : List P) → AllByRecursion Fits ps
all_fit [] = tt
all_fit (p ∷ ps) = (tt, all_fit ps)

-- what was read has as its text the very bytes taken
module _ {P : Type 0} (text : P → List ℕ) (reads : List ℕ → Option (Reading P))
    (exact : (bytes : List ℕ) (got : Reading P) → reads bytes ≡ Some got → (got.len ≡ length (text got.predicate)) × (bytes ≡ text got.predicate ++ drop got.len bytes)) where
  pub text_from_whole : (field : List ℕ) (p : P) → reads_whole reads field ≡ Some p → field ≡ text p
  text_from_whole field p e = by (reads field) refl e
    where
      on : (got : Reading P) (t : Bool) → reads field ≡ Some got → eqb got.len (length field) ≡ t → cond t (Some got.predicate) None ≡ Some p → field ≡ text p
      on got false is t f = clash _ p refl f
      on got true is t f =
          let same : got.predicate ≡ p = cc in
          whole_text reads field (text got.predicate) got.len (eqb-true got.len (length field) t) (exact field got is).1 ∙ ap text same

      by : (o : Option (Reading P)) → reads field ≡ o → whole_if (length field) o ≡ Some p → field ≡ text p
      by None is f = clash _ p refl f
      by (Some got) is f = on got (eqb got.len (length field)) is refl f

  abbrev Says : List ℕ → Option P → Type 0
  Says line said = MatchOption said (line ≡ codes "end") (λ p. (line ≡ label_line (text p)) × Fits p)

  line_exact : (at : Place) (line : List ℕ) (said : Option P) → line_says reads at (fields line) ≡ Ok said → Says line said
  line_exact at line said e = by_label (bytes_eq word (codes "label")) refl e
    where
      fs : List (List ℕ)
      fs = fields line

      word : List ℕ
      word = get_or fs 0 []

      named : (w : List ℕ) → bytes_eq word w ≡ true → word ≡ w
      named w t = (bytes_eq-Decides word w).0 t

      label_of : word ≡ codes "label" → (t : Bool) → eqb (length fs) 2 ≡ t → cond t (over Some (label_at reads at fs 1)) (Err (fault.Count at)) ≡ Ok said → Says line said
      label_of is false t f = failed _ said _ refl f
      label_of is true t f =
          let p = made_of (label_at reads at fs 1) Some said f in
          let two = eqb-true (length fs) 2 t in
          let field = text_from_whole (get_or fs 1 []) p.part (some_from_ok_or _ _ p.part p.was) in
          let parts : fields line ≡ codes "label" ∷ text p.part ∷ [] = cc (shape_2 fs (omega arith), drop_all 2 fs (omega arith), is, field) in
          subst (Says line) p.so (line_joined line (codes "label") (text p.part ∷ []) parts ∙ ap label_line (append-nil (text p.part)), tt)

      end_of : word ≡ codes "end" → (t : Bool) → eqb (length fs) 1 ≡ t → cond t (Ok None) (Err (fault.Count at)) ≡ Ok said → Says line said
      end_of is false t f = failed _ said _ refl f
      end_of is true t f =
          let none : None ≡ said = cc in
          let one = eqb-true (length fs) 1 t in
          let parts : fields line ≡ codes "end" ∷ [] = cc (shape_1 fs (omega arith), drop_all 1 fs (omega arith), is) in
          subst (Says line) none (line_joined line (codes "end") [] parts)

      by_end : (t : Bool) → bytes_eq word (codes "end") ≡ t → cond t (end_says at fs) (Err (fault.Word at)) ≡ Ok said → Says line said
      by_end false t f = failed _ said _ refl f
      by_end true t f = end_of (named (codes "end") t) (eqb (length fs) 1) refl f

      by_label : (t : Bool) → bytes_eq word (codes "label") ≡ t → cond t (label_says reads at fs) (cond (bytes_eq word (codes "end")) (end_says at fs) (Err (fault.Word at))) ≡ Ok said → Says line said
      by_label false t f = by_end (bytes_eq word (codes "end")) refl f
      by_label true t f = label_of (named (codes "label") t) (eqb (length fs) 2) refl f

  -- a text that is accepted
  pub text_from_says : (t : List ℕ) (at : Place) (all : List P) → text_says (line_says reads) at t ≡ Ok all → t ≡ labels_text text all
  text_from_says t at all e = (text_exact (line_says reads) (λ p. label_line (text p)) Fits line_exact t at all e).0

-- a text is read whole, and can be a field
module _ {P : Type 0} {Same : P → P → Type 0} (text : P → List ℕ) (reads : List ℕ → Option (Reading P))
    (back : (p : P) (rest : List ℕ) → (q : P) × (reads (text p ++ rest) ≡ Some (record { predicate = q; len = length (text p) })) × Same q p)
    (plain : (p : P) → Plain (text p)) where
  pub whole_back : (p : P) → reads_whole reads (text p) ≡ Some (back p []).0
  whole_back p = sym (whole_some reads (text p) (record { predicate = (back p []).0; len = length (text p) }) (sym (ap reads (sym (append-nil (text p))) ∙ (back p []).1)) refl)

  line_back : (at : Place) (p : P) → Fits p → line_says reads at (fields (label_line (text p))) ≡ Ok (Some (back p []).0)
  line_back at p fit =
      let free : Free 44 (text p) = All-weaker (λ b. (b ≡ 44 → ⊥) × (b ≡ 10 → ⊥)) (λ b. b ≡ 44 → ⊥) (λ b h. h.0) (text p) (plain p) in
      let label : Free 44 (codes "label") = search rules in
      let parts : fields (label_line (text p)) ≡ codes "label" ∷ text p ∷ [] = fields_comma (codes "label") (text p) label ∙ ap (λ fs. codes "label" ∷ fs) (fields_free (text p) free) in
      ap (line_says reads at) parts ∙ ap (λ o. over Some (ok_or o (fault.Label (place_of at (codes "label" ∷ text p ∷ []) 1)))) (whole_back p)

  line_free : (p : P) → Fits p → Free 10 (label_line (text p))
  line_free p fit =
      let no_end : Free 10 (codes "label,") = search rules in
      All-append (λ b. b ≡ 10 → ⊥) (codes "label,") (text p) no_end (All-weaker (λ b. (b ≡ 44 → ⊥) × (b ≡ 10 → ⊥)) (λ b. b ≡ 10 → ⊥) (λ b h. h.1) (text p) (plain p))

  -- so no text of labels has a fault
  pub no_labels : (t : List ℕ) (at : Place) (why : Refusal) → Refuses (text_says (line_says reads) at t) why → ByFault (λ f. (labels : List P) → t ≡ labels_text text labels → ⊥) why
  no_labels t at (refusal.Fault f) e = λ labels is.
      refuses_texts (line_says reads) (λ p. label_line (text p)) Fits (λ at p. (back p []).0) line_back (λ at. refl) line_free t at (refusal.Fault f) e labels (all_fit labels) is
  no_labels t at refusal.Memory e = tt
