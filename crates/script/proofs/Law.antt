-- A text that is accepted is the text of the lines that it says, and the text of lines is accepted.
use Rattle.std.proofs.Common.{◌≡◌, ℕ, List, [], ◌∷◌, ◌++◌, length, drop, Some, None, Ok, codes, Option, sym, ap, ◌∙◌, ap₂, arith, MatchOption}
use Rattle.std.specs.List.{AllByRecursion}
use Rattle.lines.specs.Fields.{Parted, fields}
use Rattle.lines.specs.Texts.{over, text_says, ByFault, Refuses}
use Rattle.lines.specs.declared.Place.{Place}
use Rattle.lines.specs.declared.Refusal.{Refusal}
use Rattle.lines.proofs.Parts.{fields_some, line_joined}
use Rattle.lines.proofs.Results.{made_of}
use Rattle.lines.proofs.Texts.{text_exact, refuses_texts}
use Rattle.header.specs.Behind.{start}
use Rattle.header.specs.CutLine.{cut_line_text, cut_line}
use Rattle.header.proofs.Behind.{no_rest}
use Rattle.written.specs.Texts.{Plain}
use Rattle.written.specs.declared.Reading.{Reading}
use Rattle.labels.specs.declared.sum.Both.{Both}
use Rattle.label_list.specs.Lists.{styled_text}
use Rattle.script.specs.Lines.{Line, Fits, line_fields, by_commas, line_text, lines_text}
use Rattle.script.specs.Reads.{line_says}
use Rattle.script.specs.Scripts.{Told, told, Tells, NoLines, IsScript, NoScript}
use Rattle.script.proofs.Exact.{Says, line_exact}
use Rattle.script.proofs.Back.{again_line, line_back, end_back, fields_line, free_by_commas, plain_line}

line_from_fields : (line : List ℕ) (fs : List (List ℕ)) → fields line ≡ fs → line ≡ by_commas fs
line_from_fields line [] is = absurd (omega (arith, ap length is, fields_some line))
line_from_fields line (f ∷ fs) is = line_joined line f fs is

-- what was read has as its text the very bytes taken
module _ {P : Type 0} (text : P → List ℕ) (reads : List ℕ → Option (Reading P))
    (exact : (bytes : List ℕ) (got : Reading P) → reads bytes ≡ Some got → (got.len ≡ length (text got.predicate)) × (bytes ≡ text got.predicate ++ drop got.len bytes)) where
  line_is : (at : Place) (line : List ℕ) (said : Option (Line P)) → line_says reads at (fields line) ≡ Ok said → MatchOption said (line ≡ codes "end") (λ x. (line ≡ line_text text x) × Fits x)
  line_is at line said e = by said (line_exact text reads exact at (fields line) said (fields_some line) e)
    where
      by : (s : Option (Line P)) → Says text reads exact at (fields line) s → MatchOption s (line ≡ codes "end") (λ x. (line ≡ line_text text x) × Fits x)
      by None is = line_from_fields line (codes "end" ∷ []) is
      by (Some x) is = (line_from_fields line (line_fields text x) is.0, is.1)

  -- a text that is accepted
  pub tells : (bytes : List ℕ) (at : Place) (t : Told P) → over (told [] []) (text_says (line_says reads) at bytes) ≡ Ok t → Tells text bytes t
  tells bytes at t e =
      let made = made_of (text_says (line_says reads) at bytes) (told [] []) t e in
      let all = text_exact (line_says reads) (line_text text) Fits line_is bytes at made.part made.was in
      record { lines = made.part; fits = all.1; is = all.0; calls = ap (λ u. u.calls) (sym made.so); symbols = ap (λ u. u.symbols) (sym made.so) }

-- a text is read whole, and can be a field
module _ {P : Type 0} {Same : P → P → Type 0} (text : P → List ℕ) (reads : List ℕ → Option (Reading P))
    (back : (p : P) (rest : List ℕ) → (q : P) × (reads (text p ++ rest) ≡ Some (record { predicate = q; len = length (text p) })) × Same q p)
    (plain : (p : P) → Plain (text p)) where
  -- so no text of lines has a fault
  pub refuses_lines : (bytes : List ℕ) (at : Place) (why : Refusal) → Refuses (text_says (line_says reads) at bytes) why → ByFault (λ f. NoLines text bytes) why
  refuses_lines bytes at why e =
      refuses_texts (line_says reads) (line_text text) Fits (λ q x. again_line text reads back plain q x)
      (λ q x fit. ap (line_says reads q) (fields_line text reads back plain x fit) ∙ line_back text reads back plain q x fit)
      (λ q. end_back text reads back plain q)
      (λ x fit. free_by_commas (line_fields text x) (plain_line text reads back plain x fit)) bytes at why e

-- the first line, and what stands behind it
module _ (text line rest : List ℕ) (parted : Parted 10 text line rest) where
  pub script_from_parts : (cuts : List ℕ) (t : Told (Both ℕ ℕ)) → line ≡ cut_line_text cuts → Tells (styled_text cuts) rest t → IsScript text cuts t
  script_from_parts cuts t a b = record { lines = b.lines; fits = b.fits; is = parted.is ∙ ap₂ (λ x y. x ++ (10 ∷ y)) a b.is; calls = b.calls; symbols = b.symbols }

  pub no_script : (at : Place) → at ≡ start → (cuts : List ℕ) (why : Refusal) → cut_line at line ≡ Ok cuts → ByFault (λ f. NoLines (styled_text cuts) rest) why → ByFault (λ f. NoScript text) why
  no_script at here cuts why says none =
      no_rest (λ cs xs. lines_text (styled_text cs) xs) (AllByRecursion Fits) text line rest parted cuts why (ap (λ p. cut_line p line) (sym here) ∙ says) none
