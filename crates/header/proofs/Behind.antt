-- A text by its first line, which says the cuts.
use Rattle.std.proofs.Common.{◌≡◌, ℕ, List, [], ◌++◌, ◌∷◌, length, Ok, Err, Result, sym, ap, ◌∙◌, ap₂, arith}
use Rattle.labels.specs.Segments.{Rising}
use Rattle.lines.specs.Fields.{Parted, split, above}
use Rattle.lines.specs.Places.{further, next}
use Rattle.lines.specs.Texts.{and_then, ByFault}
use Rattle.lines.specs.declared.Fault.{Fault}
use Rattle.lines.specs.declared.Fault.TheVariants as fault
use Rattle.lines.specs.declared.Place.{Place}
use Rattle.lines.specs.declared.Refusal.{Refusal}
use Rattle.lines.specs.declared.Refusal.TheVariants as refusal
use Rattle.lines.proofs.Parts.{same_parted, split_newline}
use Rattle.header.specs.CutLine.{cut_line_text, cut_line}
use Rattle.header.specs.Behind.{start, by_cuts, with_cuts, text_with_cuts}
use Rattle.header.proofs.Law.{cut_line_rising, cut_line_text_free}

module _ {Y : Type 0} (more : List ℕ → Place → List (List ℕ) → List ℕ → Result Y Fault) (text : List ℕ) where
  pub with_stop : split text ≡ record { whole = []; rest = text } → with_cuts more text ≡ Err (fault.Stop (further start (length text)))
  unfolding with_cuts
  with_stop is = ap (λ s. by_cuts more s.whole s.rest) is

  pub with_first : (line rest : List ℕ) → split text ≡ above line (split rest) → (r : Result (List ℕ) Fault) → cut_line start line ≡ r
      → with_cuts more text ≡ and_then r (λ cuts. more cuts (next start line) (split rest).whole (split rest).rest)
  unfolding with_cuts
  with_first line rest is r e = ap (λ s. by_cuts more s.whole s.rest) is ∙ ap (λ x. and_then x (λ cuts. more cuts (next start line) (split rest).whole (split rest).rest)) e

-- texts that are no text of rising cuts and of what fits behind them
module _ {Y : Type 0} (behind : List ℕ → Y → List ℕ) (Fit : Y → Type 0) where
  abbrev pub NoText : List ℕ → Type 0
  NoText text = (cuts : List ℕ) (y : Y) → Rising cuts → Fit y → text ≡ text_with_cuts behind cuts y → ⊥

  pub no_line : (text : List ℕ) → split text ≡ record { whole = []; rest = text } → NoText text
  no_line text none cuts y up fit is =
      omega (arith, ap (λ s. length s.whole) (sym none ∙ ap split is ∙ split_newline (cut_line_text cuts) (behind cuts y) (cut_line_text_free cuts up)))

  -- the first line, and what stands behind it
  module _ (text line rest : List ℕ) (parted : Parted 10 text line rest) where
    pub text_from_parts : (cuts : List ℕ) (y : Y) → line ≡ cut_line_text cuts → rest ≡ behind cuts y → text ≡ text_with_cuts behind cuts y
    text_from_parts cuts y a b = parted.is ∙ ap₂ (λ l r. l ++ (10 ∷ r)) a b

    parts_from_text : (cuts : List ℕ) (y : Y) → Rising cuts → text ≡ text_with_cuts behind cuts y → (line ≡ cut_line_text cuts) × (rest ≡ behind cuts y)
    parts_from_text cuts y up is = same_parted 10 text line rest (cut_line_text cuts) (behind cuts y) parted (record { is = is; free = cut_line_text_free cuts up })

    pub no_cuts : ((cuts : List ℕ) → Rising cuts → line ≡ cut_line_text cuts → ⊥) → NoText text
    no_cuts none cuts y up fit is = none cuts up (parts_from_text cuts y up is).0

    pub no_rest : (made : List ℕ) (why : Refusal) → cut_line start line ≡ Ok made → ByFault (λ f. (y : Y) → Fit y → rest ≡ behind made y → ⊥) why → ByFault (λ f. NoText text) why
    no_rest made (refusal.Fault f) says none = λ cuts y up fit is.
        let parts = parts_from_text cuts y up is in
        let again : cut_line start line ≡ Ok cuts = cut_line_rising cuts up start line parts.0 in
        let same : cuts ≡ made = cc in
        none y fit (parts.1 ∙ ap (λ cs. behind cs y) same)
    no_rest made refusal.Memory says none = tt

-- the same, as a reader meets it: at what is left of the text, from where that begins
module _ {Y : Type 0} (more : List ℕ → Place → List (List ℕ) → List ℕ → Result Y Fault) (text left : List ℕ) (from : Place) (whole : left ≡ text) (begins : from ≡ start) where
  pub read_stop : (f : Fault) → split left ≡ record { whole = []; rest = left } → f ≡ fault.Stop (further from (length left)) → with_cuts more text ≡ Err f
  read_stop f is stop = ap (with_cuts more) (sym whole) ∙ with_stop more left is ∙ ap Err (ap (λ p. fault.Stop (further p (length left))) (sym begins) ∙ sym stop)

  pub read_first : (line rest : List ℕ) (at at' : Place) → split left ≡ above line (split rest) → at ≡ from → at' ≡ next from line → (r : Result (List ℕ) Fault) → cut_line at line ≡ r
      → with_cuts more text ≡ and_then r (λ cuts. more cuts at' (split rest).whole (split rest).rest)
  read_first line rest at at' is here behind r e =
      ap (with_cuts more) (sym whole)
      ∙ with_first more left line rest is r (ap (λ p. cut_line p line) (sym (here ∙ begins)) ∙ e)
      ∙ ap (λ p. and_then r (λ cuts. more cuts p (split rest).whole (split rest).rest)) (ap (λ p. next p line) (sym begins) ∙ sym behind)
