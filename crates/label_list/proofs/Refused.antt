-- A refusal of the lines behind the cuts is one of the list.
use Rattle.std.proofs.Common.{◌≡◌, ℕ, List, Ok, sym, ap, ◌∙◌}
use Rattle.labels.specs.declared.sum.Both.{Both}
use Rattle.lines.specs.Fields.{Parted, split}
use Rattle.lines.specs.Texts.{over, text_says, ByFault, Refuses}
use Rattle.lines.specs.declared.Place.{Place}
use Rattle.lines.specs.declared.Refusal.{Refusal}
use Rattle.lines.specs.declared.Refusal.TheVariants as refusal
use Rattle.header.specs.Behind.{start}
use Rattle.header.specs.CutLine.{cut_line}
use Rattle.header.proofs.Behind.{no_rest}
use Rattle.label_list.specs.Lists.{labels_text, styled_text, styled_reads, NoList, line_says, behind_cuts, list_says}
use Rattle.label_list.proofs.Law.{Fits}

pub list_refuses : (text cuts : List ℕ) (at : Place) (rest : List ℕ) (why : Refusal) → list_says text ≡ behind_cuts cuts at (split rest).whole (split rest).rest
    → Refuses (text_says (line_says (styled_reads cuts)) at rest) why → Refuses (list_says text) why
list_refuses text cuts at rest (refusal.Fault f) is says = is ∙ ap (over (λ labels. record { cuts = cuts; labels = labels })) says
list_refuses text cuts at rest refusal.Memory is says = tt

module _ (text line rest : List ℕ) (parted : Parted 10 text line rest) (at : Place) (here : at ≡ start) (cuts : List ℕ) where
  pub no_list : (why : Refusal) → cut_line at line ≡ Ok cuts → ByFault (λ f. (labels : List (Both ℕ ℕ)) → rest ≡ labels_text (styled_text cuts) labels → ⊥) why → ByFault (λ f. NoList text) why
  no_list (refusal.Fault f) says none = λ cs labels up is.
      no_rest (λ cs ls. labels_text (styled_text cs) ls) Fits text line rest parted cuts (refusal.Fault f) (ap (λ p. cut_line p line) (sym here) ∙ says) (λ ls fit. none ls) cs labels up tt is
  no_list refusal.Memory says none = tt
