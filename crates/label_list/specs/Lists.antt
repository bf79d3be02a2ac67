-- Lists of labels, the input of `explain`: the line of cuts, a line for each label, and the end.
use Rattle.std.specs.Prelude.{ℕ, ◌+◌, ◌%◌, ◌^◌, cond, List, [], ◌++◌, length, Some, None, Ok, Err, codes, Option, Result, ◌==◌, ◌≢◌, slice_index_or}
use Rattle.std.specs.Option.{ok_or}
use Rattle.std.specs.Str.{bytes_eq}
use Rattle.labels.specs.Segments.{Rising}
use Rattle.labels.specs.declared.sum.Both.{Both}
use Rattle.lines.specs.Places.{place_of}
use Rattle.lines.specs.Texts.{over, lines_say, lines_text}
use Rattle.lines.specs.declared.Fault.{Fault}
use Rattle.lines.specs.declared.Fault.TheVariants as fault
use Rattle.lines.specs.declared.Place.{Place}
use Rattle.header.specs.Behind.{with_cuts, text_with_cuts}
use Rattle.written.specs.Hex.{hexes, hex_read}
use Rattle.written.specs.Texts.{reads_word, reads_both, reads_whole}
use Rattle.written.specs.declared.Reading.{Reading}

-- a line for each label, and the end
abbrev pub label_line : List ℕ → List ℕ
label_line label = codes "label," ++ label

abbrev pub labels_text : {P : Type 0} → (P → List ℕ) → List P → List ℕ
labels_text text labels = lines_text (λ p. label_line (text p)) labels

-- a label under the sum of style marks and the code points of these cuts: each half as 16 digits, and 0 for each bit that means nothing
abbrev pub styled_text : List ℕ → Both ℕ ℕ → List ℕ
styled_text cuts p = hexes 16 p.left ++ hexes 16 (p.right % 2 ^ (length cuts + 1))

-- the text of a list
abbrev pub list_text : List ℕ → List (Both ℕ ℕ) → List ℕ
list_text cuts labels = text_with_cuts (λ cs ls. labels_text (styled_text cs) ls) cuts labels

-- a text that no list has
abbrev pub NoList : List ℕ → Type 0
NoList text = (cuts : List ℕ) (labels : List (Both ℕ ℕ)) → Rising cuts → text ≢ list_text cuts labels

-- the field behind k commas, as a label
abbrev pub label_at : {P : Type 0} → (List ℕ → Option (Reading P)) → Place → List (List ℕ) → ℕ → Result P Fault
label_at reads at fs k = ok_or (reads_whole reads (slice_index_or fs k [])) (fault.Label (place_of at fs k))

-- what a line that begins at a place says, by its fields, or its first fault: the first field, then the count of fields, then the label; at the end there is none
abbrev pub label_says : {P : Type 0} → (List ℕ → Option (Reading P)) → Place → List (List ℕ) → Result (Option P) Fault
label_says reads at fs = cond (length fs == 2) (over Some (label_at reads at fs 1)) (Err (fault.Count at))

abbrev pub end_says : {P : Type 0} → Place → List (List ℕ) → Result (Option P) Fault
end_says at fs = cond (length fs == 1) (Ok None) (Err (fault.Count at))

abbrev pub line_says : {P : Type 0} → (List ℕ → Option (Reading P)) → Place → List (List ℕ) → Result (Option P) Fault
line_says reads at fs =
    cond (bytes_eq (slice_index_or fs 0 []) (codes "label")) (label_says reads at fs)
    (cond (bytes_eq (slice_index_or fs 0 []) (codes "end")) (end_says at fs) (Err (fault.Word at)))

-- labels under the sum of style marks and the code points of these cuts
abbrev pub styled_reads : List ℕ → List ℕ → Option (Reading (Both ℕ ℕ))
styled_reads cuts bytes = reads_both (reads_word (2 ^ 64) (hex_read 16 0 bytes)) (λ bs. reads_word (2 ^ (length cuts + 1)) (hex_read 16 0 bs)) bytes

pub record Listed : Type 0 where
  pub cuts : List ℕ
  pub labels : List (Both ℕ ℕ)

-- what a text says, or its first fault
abbrev pub behind_cuts : List ℕ → Place → List (List ℕ) → List ℕ → Result Listed Fault
behind_cuts cuts at lines rest = over (λ labels. record { cuts = cuts; labels = labels }) (lines_say (line_says (styled_reads cuts)) at lines rest)

abbrev pub list_says : List ℕ → Result Listed Fault
list_says text = with_cuts behind_cuts text
