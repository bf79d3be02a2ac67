use Rattle.std.proofs.Common.{rules, ◌≡◌, ℕ, true, false, not, List, [], Ok, Err, codes, sym, ap, ◌∙◌, subst, MatchResult}
use Rattle.std.specs.Str.{bytes_eq}
use Rattle.std.proofs.lemmas.Bool.{not-true, not-false}
use Rattle.labels.specs.CutLists.{cuts_of}
use Rattle.lines.specs.Fields.{left_fields}
use Rattle.lines.specs.declared.Fault.TheVariants.{Word, Count}
use Rattle.header.specs.CutLine.{cut_fields, cut_line}
use Rattle.header.proofs.Law.{read_law}
use Rattle.header.proofs.Reading.{cut_line_word, cut_line_count, cut_line_fields}
use Rattle.header.proofs.read_cuts.Goals as goal

-- what `!=` says of a word
module _ (word named : List ℕ) (is : named ≡ codes "cuts") where
  other : true ≡ not (bytes_eq word named) → bytes_eq word (codes "cuts") ≡ false
  other e = sym (ap (bytes_eq word) is) ∙ not-true _ (sym e)

  same : false ≡ not (bytes_eq word named) → bytes_eq word (codes "cuts") ≡ true
  same e = sym (ap (bytes_eq word) is) ∙ not-false _ (sym e)

pub returns-then-ne : goal.returns-then-ne
returns-then-ne c =
    let says = cut_line_word c.args.line.at c.args.line.bytes.now c.field.result.bytes.now c.field.ensures.bytes (search (rules, other)) in
    record { value = says; law = read_law c.args.line.at c.args.line.bytes.now (Err (Word c.args.line.at)) says }

pub returns-then-count-gt64 : goal.returns-then-count-gt64
returns-then-count-gt64 c =
    let says = cut_line_count c.args.line.at c.args.line.bytes.now c.field.result.bytes.now c.field.ensures.bytes c.count-count.result (search (rules, same)) c.count-count.ensures c.if-count-gt64.true in
    record { value = says; law = read_law c.args.line.at c.args.line.bytes.now (Err (Count c.args.line.at)) says }

pub returns : goal.returns
returns c =
    let whole : cut_line c.args.line.at c.args.line.bytes.now ≡ cut_fields [] c.others.result.at (left_fields c.others.result.left) =
    cut_line_fields c.args.line.at c.args.line.bytes.now c.field.result.bytes.now c.field.ensures.bytes c.count-count.result _ _ (search (rules, same)) c.count-count.ensures c.if-count-gt64.false c.others.ensures.left c.others.ensures.at in
    let says = subst (λ w. MatchResult c.read_fields.result (λ made. w ≡ Ok (cuts_of made)) (λ f. w ≡ Err f)) (sym whole) c.read_fields.ensures in
    record { value = says; law = read_law c.args.line.at c.args.line.bytes.now c.read_fields.result says }
