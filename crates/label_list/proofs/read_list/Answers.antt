use Rattle.std.proofs.Common.{◌≡◌, [], Ok, Err, ap, ◌∙◌, subst, vec_items}
use Rattle.std.proofs.lemmas.Result.{err_from_is_err_and}
use Rattle.labels.specs.CutLists.{cuts_of}
use Rattle.lines.specs.Fields.{Parted, split}
use Rattle.lines.specs.Texts.{over}
use Rattle.header.proofs.Behind.{read_stop, read_first, no_line, no_cuts, text_from_parts}
use Rattle.label_list.specs.Lists.{labels_text, styled_text, behind_cuts}
use Rattle.label_list.proofs.Law.{Fits}
use Rattle.label_list.proofs.Refused.{list_refuses, no_list}
use Rattle.label_list.proofs.read_list.Goals as goal

pub returns-in_err-next_line : goal.returns-in_err-next_line
returns-in_err-next_line c =
    let p = err_from_is_err_and c.from_residual.result c.from_residual.ensures.1 in
    let lines = c.of-lines.result in
    let all = c.of-lines.ensures in
    let stop = c.in_err-next_line.ensures in
    rw (p.1, p.2)
    (record {
      value = read_stop behind_cuts c.args.text.now lines.left.now lines.at all.left all.at _ stop.value stop.at;
      law = λ cuts labels up. no_line (λ cs ls. labels_text (styled_text cs) ls) Fits c.args.text.now (subst (λ t. split t ≡ record { whole = []; rest = t }) all.left stop.value) cuts labels up tt;
    })

pub returns-in_err-cuts : goal.returns-in_err-cuts
returns-in_err-cuts c =
    let p = err_from_is_err_and c.from_residual-in_err-cuts.result c.from_residual-in_err-cuts.ensures.1 in
    let lines = c.of-lines.result in
    let all = c.of-lines.ensures in
    let line = c.in_ok-next_line.field-0 in
    let taken = c.in_ok-next_line.ensures in
    let rest = c.next_line.new.self in
    let bad = c.in_err-cuts.ensures in
    rw (p.1, p.2)
    (record {
      value = read_first behind_cuts c.args.text.now lines.left.now lines.at all.left all.at line.bytes.now rest.left.now line.at rest.at taken.value taken.at taken.next (Err c.in_err-cuts.field-0.0) bad.value;
      law = λ cuts labels up. no_cuts (λ cs ls. labels_text (styled_text cs) ls) Fits c.args.text.now line.bytes.now rest.left.now (subst (λ t. Parted 10 t line.bytes.now rest.left.now) all.left taken.cases) bad.law cuts labels up tt;
    })

pub returns-in_err-labels : goal.returns-in_err-labels
returns-in_err-labels c =
    let p = err_from_is_err_and c.from_residual-in_err-labels.result c.from_residual-in_err-labels.ensures.1 in
    let lines = c.of-lines.result in
    let all = c.of-lines.ensures in
    let line = c.in_ok-next_line.field-0 in
    let taken = c.in_ok-next_line.ensures in
    let rest = c.next_line.new.self in
    let cuts = cuts_of c.in_ok-cuts.cuts in
    let good = c.in_ok-cuts.ensures in
    let bad = c.in_err-labels.ensures in
    let says = read_first behind_cuts c.args.text.now lines.left.now lines.at all.left all.at line.bytes.now rest.left.now line.at rest.at taken.value taken.at taken.next (Ok cuts) good.value in
    rw (p.1, p.2)
    (record {
      value = list_refuses c.args.text.now cuts rest.at rest.left.now c.in_err-labels.field-0.0 says bad.value;
      law = no_list c.args.text.now line.bytes.now rest.left.now (subst (λ t. Parted 10 t line.bytes.now rest.left.now) all.left taken.cases) line.at (taken.at ∙ all.at) cuts c.in_err-labels.field-0.0 good.value bad.law;
    })

pub returns : goal.returns
returns c =
    let lines = c.of-lines.result in
    let all = c.of-lines.ensures in
    let line = c.in_ok-next_line.field-0 in
    let taken = c.in_ok-next_line.ensures in
    let rest = c.next_line.new.self in
    let cuts = cuts_of c.in_ok-cuts.cuts in
    let good = c.in_ok-cuts.ensures in
    let read = c.in_ok-labels.ensures in
    record {
      value = read_first behind_cuts c.args.text.now lines.left.now lines.at all.left all.at line.bytes.now rest.left.now line.at rest.at taken.value taken.at taken.next (Ok cuts) good.value
          ∙ ap (over (λ labels. record { cuts = cuts; labels = labels })) read.value;
      law = text_from_parts (λ cs ls. labels_text (styled_text cs) ls) Fits c.args.text.now line.bytes.now rest.left.now (subst (λ t. Parted 10 t line.bytes.now rest.left.now) all.left taken.cases) cuts (vec_items c.in_ok-labels.labels) good.law read.law;
    }
