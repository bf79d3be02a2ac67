use Rattle.std.proofs.Common.{◌≡◌, [], Ok, Err, ◌∙◌, subst}
use Rattle.std.proofs.lemmas.Result.{err_from_is_err_and}
use Rattle.labels.specs.CutLists.{cuts_of}
use Rattle.lines.specs.Fields.{Parted, split}
use Rattle.std.specs.List.{AllByRecursion}
use Rattle.header.proofs.Behind.{read_stop, read_first, no_line, no_cuts}
use Rattle.label_list.specs.Lists.{styled_text}
use Rattle.script.specs.Lines.{Fits, lines_text}
use Rattle.script.specs.Scripts.{behind_cuts}
use Rattle.script.proofs.Says.{script_refuses, script_read}
use Rattle.script.proofs.Law.{no_script, script_from_parts}
use Rattle.script.proofs.read_script.Goals as goal

pub returns-in_err-next_line : goal.returns-in_err-next_line
returns-in_err-next_line c =
    let p = err_from_is_err_and c.from_residual.result c.from_residual.ensures.1 in
    let lines = c.of-lines.result in
    let all = c.of-lines.ensures in
    let stop = c.in_err-next_line.ensures in
    rw (p.1, p.2)
    (record {
      value = read_stop behind_cuts c.args.text.now lines.left.now lines.at all.left all.at _ stop.value stop.at;
      law = no_line (λ cs ls. lines_text (styled_text cs) ls) (AllByRecursion Fits) c.args.text.now (subst (λ t. split t ≡ record { whole = []; rest = t }) all.left stop.value);
    })

pub returns-in_err-cuts : goal.returns-in_err-cuts
returns-in_err-cuts c =
    let p = err_from_is_err_and c.from_residual-in_err-cuts.result c.from_residual-in_err-cuts.ensures.1 in
    let lines = c.of-lines.result in
    let all = c.of-lines.ensures in
    let line = c.in_ok-next_line.field-0 in
    let taken = c.in_ok-next_line.ensures in
    let rest = c.next_line.new.self in
    let bad = c.in_err-cuts.ensures in
    rw (p.1, p.2)
    (record {
      value = read_first behind_cuts c.args.text.now lines.left.now lines.at all.left all.at line.bytes.now rest.left.now line.at rest.at taken.value taken.at taken.next (Err c.in_err-cuts.field-0.0) bad.value;
      law = no_cuts (λ cs ls. lines_text (styled_text cs) ls) (AllByRecursion Fits) c.args.text.now line.bytes.now rest.left.now (subst (λ t. Parted 10 t line.bytes.now rest.left.now) all.left taken.cases) bad.law;
    })

pub returns-in_err-calls : goal.returns-in_err-calls
returns-in_err-calls c =
    let p = err_from_is_err_and c.from_residual-in_err-calls.result c.from_residual-in_err-calls.ensures.1 in
    let lines = c.of-lines.result in
    let all = c.of-lines.ensures in
    let line = c.in_ok-next_line.field-0 in
    let taken = c.in_ok-next_line.ensures in
    let rest = c.next_line.new.self in
    let cuts = cuts_of c.in_ok-cuts.cuts in
    let good = c.in_ok-cuts.ensures in
    let bad = c.in_err-calls.ensures in
    let says = read_first behind_cuts c.args.text.now lines.left.now lines.at all.left all.at line.bytes.now rest.left.now line.at rest.at taken.value taken.at taken.next (Ok cuts) good.value in
    rw (p.1, p.2)
    (record {
      value = script_refuses c.args.text.now cuts rest.at rest.left.now c.in_err-calls.field-0.0 says bad.value;
      law = no_script c.args.text.now line.bytes.now rest.left.now (subst (λ t. Parted 10 t line.bytes.now rest.left.now) all.left taken.cases) line.at (taken.at ∙ all.at) cuts c.in_err-calls.field-0.0 good.value bad.law;
    })

pub returns : goal.returns
returns c =
    let lines = c.of-lines.result in
    let all = c.of-lines.ensures in
    let line = c.in_ok-next_line.field-0 in
    let taken = c.in_ok-next_line.ensures in
    let rest = c.next_line.new.self in
    let cuts = cuts_of c.in_ok-cuts.cuts in
    let good = c.in_ok-cuts.ensures in
    let read = c.in_ok-calls.ensures in
    record {
      value = script_read c.args.text.now cuts rest.at rest.left.now _ (read_first behind_cuts c.args.text.now lines.left.now lines.at all.left all.at line.bytes.now rest.left.now line.at rest.at taken.value taken.at taken.next (Ok cuts) good.value) read.value;
      law = script_from_parts c.args.text.now line.bytes.now rest.left.now (subst (λ t. Parted 10 t line.bytes.now rest.left.now) all.left taken.cases) cuts _ good.law read.law;
    }
