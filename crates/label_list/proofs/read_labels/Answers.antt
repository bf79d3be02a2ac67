use Rattle.std.proofs.Common.{◌++◌, [], ◌∷◌, Ok, Err, sym, ap, ◌∙◌, vec_items}
use Rattle.std.proofs.lemmas.Result.{err_from_is_err_and}
use Rattle.std.proofs.lemmas.List.{append_assoc, append-nil}
use Rattle.lines.specs.Fields.{fields, split}
use Rattle.lines.specs.Texts.{over, closes, text_says}
use Rattle.lines.specs.declared.Refusal.TheVariants as refusal
use Rattle.lines.proofs.Texts.{turn_stop, turn_fault, turn_more, turn_end}
use Rattle.label_list.specs.Lists.{line_says}
use Rattle.label_list.proofs.Law.{text_from_says, no_labels}
use Rattle.label_list.proofs.read_labels.Goals as goal

pub returns-in_err-next_line : goal.returns-in_err-next_line
returns-in_err-next_line g c =
    let p = err_from_is_err_and c.from_residual.result c.from_residual.ensures.1 in
    let a = c.args.a.now in
    let ends = c.in_err-next_line.ensures in
    let says =
    turn_stop (line_says (g.L.WrittenAlgebra.reads a)) _ (λ ps. vec_items c.loop-labels.labels ++ ps) c.loop-labels.lines.at c.loop-labels.lines.left.now c.loop-labels.invariant ends.value
    ∙ ap Err (sym ends.at) in
    rw (p.1, p.2) (record { value = says; law = no_labels (g.L.WrittenAlgebra.text a) (g.L.WrittenAlgebra.reads a) (g.met.L.WrittenAlgebra.back a) (g.met.L.WrittenAlgebra.plain a) c.args.lines.left.now c.args.lines.at (refusal.Fault _) says })

pub returns-in_err-p : goal.returns-in_err-p
returns-in_err-p g c =
    let p = err_from_is_err_and c.from_residual-in_err-p.result c.from_residual-in_err-p.ensures.1 in
    let a = c.args.a.now in
    let line = c.in_ok-next_line.field-0 in
    let taken = c.in_ok-next_line.ensures in
    let says =
    turn_fault (line_says (g.L.WrittenAlgebra.reads a)) _ (λ ps. vec_items c.loop-labels.labels ++ ps) c.loop-labels.lines.at c.loop-labels.lines.left.now c.loop-labels.invariant line.bytes.now _ taken.value _
    (ap (λ q. line_says (g.L.WrittenAlgebra.reads a) q (fields line.bytes.now)) (sym taken.at) ∙ sym c.in_err-p.ensures) in
    rw (p.1, p.2) (record { value = says; law = no_labels (g.L.WrittenAlgebra.text a) (g.L.WrittenAlgebra.reads a) (g.met.L.WrittenAlgebra.back a) (g.met.L.WrittenAlgebra.plain a) c.args.lines.left.now c.args.lines.at (refusal.Fault _) says })

pub loop-labels-preserved : goal.loop-labels-preserved
loop-labels-preserved g c =
    let a = c.args.a.now in
    let line = c.in_ok-next_line.field-0 in
    let taken = c.in_ok-next_line.ensures in
    turn_more (line_says (g.L.WrittenAlgebra.reads a)) _ (λ ps. vec_items c.loop-labels.labels ++ ps) c.loop-labels.lines.at c.loop-labels.lines.left.now c.loop-labels.invariant line.bytes.now _ taken.value c.in-Some.p
    (λ ps. vec_items c.push.new.self ++ ps)
    (ap (λ q. line_says (g.L.WrittenAlgebra.reads a) q (fields line.bytes.now)) (sym taken.at) ∙ sym c.in_ok-p.ensures ∙ ap Ok c.in-Some.is)
    (λ ps. sym (append_assoc (vec_items c.loop-labels.labels) (c.in-Some.p ∷ []) ps) ∙ ap (λ vs. vs ++ ps) (sym c.in_ok-push.ensures.items))
    ∙ ap (λ q. over (λ ps. vec_items c.push.new.self ++ ps) (text_says (line_says (g.L.WrittenAlgebra.reads a)) q c.next_line.new.self.left.now)) (sym taken.next)

pub returns-in_err-end : goal.returns-in_err-end
returns-in_err-end g c =
    let p = err_from_is_err_and c.from_residual-in_err-end.result c.from_residual-in_err-end.ensures.1 in
    let a = c.args.a.now in
    let line = c.in_ok-next_line.field-0 in
    let taken = c.in_ok-next_line.ensures in
    let rest = c.next_line.new.self.left.now in
    let says =
    turn_end (line_says (g.L.WrittenAlgebra.reads a)) _ (λ ps. vec_items c.loop-labels.labels ++ ps) c.loop-labels.lines.at c.loop-labels.lines.left.now c.loop-labels.invariant line.bytes.now rest taken.value (Err c.in_err-end.field-0.0)
    (ap (λ q. line_says (g.L.WrittenAlgebra.reads a) q (fields line.bytes.now)) (sym taken.at) ∙ sym c.in_ok-p.ensures ∙ ap Ok c.in_default.is)
    (c.in_err-end.ensures ∙ ap (λ q. closes tt q (split rest).whole (split rest).rest) taken.next) in
    rw (p.1, p.2) (record { value = says; law = no_labels (g.L.WrittenAlgebra.text a) (g.L.WrittenAlgebra.reads a) (g.met.L.WrittenAlgebra.back a) (g.met.L.WrittenAlgebra.plain a) c.args.lines.left.now c.args.lines.at (refusal.Fault _) says })

pub returns : goal.returns
returns g c =
    let a = c.args.a.now in
    let line = c.in_ok-next_line.field-0 in
    let taken = c.in_ok-next_line.ensures in
    let rest = c.next_line.new.self.left.now in
    let says =
    turn_end (line_says (g.L.WrittenAlgebra.reads a)) _ (λ ps. vec_items c.loop-labels.labels ++ ps) c.loop-labels.lines.at c.loop-labels.lines.left.now c.loop-labels.invariant line.bytes.now rest taken.value (Ok tt)
    (ap (λ q. line_says (g.L.WrittenAlgebra.reads a) q (fields line.bytes.now)) (sym taken.at) ∙ sym c.in_ok-p.ensures ∙ ap Ok c.in_default.is)
    (c.in_ok-end.ensures ∙ ap (λ q. closes tt q (split rest).whole (split rest).rest) taken.next)
    ∙ ap Ok (append-nil (vec_items c.loop-labels.labels)) in
    record { value = says; law = text_from_says (g.L.WrittenAlgebra.text a) (g.L.WrittenAlgebra.reads a) (g.met.L.WrittenAlgebra.exact a) c.args.lines.left.now c.args.lines.at _ says }
