use Rattle.std.proofs.Common.{[], Ok, Err, sym, ap, ◌∙◌, vec_items}
use Rattle.std.proofs.lemmas.Result.{err_from_is_err_and}
use Rattle.lines.specs.declared.Refusal.TheVariants as refusal
use Rattle.lines.proofs.Results.{err_from_over, refuses_from_over}
use Rattle.lines.proofs.Texts.{turn_stop}
use Rattle.script.specs.Reads.{line_says}
use Rattle.script.specs.Scripts.{told}
use Rattle.script.proofs.Law.{tells, refuses_lines}
use Rattle.script.proofs.Says.{turn_call, turn_last, turn_refused}
use Rattle.script.proofs.read_calls.Goals as goal

pub returns-in_err-next_line : goal.returns-in_err-next_line
returns-in_err-next_line g c =
    let p = err_from_is_err_and c.from_residual.result c.from_residual.ensures.1 in
    let ends = c.in_err-next_line.ensures in
    let says =
    err_from_over (told [] []) _ _
    (turn_stop (line_says (g.L.WrittenAlgebra.reads c.args.a.now)) _ (told (vec_items c.loop-symbols.calls) (vec_items c.loop-symbols.symbols)) c.loop-symbols.lines.at c.loop-symbols.lines.left.now c.loop-symbols.invariant ends.value
    ∙ ap Err (sym ends.at)) in
    rw (p.1, p.2) (record { value = says; law = refuses_lines (g.L.WrittenAlgebra.text c.args.a.now) (g.L.WrittenAlgebra.reads c.args.a.now) (g.met.L.WrittenAlgebra.back c.args.a.now) (g.met.L.WrittenAlgebra.plain c.args.a.now) c.args.lines.left.now c.args.lines.at (refusal.Fault _) says })

pub returns-in_err-call : goal.returns-in_err-call
returns-in_err-call g c =
    let p = err_from_is_err_and c.from_residual-in_err-call.result c.from_residual-in_err-call.ensures.1 in
    let line = c.in_ok-next_line.field-0 in
    let taken = c.in_ok-next_line.ensures in
    let rest = c.next_line.new.self in
    let says = refuses_from_over (told [] []) _ c.in_err-call.field-0.0 (turn_refused (g.L.WrittenAlgebra.reads c.args.a.now) _ (vec_items c.loop-symbols.calls) (vec_items c.loop-symbols.symbols) c.loop-symbols.lines.at c.loop-symbols.lines.left.now c.loop-symbols.invariant line.bytes.now rest.left.now taken.value line.at taken.at c.in_err-call.field-0.0 c.in_err-call.ensures) in
    rw (p.1, p.2) (record { value = says; law = refuses_lines (g.L.WrittenAlgebra.text c.args.a.now) (g.L.WrittenAlgebra.reads c.args.a.now) (g.met.L.WrittenAlgebra.back c.args.a.now) (g.met.L.WrittenAlgebra.plain c.args.a.now) c.args.lines.left.now c.args.lines.at c.in_err-call.field-0.0 says })

pub loop-symbols-preserved : goal.loop-symbols-preserved
loop-symbols-preserved g c =
    let line = c.in_ok-next_line.field-0 in
    let taken = c.in_ok-next_line.ensures in
    let rest = c.next_line.new.self in
    turn_call (g.L.WrittenAlgebra.reads c.args.a.now) _ (vec_items c.loop-symbols.calls) (vec_items c.loop-symbols.symbols) c.loop-symbols.lines.at c.loop-symbols.lines.left.now c.loop-symbols.invariant line.bytes.now rest.left.now taken.value line.at taken.at rest.at c.in-Some.call c.in_ok-call.field-0 (vec_items c.read_line.new.symbols) (vec_items c.push.new.self) taken.next c.in-Some.is c.in_ok-call.ensures c.in_ok-push.ensures.items

pub returns-in_err-end : goal.returns-in_err-end
returns-in_err-end g c =
    let p = err_from_is_err_and c.from_residual-in_err-end.result c.from_residual-in_err-end.ensures.1 in
    let line = c.in_ok-next_line.field-0 in
    let taken = c.in_ok-next_line.ensures in
    let rest = c.next_line.new.self in
    let says = err_from_over (told [] []) _ _ (turn_last (g.L.WrittenAlgebra.reads c.args.a.now) _ (vec_items c.loop-symbols.calls) (vec_items c.loop-symbols.symbols) c.loop-symbols.lines.at c.loop-symbols.lines.left.now c.loop-symbols.invariant line.bytes.now rest.left.now taken.value line.at taken.at rest.at c.in_ok-call.field-0 (vec_items c.read_line.new.symbols) (Err c.in_err-end.field-0.0) taken.next c.in_default.is c.in_ok-call.ensures c.in_err-end.ensures) in
    rw (p.1, p.2) (record { value = says; law = refuses_lines (g.L.WrittenAlgebra.text c.args.a.now) (g.L.WrittenAlgebra.reads c.args.a.now) (g.met.L.WrittenAlgebra.back c.args.a.now) (g.met.L.WrittenAlgebra.plain c.args.a.now) c.args.lines.left.now c.args.lines.at (refusal.Fault _) says })

pub returns : goal.returns
returns g c =
    let line = c.in_ok-next_line.field-0 in
    let taken = c.in_ok-next_line.ensures in
    let rest = c.next_line.new.self in
    let says = turn_last (g.L.WrittenAlgebra.reads c.args.a.now) _ (vec_items c.loop-symbols.calls) (vec_items c.loop-symbols.symbols) c.loop-symbols.lines.at c.loop-symbols.lines.left.now c.loop-symbols.invariant line.bytes.now rest.left.now taken.value line.at taken.at rest.at c.in_ok-call.field-0 (vec_items c.read_line.new.symbols) (Ok tt) taken.next c.in_default.is c.in_ok-call.ensures c.in_ok-end.ensures in
    record { value = says; law = tells (g.L.WrittenAlgebra.text c.args.a.now) (g.L.WrittenAlgebra.reads c.args.a.now) (g.met.L.WrittenAlgebra.exact c.args.a.now) c.args.lines.left.now c.args.lines.at _ says }
