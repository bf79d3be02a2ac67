use Rattle.std.proofs.Common.{vec_items}
use Rattle.std.proofs.lemmas.Result.{err_from_is_err_and}
use Rattle.script.specs.declared.verbs.Kind.TheVariants as kind
use Rattle.script.proofs.Says.{line_word, line_count, line_kind, line_tests, call_read, call_fault, read_word, word_refuses, read_end}
use Rattle.script.proofs.read_line.Goals as goal

pub returns-in_err-kind : goal.returns-in_err-kind
returns-in_err-kind g c =
    let p = err_from_is_err_and c.from_residual.result c.from_residual.ensures.1 in
    rw (p.1, p.2) (line_word (g.L.WrittenAlgebra.reads c.args.a.now) c.args.line.at c.args.line.bytes.now c.field.result.bytes.now c.field.ensures.bytes c.kind_of.result c.kind_of.ensures _ c.in_err-kind.ensures.value)

pub returns-then-not-takes : goal.returns-then-not-takes
returns-then-not-takes g c = rw (c.into.ensures) (line_count (g.L.WrittenAlgebra.reads c.args.a.now) c.args.line.at c.args.line.bytes.now c.field.result.bytes.now c.field.ensures.bytes c.kind_of.result c.kind_of.ensures c.in_ok-kind.kind c.count.result c.in_ok-kind.ensures.value c.count.ensures c.if-not-takes.ensures)

pub returns-in_err-read_call-in-Call : goal.returns-in_err-read_call-in-Call
returns-in_err-read_call-in-Call g c =
    let p = err_from_is_err_and c.from_residual-in_err-read_call-in-Call.result c.from_residual-in_err-read_call-in-Call.ensures.1 in
    let is = line_kind (g.L.WrittenAlgebra.reads c.args.a.now) c.args.line.at c.args.line.bytes.now c.field.result.bytes.now c.field.ensures.bytes c.kind_of.result c.kind_of.ensures c.in_ok-kind.kind c.count.result c.in_ok-kind.ensures.value c.count.ensures (kind.Call c.in-Call.verb) c.in-Call.is c.if-not-takes.ensures in
    rw (p.1, p.2) (call_fault _ _ _ is c.in_err-read_call-in-Call.ensures)

pub returns-in_err-read_word-in-Word : goal.returns-in_err-read_word-in-Word
returns-in_err-read_word-in-Word g c =
    let p = err_from_is_err_and c.from_residual-in_err-read_word-in-Word.result c.from_residual-in_err-read_word-in-Word.ensures.1 in
    let is = line_tests (g.L.WrittenAlgebra.reads c.args.a.now) c.args.line.at c.args.line.bytes.now c.field.result.bytes.now c.field.ensures.bytes c.kind_of.result c.kind_of.ensures c.in_ok-kind.kind c.count.result c.in_ok-kind.ensures.value c.count.ensures c.in-Word.is c.if-not-takes.ensures in
    rw (p.1, p.2) (word_refuses _ _ _ is c.in_err-read_word-in-Word.ensures)

pub returns-in_ok-read_call-in-Call : goal.returns-in_ok-read_call-in-Call
returns-in_ok-read_call-in-Call g c =
    let is = line_kind (g.L.WrittenAlgebra.reads c.args.a.now) c.args.line.at c.args.line.bytes.now c.field.result.bytes.now c.field.ensures.bytes c.kind_of.result c.kind_of.ensures c.in_ok-kind.kind c.count.result c.in_ok-kind.ensures.value c.count.ensures (kind.Call c.in-Call.verb) c.in-Call.is c.if-not-takes.ensures in
    call_read _ _ _ (vec_items c.args.symbols.now) is c.in_ok-read_call-in-Call.ensures

pub returns-in_ok-read_word-in-Word : goal.returns-in_ok-read_word-in-Word
returns-in_ok-read_word-in-Word g c =
    let is = line_tests (g.L.WrittenAlgebra.reads c.args.a.now) c.args.line.at c.args.line.bytes.now c.field.result.bytes.now c.field.ensures.bytes c.kind_of.result c.kind_of.ensures c.in_ok-kind.kind c.count.result c.in_ok-kind.ensures.value c.count.ensures c.in-Word.is c.if-not-takes.ensures in
    read_word _ _ _ (vec_items c.args.symbols.now) _ is c.in_ok-read_word-in-Word.ensures

pub returns-in-End : goal.returns-in-End
returns-in-End g c = read_end _ (vec_items c.args.symbols.now) (line_kind (g.L.WrittenAlgebra.reads c.args.a.now) c.args.line.at c.args.line.bytes.now c.field.result.bytes.now c.field.ensures.bytes c.kind_of.result c.kind_of.ensures c.in_ok-kind.kind c.count.result c.in_ok-kind.ensures.value c.count.ensures kind.End c.in-End.is c.if-not-takes.ensures)
