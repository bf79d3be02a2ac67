use Rattle.std.proofs.Common.{[], length, sym, ap, ◌∙◌}
use Rattle.std.proofs.lemmas.List.{append-nil}
use Rattle.written.specs.Texts.{whole_if}
use Rattle.written.specs.Codecs.{whole_cases, whole_len, whole_test}
use Rattle.written.proofs.read_whole.Goals as goal

pub returns-in_err-got : goal.returns-in_err-got
returns-in_err-got g c =
    let field = c.args.field.now in
    rw c.from_residual.ensures (record {
      value = ap (whole_if (length field)) c.in_err-got.ensures;
      cases = λ p e. g.met.L.WrittenAlgebra.fails c.args.a.now field (sym c.in_err-got.ensures) p [] (e ∙ sym (append-nil _));
    })

pub returns : goal.returns
returns g c =
    let field = c.args.field.now in
    let reads = g.L.WrittenAlgebra.reads c.args.a.now in
    let got = c.in_ok-got.got in
    let exact = g.met.L.WrittenAlgebra.exact c.args.a.now field got (sym c.in_ok-got.ensures) in
    rw c.then_some.ensures (record {
      value = whole_test reads field got c.in_ok-got.ensures;
      cases = whole_cases reads field (g.L.WrittenAlgebra.text c.args.a.now) got exact.1 (λ p e.
          let back = g.met.L.WrittenAlgebra.back c.args.a.now p [] in
          whole_len reads field _ got back.0 c.in_ok-got.ensures e back.1);
    })
