use Rattle.std.proofs.Common.{length, sym, ap}
use Rattle.std.proofs.lemmas.List.{nil_from_length}
use Rattle.std.proofs.lemmas.Bool.{eqb-true, eqb-false}
use Rattle.lines.proofs.Texts.{closes_none, closes_some}
use Rattle.lines.proofs.text.Lines.end.Goals as goal

pub returns-then-is_empty : goal.returns-then-is_empty
returns-then-is_empty c = closes_none _ _ _ (nil_from_length _ (eqb-true _ 0 (sym c.if-is_empty.ensures)))

pub returns-else-is_empty : goal.returns-else-is_empty
returns-else-is_empty c = closes_some _ _ _ (λ e. eqb-false (length c.args.self.now.left.now) 0 (sym c.if-is_empty.ensures) (ap length e))
