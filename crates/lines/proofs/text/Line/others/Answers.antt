use Rattle.lines.proofs.Passing.{others_left}
use Rattle.lines.proofs.text.Line.others.Goals as goal

pub returns : goal.returns
returns c =
    let o = others_left c.fields-fields.result c.next-first.new.self c.args.self.now.bytes.now c.args.self.now.at c.next-first.result c.fields-fields.ensures.left c.fields-fields.ensures.at c.next-first.ensures.steps in
    record { left = o.0; at = o.1 }
