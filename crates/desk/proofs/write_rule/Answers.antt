use Rattle.std.proofs.Common.{◌≡◌, ℕ, Err, Result, length, ap, ◌∙◌, rules}
use Rattle.rulebook.specs.declared.parts.Refusal.{Refusal}
use Rattle.desk.specs.Rules.{writing}
use Rattle.rulebook.specs.View.{view, number_of}
use Rattle.rulebook.proofs.Edits.{edited_more}
use Rattle.desk.proofs.Places.{state_arrows, arrow_place, writing_stops, writing_ends}
use Rattle.bits.specs.Bit.{some_bit}
use Rattle.desk.proofs.write_rule.Goals as goal

pub returns-in_err-target : goal.returns-in_err-target
returns-in_err-target c =
    let first = c.add_state.ensures in
    let second = c.add_state-2.ensures in
    let w = writing_stops (view c.args.book.now) (view c.add_state.new.self) (view c.add_state-2.new.self) (number_of c.args.ticket.now) c.in_ok-source.source c.args.label (some_bit c.args.label)
    c.in_ok-source.ensures.says first.leaves _ c.in_err-target.ensures.says second.leaves in
    let said : ◌≡◌ {A = Result ℕ Refusal} (Err c.in_err-target.field-0.0) (writing (view c.args.book.now) (number_of c.args.ticket.now) c.args.label (some_bit c.args.label)).answer = ap (λ o. o.answer) w in
    record {
      writes = record { says = search rules; leaves = ap (λ o. o.next) w; keeps = second.keeps ∙ first.keeps; lent = second.lent ∙ first.lent; same = edited_more first.same second.same };
      place = search rules;
    }

pub returns : goal.returns
returns c =
    let first = c.add_state.ensures in
    let second = c.add_state-2.ensures in
    let third = c.add_arrow.ensures in
    let b0 = view c.args.book.now in
    let b1 = view c.add_state.new.self in
    let b2 = view c.add_state-2.new.self in
    let arrows = state_arrows b1 b2 _ _ second.leaves ∙ state_arrows b0 b1 _ _ first.leaves in
    let w = writing_ends b0 b1 b2 (number_of c.args.ticket.now) c.in_ok-source.source c.args.label (some_bit c.args.label) c.in_ok-source.ensures.says first.leaves
    c.in_ok-target.target c.add_arrow.result (view c.add_arrow.new.self) c.in_ok-target.ensures.says second.leaves third.says third.leaves in
    record {
      writes = record { says = ap (λ o. o.answer) w; leaves = ap (λ o. o.next) w; keeps = third.keeps ∙ second.keeps ∙ first.keeps; lent = third.lent ∙ second.lent ∙ first.lent; same = edited_more (edited_more first.same second.same) third.same };
      place = arrow_place b2 _ _ _ _ _ c.add_arrow.result (length b0.arrows) third.says (ap length arrows);
    }
