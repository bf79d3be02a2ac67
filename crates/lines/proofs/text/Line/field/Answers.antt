use Rattle.std.proofs.Common.{◌≡◌, get_or, [], refl, ap, ◌∙◌, sym, ap₂}
use Rattle.lines.specs.Fields.{left_size}
use Rattle.lines.specs.Places.{place_of, further}
use Rattle.lines.proofs.Passing.{nth_field}
use Rattle.lines.proofs.text.Line.field.Goals as goal

-- the place behind the line
behind : (c : goal.After-unwrap_or) → c.further-behind.result ≡ further c.fields.result.at (left_size c.fields.result.left)
behind c = c.further-behind.ensures ∙ sym (ap₂ further c.fields.ensures.at c.fields.ensures.size)

pub returns-clause-bytes : goal.returns-clause-bytes
returns-clause-bytes c =
    let f = nth_field c.fields.result c.args.k _ refl (behind c) c.nth.new.self _ c.nth.ensures.ran in
    ap (λ x. x.bytes.now) c.unwrap_or.ensures ∙ f.0 ∙ ap (λ fs. get_or fs c.args.k []) c.fields.ensures.left

pub returns-clause-at : goal.returns-clause-at
returns-clause-at c =
    let f = nth_field c.fields.result c.args.k _ refl (behind c) c.nth.new.self _ c.nth.ensures.ran in
    ap (λ x. x.at) c.unwrap_or.ensures ∙ f.1 ∙ ap₂ (λ p fs. place_of p fs c.args.k) c.fields.ensures.at c.fields.ensures.left
