use Rattle.std.proofs.Common.{refl, ap, ◌∙◌}
use Rattle.histories.proofs.performing.under.Goals as goal

pub returns : goal.returns
returns g c = record {
  ticket = _;
  bears = c.draw-ticket.ensures.bears ∙ ap (λ b. b.number) c.new-scratch.ensures.made;
  shown = _;
  shows = refl;
  left = _;
  met = c.edit-result.ensures;
  leaves = refl;
}
