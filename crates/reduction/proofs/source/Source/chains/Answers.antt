use Rattle.std.proofs.Common.{◌≡◌, ℕ, ◌<◌, Option, None, replicate, map, get_or, sym, refl, ap, ◌∙◌, arith, rules, length-set}
use Rattle.std.proofs.lemmas.List.{get_or-replicate, get_or-map}
use Rattle.reduction.proofs.Chains.{heads_none, heads_more, links_none, links_more}
use Rattle.reduction.proofs.source.Source.chains.Goals as goal

pub loop-k-init : goal.loop-k-init
loop-k-init g c = (heads_none (map (λ x. get_or c.args.names.now x.source 0) c.args.self.now.arrows.now) (replicate 256 none) (λ p h. get_or-replicate 256 p none none h), links_none (map (λ x. get_or c.args.names.now x.source 0) c.args.self.now.arrows.now) _, refl, search rules)
  where
    none : Option ℕ
    none = None

pub loop-k-preserved : goal.loop-k-preserved
loop-k-preserved g c =
    let xs = c.args.self.now.arrows.now in
    let names = c.args.names.now in
    let k = c.loop-k.k in
    let p = c.from-c.result in
    let keys = map (λ x. get_or names x.source 0) xs in
    let key : get_or keys k 0 ≡ p = get_or-map (λ x. get_or names x.source 0) xs k c.arrow-item.result 0 c.loop-k-test.true ∙ ap (λ x. get_or names x.source 0) (sym c.arrow-item.is) ∙ ap (λ x. get_or names x 0) (sym c.from.ensures) ∙ sym c.from-c.ensures in
    let low : p < 256 = omega (arith, c.from-c.ensures, c.fits-names c.from.result) in
    let i = c.loop-k.invariant in (
      heads_more keys c.loop-k.into.last k p (omega (arith, i.2)) key i.0,
      links_more keys c.loop-k.into.last c.loop-k.into.before k p (omega (arith, i.3, c.args.self.now.few_arrows)) low key i.0 i.1,
      length-set c.loop-k.into.last _ _ ∙ i.2,
      length-set c.loop-k.into.before _ _ ∙ i.3,
    )
