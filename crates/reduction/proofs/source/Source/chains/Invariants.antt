use Rattle.std.proofs.Common.{◌≡◌, map, length, get_or}
use Rattle.reduction.specs.Chains.{Heads, Links}
use Rattle.reduction.proofs.source.Source.chains.Given as goal

abbrev pub invariant-loop-k : goal.invariant-loop-k
invariant-loop-k g l =
    Heads (map (λ x. get_or l.names x.source 0) l.self.arrows.now) l.k l.into.last
    × Links (map (λ x. get_or l.names x.source 0) l.self.arrows.now) l.k l.into.before
    × (length l.into.last ≡ 256) × (length l.into.before ≡ 8192)
