-- A list whose places from p on took those behind them. Assumes nothing.
use Rattle.std.proofs.Common.{◌≡◌, ℕ, ◌+◌, ◌-◌, ◌<◌, ◌≤◌, List, length, take, sym, ◌∙◌, ⊎_elim, arith}
use Rattle.std.specs.List.{remove, CopiedTo, SameBelow}
use Rattle.std.proofs.lemmas.List.{length-take-le, get_or-take, same_lists}
use Rattle.std.proofs.lemmas.List.Edits.{length-remove, get_or-remove_below, get_or-remove_above}
use Rattle.std.proofs.lemmas.Bool.{cases_lt}

pub removed : {X : Type 0} (p n : ℕ) (old new : List X) → SameBelow old new p → CopiedTo old new (p + 1) p (n - (p + 1)) → length new ≡ length old → p < n → n ≤ length old → take (n - 1) new ≡ remove (take n old) p
removed p n old new before moved same lt fits =
    let a : length (take (n - 1) new) ≡ n - 1 = length-take-le (n - 1) new (omega arith) in
    let b : length (take n old) ≡ n = length-take-le n old fits in
    let c = length-remove (take n old) p (omega arith) in
    same_lists _ _ (omega arith)
    (λ k d h. get_or-take (n - 1) new k d (omega arith) ∙
    ⊎_elim
    (λ (l : k < p). before k d l ∙ sym (get_or-take n old k d (omega arith)) ∙ sym (get_or-remove_below (take n old) p d k l (omega arith)))
    (λ (l : p ≤ k).
    let next : p + 1 + (k - p) ≡ k + 1 = omega arith in
    rw next at (moved k d l (omega arith)) ∙ sym (get_or-take n old (k + 1) d (omega arith)) ∙ sym (get_or-remove_above (take n old) p d k l (omega arith)))
    (cases_lt k p))
