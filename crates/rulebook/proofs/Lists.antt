-- What keeps the ends of arrows in range. Assumes nothing.
use Rattle.std.proofs.Common.{◌≡◌, ℕ, ◌+◌, ◌-◌, ◌<◌, ◌≤◌, List, length, get_or, take, sym, ap, ◌∙◌, ⊎_elim, arith}
use Rattle.std.specs.List.{remove}
use Rattle.std.proofs.lemmas.List.{get_or-take, length-take-le}
use Rattle.std.proofs.lemmas.List.Edits.{get_or-remove_below, get_or-remove_above}
use Rattle.std.proofs.lemmas.Bool.{cases_lt}
use Rattle.automata.specs.declared.Arrow.{Arrow}
use Rattle.rulebook.specs.Invariants.{EndsIn}

module _ {P : Type 0} where
  -- the arrow at p taken out of the first m
  pub ends_strike : (n m p : ℕ) (xs ys : List (Arrow P)) → take (m - 1) ys ≡ remove (take m xs) p → length ys ≡ length xs → EndsIn n m xs → p < m → m ≤ length xs → (m - 1 ≤ length ys) × EndsIn n (m - 1) ys
  ends_strike n m p xs ys e long all here fits =
      let whole : length (take m xs) ≡ m = length-take-le m xs fits in (
        omega arith,
        λ k d h.
            let same : get_or ys k d ≡ get_or (remove (take m xs) p) k d = sym (get_or-take (m - 1) ys k d h) ∙ ap (λ zs. get_or zs k d) e in
            rw same (⊎_elim
            (λ (l : k < p). let l' : k < m = omega arith in rw (get_or-remove_below (take m xs) p d k l (omega arith), get_or-take m xs k d l') (all k d l'))
            (λ (l : p ≤ k). let l' : k + 1 < m = omega arith in rw (get_or-remove_above (take m xs) p d k l (omega arith), get_or-take m xs (k + 1) d l') (all (k + 1) d l'))
            (cases_lt k p)),
      )
