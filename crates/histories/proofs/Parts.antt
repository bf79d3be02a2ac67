-- A part of a list, and the list with another part in its place. Assumes nothing.
use Rattle.std.proofs.Common.{◌≡◌, ℕ, ◌+◌, ◌-◌, ◌≤◌, Bool, List, length, drop, Ok, Err, Result, sym, ap, ◌∙◌, subst, arith}
use borrow.Rule.Slice.PartMut.{put_mid, put_same, same_len_mid, mid_len}
use Rattle.std.specs.List.{between}
use Rattle.std.proofs.lemmas.Slice.{take-put_mid_below, drop-put_mid, between-put_mid}
use Rattle.std.proofs.lemmas.Bool.{le-leb}
use Rattle.rulebook.specs.declared.parts.Refusal.{Refusal}
use Rattle.rulebook.specs.Reducing.{Copied}
use Rattle.histories.specs.Present.{part}
use Rattle.histories.specs.Moments.{Copies, CopiesWhole}

pub part_is : {X : Type 0} (i j : ℕ) (xs : List X) → i ≤ j → j ≤ length xs → part i j xs ≡ between i j xs
part_is i j xs h k = rw (le-leb i j h, le-leb j (length xs) k)

module _ (i j n : ℕ) (K : ℕ → ℕ → Bool) (old ys : List ℕ) (h : i ≤ j) (k : j ≤ length old) (e : length ys ≡ length (between i j old)) where
  pub copies_part : (r : Result (Unit {0}) Refusal) → CopiesWhole r n K (between i j old) ys → Copies r i j n K old (put_mid i (j - i) old ys)
  copies_part (Err w) c = ap (put_mid i (j - i) old) c ∙ put_same i (j - i) old
  copies_part (Ok r) c =
      let long : length (put_mid i (j - i) old ys) ≡ length old = same_len_mid i (j - i) old ys e in
      let within : length ys ≡ j - i = e ∙ mid_len i j old k in
      let before = part_is i j old h k in
      let behind : part i j (put_mid i (j - i) old ys) ≡ ys = part_is i j (put_mid i (j - i) old ys) h (omega arith) ∙ between-put_mid i (j - i) old ys j (omega arith) within in
      let reach : j ≡ i + length (part i j old) = omega (arith, ap length before, mid_len i j old k) in
      record {
        here = subst (λ (x : List ℕ). Copied n K x (part i j (put_mid i (j - i) old ys))) (sym before) (subst (λ (x : List ℕ). Copied n K (between i j old) x) (sym behind) c);
        before = take-put_mid_below i (j - i) old ys i (omega arith) (omega arith);
        behind = subst (λ (d : ℕ). drop d (put_mid i (j - i) old ys) ≡ drop d old) reach (drop-put_mid i (j - i) old ys j (omega arith) (omega arith) within);
        long = long;
      }
