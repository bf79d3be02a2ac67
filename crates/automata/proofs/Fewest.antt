-- The reduction against any other automaton. Assumes nothing.
use Rattle.std.proofs.Common.{ℕ, ◌<◌, ◌≤◌, Bool, List, length, arith}
use Rattle.std.proofs.ByRecursion.{All-weaker}
use mathlib.Core.List.{Memᴰ}
use Rattle.automata.specs.Below.{pairs, table}
use Rattle.automata.specs.Automata.{Automaton, Told, Links}
use Rattle.automata.specs.Reduction.{Tells, Reduction, class, reduced_kept}
use Rattle.automata.specs.Theorems.{Fewest}
use Rattle.automata.proofs.Simulations.{simulated_trans}
use Rattle.automata.proofs.Smallest.{fewest_states, fewest_links}
use Rattle.automata.proofs.Classes.{faithful, reduces, class_here, stays}
use Rattle.automata.proofs.Tables.{fits, rows_all, rows_distinct, rows_has, length-table}

module _ {V : Type 0} (M : Automaton V) (l : ℕ → ℕ → Bool) (told : Told M (λ p. p < M.size) l) where
  -- all links are in the table
  links_all : Links M (table l M.size)
  links_all = record {
    linked = All-weaker _ _ (λ x y. (y.0, y.1, told.so x.0 x.1 y.0 y.1 y.2)) (table l M.size) (rows_all l M.size M.size);
    distinct = rows_distinct l M.size M.size;
  }

  links_most : (x : List (ℕ × ℕ)) → Links M x → length x ≤ pairs l M.size
  links_most x h =
      let k = fits x (table l M.size) h.distinct (All-weaker _ (λ y. Memᴰ y (table l M.size)) (λ y k. rows_has l M.size M.size y.0 y.1 k.0 k.1 (told.if y.0 y.1 k.0 k.1 k.2)) x h.linked) in
      omega (arith, length-table l M.size)

-- the links of the reduction
told_small : {V : Type 0} (M : Automaton V) (K linked : ℕ → ℕ → Bool) → Tells M K linked → Told (Reduction M K linked) (λ i. i < (Reduction M K linked).size) (λ i j. linked (class M K linked i) (class M K linked j))
told_small M K linked told = record {
  so = λ i j hi hj t. told.so _ _ (stays M K linked told i hi) (class_here M K linked j hj) t;
  if = λ i j hi hj t. told.if _ _ (stays M K linked told i hi) (class_here M K linked j hj) t;
}

pub fewest : (V : Type 0) → Fewest V
fewest V M K linked g told N s r =
    let both = faithful V M K linked g told in
    let red = reduces V M K linked g told in
    let a = simulated_trans both.down s in
    let b = simulated_trans r both.up in
    let links = fewest_links (Reduction M K linked) N (reduced_kept M K linked) red a.0 a.1 b.0 b.1 _ (links_all (Reduction M K linked) _ (told_small M K linked told)) in
    record {
      states = fewest_states (Reduction M K linked) N (reduced_kept M K linked) red a.0 a.1 b.0 b.1;
      listed = links;
      counted = λ l t. let c = links_most N l t links.0 links.1 in omega (arith, links.2);
    }
