-- The reduction of an automaton by a kept relation, in six steps. Assumes nothing.
-- It takes any relation K, and a test `linked` that tells which classes are linked after step 4.
use Rattle.std.specs.Prelude.{ℕ, zero, suc, Bool, not, ◌&&◌, ◌||◌, List, map, length, ◌==◌, slice_index}
use Rattle.automata.specs.declared.Mark.{Mark}
use Rattle.automata.specs.Below.{any_below, least_below, rising, table}
use Rattle.automata.specs.Automata.{Automaton, mark, Reachable, Told}

-- Step 1: states kept both ways form a class, named by its least state.
unfoldable pub same : (ℕ → ℕ → Bool) → ℕ → ℕ → Bool
same K p q = K p q && K q p

unfoldable pub name : (ℕ → ℕ → Bool) → ℕ → ℕ
name K p = least_below p (same K p)

-- Step 2: some member of the class c passes; what the classes are, and what they read.
unfoldable pub member : ℕ → (ℕ → ℕ → Bool) → (ℕ → Bool) → ℕ → Bool
member n K f c = any_below n (λ p. (name K p == c) && f p)

abbrev pub Merged : {V : Type 0} → Automaton V → (ℕ → ℕ → Bool) → Automaton V
Merged M K = record {
  size = M.size;
  initial = member M.size K M.initial;
  accepting = member M.size K M.accepting;
  reads = λ c a d. member M.size K (λ p. member M.size K (M.reads p a) d) c;
}

-- Step 3: c is below d when they differ and the pair of their names is kept.
unfoldable pub below : (ℕ → ℕ → Bool) → ℕ → ℕ → Bool
below K c d = not (c == d) && K c d

-- Steps 4 and 5: of the classes that pass, those that are below no other that passes.
unfoldable pub highest : ℕ → (ℕ → ℕ → Bool) → (ℕ → Bool) → ℕ → Bool
highest n K f c = f c && not (any_below n (λ e. f e && below K c e))

-- From what C reads to D go all symbols that C also reads, by step 2, to some E above D: it reads a to the highest of the
-- classes to which it read a. An initial class below another initial class is no longer initial.
abbrev pub Pruned : {V : Type 0} → Automaton V → (ℕ → ℕ → Bool) → Automaton V
Pruned M K = record {
  size = M.size;
  initial = highest M.size K (Merged M K).initial;
  accepting = (Merged M K).accepting;
  reads = λ c a. highest M.size K ((Merged M K).reads c a);
}

-- The test tells which classes are linked, of those that can be reached.
abbrev pub Tells : {V : Type 0} → Automaton V → (ℕ → ℕ → Bool) → (ℕ → ℕ → Bool) → Type 0
Tells M K linked = Told (Pruned M K) (Reachable (Pruned M K)) linked

-- Step 6: what can be reached from g in at most the given number of links; no way needs more of them than there are states.
unfoldable pub reached : ℕ → (ℕ → ℕ → Bool) → (ℕ → Bool) → ℕ → ℕ → Bool
reached n linked g zero d = g d
reached n linked g (suc m) d = reached n linked g m d || any_below n (λ c. reached n linked g m c && linked c d)

module _ {V : Type 0} (M : Automaton V) (K : ℕ → ℕ → Bool) (linked : ℕ → ℕ → Bool) where
  -- the names of the classes that stay, rising
  abbrev pub staying : List ℕ
  staying = rising (reached M.size linked (Pruned M K).initial M.size) M.size

  -- the class with the number i
  abbrev pub class : ℕ → ℕ
  class i = slice_index staying i

  abbrev pub Reduction : Automaton V
  Reduction = record {
    size = length staying;
    initial = λ i. (Pruned M K).initial (class i);
    accepting = λ i. (Pruned M K).accepting (class i);
    reads = λ i a j. (Pruned M K).reads (class i) a (class j);
  }

  -- the marks of its states; the ends of its arrows, one for each linked pair; its kept pairs, step 3's order and p, p
  abbrev pub reduced_marks : List Mark
  reduced_marks = map (λ c. mark ((Pruned M K).initial c) ((Pruned M K).accepting c)) staying

  abbrev pub reduced_ends : List (ℕ × ℕ)
  reduced_ends = table (λ i j. linked (class i) (class j)) (length staying)

  abbrev pub reduced_kept : ℕ → ℕ → Bool
  reduced_kept i j = i == j || below K (class i) (class j)
