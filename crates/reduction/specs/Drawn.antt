-- What is known of the target's arrows while they are written. Assumes nothing.
use Rattle.std.specs.Prelude.{◌≡◌, ℕ, Bool, List, length, take, slice_index}
use Rattle.std.specs.List.{AllByRecursion}
use Rattle.automata.specs.declared.Arrow.{Arrow}
use Rattle.automata.specs.Book.{ends}

-- whether the classes with the numbers i and j are linked; what is read from the one to the other
abbrev pub linked_at : (ℕ → ℕ → Bool) → List ℕ → ℕ → ℕ → Bool
linked_at linked staying i j = linked (slice_index staying i) (slice_index staying j)

abbrev pub reads_at : {V : Type 0} → (ℕ → V → ℕ → Bool) → List ℕ → ℕ → V → ℕ → Bool
reads_at reads staying i a j = reads (slice_index staying i) a (slice_index staying j)

-- the first arrows have these ends, one for each, and labels that hold of just what is read between them
pub record Drawn {P V : Type 0} (holds : P → V → Bool) (reads : ℕ → V → ℕ → Bool) (listed : List (ℕ × ℕ)) (used : ℕ) (arrows : List (Arrow P)) : Type 0 where
  pub count : used ≡ length listed
  pub drawn : ends (take used arrows) ≡ listed
  pub labelled : AllByRecursion (λ x. (a : V) → holds x.label a ≡ reads x.source a x.target) (take used arrows)
