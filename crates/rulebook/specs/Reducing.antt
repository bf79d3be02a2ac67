-- What reduce makes of its target, and what copy rows makes of a buffer. Assumes nothing.
use Rattle.std.specs.Prelude.{◌≡◌, ℕ, ◌*◌, ◌<◌, ◌≤◌, Bool, ◌⊎◌, List, length, Ok, Err, Result, slice_index}
use Rattle.bits.specs.Matrix.{pair}
use Rattle.automata.specs.Book.{ReducedBook}
use Rattle.reduction.specs.Filled.{Crowded}
use Rattle.reduction.specs.declared.Counts.{Counts}
use Rattle.rulebook.specs.declared.parts.Condition.TheVariants.{Settled}
use Rattle.rulebook.specs.declared.parts.Refusal.{Refusal}
use Rattle.rulebook.specs.declared.parts.Refusal.TheVariants.{TooSmall}
use Rattle.rulebook.specs.Model.{Abstract, machine, reducing}

-- the book b with the kept pairs K, reduced by the six steps into the target t: it is settled now, with its own number and table, and
-- its states, arrows and kept pairs L are those of the reduction; c counts them
pub record ReducedInto {P V : Type 0} (holds : P → V → Bool) (b : Abstract P) (K : ℕ → ℕ → Bool) (t : Abstract P) (c : Counts) (t' : Abstract P) (L : ℕ → ℕ → Bool) : Type 0 where
  pub book : ReducedBook holds (machine holds b) K t'.marks t'.arrows L
  pub states : c.states ≡ length t'.marks
  pub arrows : c.arrows ≡ length t'.arrows
  pub number : t'.number ≡ t.number
  pub room : t'.room ≡ t.room
  pub condition : t'.condition ≡ Settled

-- why reduce is declined: by the two books' conditions, or else because the target cannot take the arrows
abbrev pub DeclinedBy : {P V : Type 0} → (P → V → Bool) → Abstract P → (ℕ → ℕ → Bool) → Abstract P → Refusal → Type 0
DeclinedBy holds b K t e = (reducing b t ≡ Err e) ⊎ ((reducing b t ≡ Ok tt) × (e ≡ TooSmall) × Crowded (machine holds b) K t.room)

-- what reduce answers, and the target t with the pairs L before the call, t' with L' after it
abbrev pub ReduceGives : {P V : Type 0} → (P → V → Bool) → Abstract P → (ℕ → ℕ → Bool) → Abstract P → (ℕ → ℕ → Bool) → Result Counts Refusal → Abstract P → (ℕ → ℕ → Bool) → Type 0
ReduceGives holds b K t L (Ok c) t' L' = (reducing b t ≡ Ok tt) × ReducedInto holds b K t c t' L'
ReduceGives holds b K t L (Err e) t' L' = DeclinedBy holds b K t e × (t' ≡ t) × (L' ≡ L)

-- the first 4n words hold the pairs of K, and no other bit; later words stay
pub record Copied (n : ℕ) (K : ℕ → ℕ → Bool) (old new : List ℕ) : Type 0 where
  pub pairs : (p q : ℕ) → p < n → pair new p q ≡ K p q
  pub later : (i : ℕ) → 4 * n ≤ i → slice_index new i ≡ slice_index old i
  pub length : length new ≡ length old
