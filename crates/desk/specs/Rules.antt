-- What it is to enter a rule, by the calls of the book one after another. Assumes nothing.
use Rattle.std.specs.Prelude.{ℕ, Bool, Ok, Err, Result}
use Rattle.automata.specs.declared.Mark.TheVariants.{Initial, Accepting}
use Rattle.rulebook.specs.declared.parts.Refusal.{Refusal}
use Rattle.rulebook.specs.Model.{Abstract, Outcome, refused, opening, adding_state, adding_arrow, settling}

-- the next call, on what an accepted one answers and leaves; a refusal leaves the book as it then is
abbrev pub next : {P R S : Type 0} → Result R Refusal → Abstract P → (R → Abstract P → Outcome P S) → Outcome P S
next (Ok r) b go = go r b
next (Err e) b go = refused e b

-- an initial state, an accepting one, and an arrow from the one to the other, up to the first call that is declined
abbrev pub writing_arrow : {P : Type 0} → ℕ → P → Bool → ℕ → ℕ → Abstract P → Outcome P ℕ
writing_arrow t l satisfiable p q b = adding_arrow b t p l q satisfiable

abbrev pub writing_target : {P : Type 0} → ℕ → P → Bool → ℕ → Abstract P → Outcome P ℕ
writing_target t l satisfiable p b = let o = adding_state b t Accepting in next o.answer o.next (writing_arrow t l satisfiable p)

abbrev pub writing : {P : Type 0} → Abstract P → ℕ → P → Bool → Outcome P ℕ
writing b t l satisfiable = let o = adding_state b t Initial in next o.answer o.next (writing_target t l satisfiable)

-- the same under a ticket of its own: 6 for an open book; what is declined then leaves the parts that were written before
abbrev pub entering : {P : Type 0} → Abstract P → P → Bool → Outcome P ℕ
entering b l satisfiable = next (opening b).answer (opening b).next (λ t b'.
    let o = writing b' t l satisfiable in
    record { answer = o.answer; next = (settling o.next t).next })
