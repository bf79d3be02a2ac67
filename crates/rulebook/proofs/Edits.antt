-- One edit after another, and a book that a call would open. Assumes nothing.
use Rattle.std.proofs.Common.{◌≡◌, ℕ, refl, ◌∙◌, arith}
use Rattle.rulebook.specs.declared.parts.Condition.{Condition}
use Rattle.rulebook.specs.declared.parts.Condition.TheVariants.{Settled, Open}
use Rattle.rulebook.specs.declared.parts.Act.TheVariants.{Opens}
use Rattle.rulebook.specs.Refusals.{judged}
use Rattle.rulebook.specs.Model.{Abstract, Edited, by, answers, with_condition, opening}

pub open_settled : Open ≡ Settled → {X : Type 0} → X
open_settled e = let z : ◌≡◌ {A = ℕ} 0 1 = cc in absurd (omega arith)

-- a book that a call would open is open then
pub opened : {P : Type 0} (b : Abstract P) → (opening b).next.condition ≡ Open
opened b = go b.condition refl
  where
    go : (k : Condition) → b.condition ≡ k → (by (judged k Opens) b (λ c. answers b.number (with_condition b c))).next.condition ≡ Open
    go Settled e = refl
    go Open e = e

pub edited_more : {P : Type 0} {a b c : Abstract P} → Edited a b → Edited b c → Edited a c
edited_more s r = record { number = r.number ∙ s.number; room = r.room ∙ s.room; condition = r.condition ∙ s.condition; still = λ e. r.still (s.condition ∙ e) ∙ s.still e }
