-- The place of an arrow that is added behind two states. Assumes nothing.
use Rattle.std.proofs.Common.{◌≡◌, ℕ, Bool, true, false, cond, ◌&&◌, ltb, [], ◌∷◌, ◌++◌, length, IfOk, Ok, Err, Result, sym, refl, ap, ap₂, ◌∙◌, arith}
use Rattle.automata.specs.declared.Mark.{Mark}
use Rattle.rulebook.specs.declared.parts.Condition.{Condition}
use Rattle.rulebook.specs.declared.parts.Act.TheVariants.{Edits}
use Rattle.rulebook.specs.declared.parts.Refusal.{Refusal}
use Rattle.rulebook.specs.declared.parts.Refusal.TheVariants.{StatesFull, NoSuchState, EmptyLabel, TooSmall}
use Rattle.automata.specs.declared.Mark.TheVariants.{Initial, Accepting}
use Rattle.desk.specs.Rules.{next, writing_arrow, writing_target, writing}
use Rattle.rulebook.specs.Model.{Abstract, Outcome, admitted, by, answers, refused, with_marks, with_arrows, state_exists, has_room, adding_state, adding_arrow}

module _ {P : Type 0} (b : Abstract P) where
  -- to add a state leaves the arrows
  pub state_arrows : (b' : Abstract P) (t : ℕ) (m : Mark) → b' ≡ (adding_state b t m).next → b'.arrows ≡ b.arrows
  state_arrows b' t m e = ap (λ x. x.arrows) e ∙ go (admitted b t Edits) (ltb (length b.marks) 256)
    where
      go : (r : Result Condition Refusal) (x : Bool) → (by r b (λ c. cond x (answers (length b.marks) (with_marks b (b.marks ++ (m ∷ [])))) (refused StatesFull b))).next.arrows ≡ b.arrows
      go (Ok c) true = refl
      go (Ok c) false = refl
      go (Err e) x = refl

  place : (t p : ℕ) (l : P) (q : ℕ) (sat : Bool) (k : ℕ) → (adding_arrow b t p l q sat).answer ≡ Ok k → k ≡ length b.arrows
  place t p l q sat k e = go (admitted b t Edits) (state_exists b p && state_exists b q) sat (has_room b 1) (with_arrows b (b.arrows ++ (record { source = p; label = l; target = q } ∷ []))) e
    where
      go : (r : Result Condition Refusal) (x y z : Bool) (b' : Abstract P) → (by r b (λ c. cond x (cond y (cond z (answers (length b.arrows) b') (refused TooSmall b)) (refused EmptyLabel b)) (refused NoSuchState b))).answer ≡ Ok k → k ≡ length b.arrows
      go (Ok c) true true true b' e = cc
      go (Ok c) true true false b' e = let z : ◌≡◌ {A = ℕ} 0 1 = cc in absurd (omega arith)
      go (Ok c) true false z b' e = let z : ◌≡◌ {A = ℕ} 0 1 = cc in absurd (omega arith)
      go (Ok c) false y z b' e = let z : ◌≡◌ {A = ℕ} 0 1 = cc in absurd (omega arith)
      go (Err w) x y z b' e = let z : ◌≡◌ {A = ℕ} 0 1 = cc in absurd (omega arith)

  pub arrow_place : (t p : ℕ) (l : P) (q : ℕ) (sat : Bool) (r : Result ℕ Refusal) (n : ℕ) → r ≡ (adding_arrow b t p l q sat).answer → length b.arrows ≡ n → IfOk r (λ k. k ≡ n)
  arrow_place t p l q sat (Ok k) n e s = place t p l q sat k (sym e) ∙ s
  arrow_place t p l q sat (Err w) n e s = tt

-- a rule whose second state is declined, and one that is written up to its arrow
module _ {P : Type 0} (b0 b1 b2 : Abstract P) (t p : ℕ) (l : P) (sat : Bool)
    (said : Ok p ≡ (adding_state b0 t Initial).answer) (left : b1 ≡ (adding_state b0 t Initial).next) where
  second : (o : Outcome P ℕ) → o ≡ writing_target t l sat p b1 → o ≡ writing b0 t l sat
  second o e = e ∙ ap₂ (λ r b. next r b (writing_target t l sat)) said left

  pub writing_stops : (e : Refusal) → Err e ≡ (adding_state b1 t Accepting).answer → b2 ≡ (adding_state b1 t Accepting).next → refused {R = ℕ} e b2 ≡ writing b0 t l sat
  writing_stops e says leaves = second _ (ap₂ (λ r b. next r b (writing_arrow t l sat p)) says leaves)

  pub writing_ends : (q : ℕ) (r : Result ℕ Refusal) (b3 : Abstract P) → Ok q ≡ (adding_state b1 t Accepting).answer → b2 ≡ (adding_state b1 t Accepting).next
      → r ≡ (adding_arrow b2 t p l q sat).answer → b3 ≡ (adding_arrow b2 t p l q sat).next → record { answer = r; next = b3 } ≡ writing b0 t l sat
  writing_ends q r b3 says leaves arrow rest =
      second _ (ap₂ (λ x b. record { answer = x; next = b }) arrow rest ∙ ap₂ (λ x b. next x b (writing_arrow t l sat p)) says leaves)
