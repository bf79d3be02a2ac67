-- Flags: what they promise after a visit, and that the work falls. Assumes nothing.
use Rattle.std.proofs.Common.{◌≡◌, ℕ, ◌+◌, ◌<◌, Bool, true, false, cond, T, List, sym, ap, ◌∙◌, subst, ◌≤◌, Option, Some, None, MatchOption, inl, inr, arith}
use Rattle.std.specs.Prelude.{⊤}
use Rattle.std.specs.List.{AllByRecursion}
use Rattle.std.proofs.lemmas.Bool.{cases_eq, cases_Bool, both_ways}
use Rattle.bits.specs.Matrix.{pair, Changed}
use Rattle.automata.specs.declared.Arrow.{Arrow}
use Rattle.automata.specs.declared.Mark.{Mark}
use Rattle.automata.specs.Automata.{Automaton, automaton}
use Rattle.automata.specs.Below.{count, pairs}
use Rattle.engine.specs.Columns.{Only, Answered, Woken, Quiet, Found, work}
use Rattle.engine.proofs.Sums.{sum_less}
use Rattle.engine.proofs.Reading.{reads_by}
use Rattle.automata.proofs.Below.{count_most}

-- ---- quiet

module _ {V : Type 0} (M : Automaton V) where
  quiet_step : (old new : List ℕ) (q : ℕ) (d e : List ℕ) → Quiet M old d → ((i j : ℕ) → pair new i j ≡ true → pair old i j ≡ true)
      → ((p : ℕ) → pair new p q ≡ true → Answered M (pair old) p q)
      → ((r : ℕ) → (r ≡ q → ⊥) → pair e 0 r ≡ false → pair d 0 r ≡ false)
      → ((r : ℕ) → pair e 0 r ≡ false → (p : ℕ) → Answered M (pair old) p r → Answered M (pair new) p r)
      → Quiet M new e
  quiet_step old new q d e was fewer done off moved r hr f p k = moved r f p
      (elim (cases_eq r q) [
        | inl same ↦ subst (λ y. Answered M (pair old) p y) (sym same) (done p (ap (pair new p) (sym same) ∙ k))
        | inr ne ↦ was r hr (off r ne f) p (fewer p r k)
      ])

  -- nothing went
  pub quiet_still : (old new : List ℕ) (q : ℕ) (d e : List ℕ) → Quiet M old d → Changed false d e 0 q → new ≡ old
      → ((p : ℕ) → pair new p q ≡ true → Answered M (pair old) p q) → Quiet M new e
  quiet_still old new q d e was fell same done = quiet_step old new q d e was (λ i j e. ap (λ r. pair r i j) (sym same) ∙ e) done
      (λ r ne f. sym (fell.others 0 r (λ _ s. ne s)) ∙ f)
      (λ r f p m. subst (λ y. Answered M (pair y) p r) (sym same) m)

-- those with an arrow to q were woken: any other has no read to q, so it lost no answer
pub quiet_woken : {P V : Type 0} (h : P → V → Bool) (marks : List Mark) (xs : List (Arrow P)) (old new : List ℕ) (q : ℕ) (d mid e : List ℕ)
    → Quiet (automaton h marks xs) old d → ((i j : ℕ) → pair new i j ≡ true → pair old i j ≡ true) → Only q old new
    → ((p : ℕ) → pair new p q ≡ true → Answered (automaton h marks xs) (pair old) p q)
    → Changed false d mid 0 q → AllByRecursion (Woken q e) xs → ((i : ℕ) → pair mid 0 i ≡ true → pair e 0 i ≡ true) → Quiet (automaton h marks xs) new e
quiet_woken h marks xs old new q d mid e was fewer only done fell woken stays = quiet_step (automaton h marks xs) old new q d e was fewer done
    (λ r ne f. elim (cases_Bool (pair d 0 r)) [
      | inl on ↦ absurd (both_ways (pair e 0 r) f (stays r (fell.others 0 r (λ _ s. ne s) ∙ on)))
      | inr off ↦ off
    ])
    (λ r f p m a p' hp' x.
    let y = m a p' hp' x in
    let away : y.to ≡ q → ⊥ = λ same.
    let w = reads_by h xs r q a (Woken q e) woken (subst (λ z. T ((automaton h marks xs).reads r a z)) same y.read) in
    both_ways (pair e 0 r) f (ap (λ z. pair e 0 z) (sym w.2) ∙ w.1 w.3) in
    record { to = y.to; here = y.here; read = y.read; kept = subst T (sym (only p' y.to away)) y.kept })

-- ---- work

-- no pair went, and one flag fell
pub work_still : (old new : List ℕ) (n : ℕ) (d e : List ℕ) (q : ℕ) → new ≡ old → q < 256 → pair d 0 q ≡ true → Changed false d e 0 q → work new n e < work old n d
work_still old new n d e q same h on fell = omega (
  arith,
  ap (λ r. pairs (pair r) n) same,
  sum_less (λ i. cond (pair e 0 i) 1 0) (λ i. cond (pair d 0 i) 1 0) 256 q h (rw (fell.here, on)) (λ k ne. rw (fell.others 0 k (λ _ s. ne s))),
)

-- some pair went
pub work_fell : (old new : List ℕ) (n k : ℕ) (d e : List ℕ) → pairs (pair new) n + k ≡ pairs (pair old) n → (k ≡ 0 → ⊥) → work new n e < work old n d
work_fell old new n k d e count some = omega (arith, count_most (pair e 0) 256, count_most (pair d 0) 256)

-- ---- the next flag

pub found_first : (flags : List ℕ) (low high : ℕ) (r : Option ℕ) → MatchOption r ((k : ℕ) → low ≤ k → k < high → pair flags 0 k ≡ false) (λ i. (low ≤ i) × (i < high) × (pair flags 0 i ≡ true) × ((k : ℕ) → low ≤ k → k < i → pair flags 0 k ≡ false))
    → Found flags low high r × MatchOption r ⊤ (λ q. (k : ℕ) → low ≤ k → k < q → pair flags 0 k ≡ false)
found_first flags low high (Some q) f = ((f.1, f.2), f.3)
found_first flags low high None f = (f, tt)
