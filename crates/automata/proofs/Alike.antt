-- What is alike is reduced alike. Assumes nothing.
use Rattle.std.proofs.Common.{◌≡◌, ℕ, ◌<◌, Bool, T, eqb, sym, refl, subst, arith, eqb→eq}
use lib.Dec.{eqb_refl}
use Rattle.automata.specs.Automata.{Automaton, Reachable, start, step}
use Rattle.automata.specs.Simulation.{Answer, Simulation, Simulated}
use Rattle.automata.specs.Minimal.{Alike, Reduced}
use Rattle.automata.proofs.Tests.{forth, back}
use Rattle.automata.proofs.Reach.{reachable_here}

module _ {V : Type 0} where
  pub turned : {A B : Automaton V} → Alike A B → Alike B A
  turned a =
      let s = a.size in
      record {
        size = sym s;
        initial = λ p hp. sym (a.initial p (omega arith));
        accepting = λ p hp. sym (a.accepting p (omega arith));
        reads = λ p v q hp hq. sym (a.reads p v q (omega arith) (omega arith));
      }

  pub alike_itself : (A : Automaton V) → Alike A A
  alike_itself A = record { size = refl; initial = λ p h. refl; accepting = λ p h. refl; reads = λ p v q hp hq. refl }

  pub alike_simulated : {A B : Automaton V} → Alike A B → Simulated A B
  alike_simulated {A = A} {B = B} a =
      let s = a.size in (
        eqb,
        record {
          simulation = record {
            accepts = λ {p} {q} hp hq e t. subst (λ (x : ℕ). T (B.accepting x)) (eqb→eq p q e) (forth (a.accepting p hp) t);
            follows = λ {p} {q} hp hq e {a = v} {p'} hp' t. record { to = p'; here = omega arith; read = subst (λ (x : ℕ). T (B.reads x v p')) (eqb→eq p q e) (forth (a.reads p v p' hp hp') t); kept = eqb_refl p' };
          };
          starts = λ {p} hp t. (p, omega arith, forth (a.initial p hp) t, eqb_refl p);
        },
      )

  answer_alike : (A B : Automaton V) (R Q : ℕ → ℕ → Bool) → Alike A B → ((p q : ℕ) → p < A.size → q < A.size → R p q ≡ Q p q) → (q : ℕ) (v : V) (p' : ℕ) → q < A.size → p' < A.size → Answer A R q v p' → Answer B Q q v p'
  answer_alike A B R Q a same q v p' hq hp r =
      let z = a.size in
      let h = r.here in
      record { to = r.to; here = omega arith; read = forth (a.reads q v r.to hq h) r.read; kept = forth (same p' r.to hp h) r.kept }

  simulation_alike : (A B : Automaton V) (R Q : ℕ → ℕ → Bool) → Alike A B → ((p q : ℕ) → p < A.size → q < A.size → R p q ≡ Q p q) → Simulation A A R → Simulation B B Q
  simulation_alike A B R Q a same s =
      let z = a.size in
      record {
        accepts = λ {p} {q} hp hq e t.
            let hp' : p < A.size = omega arith in
            let hq' : q < A.size = omega arith in
            forth (a.accepting q hq') (s.accepts hp' hq' (back (same p q hp' hq') e) (back (a.accepting p hp') t));
        follows = λ {p} {q} hp hq e {a = v} {p'} hd t.
            let hp' : p < A.size = omega arith in
            let hq' : q < A.size = omega arith in
            let hd' : p' < A.size = omega arith in
            answer_alike A B R Q a same q v p' hq' hd' (s.follows hp' hq' (back (same p q hp' hq') e) hd' (back (a.reads p v p' hp' hd') t));
      }

  reachable_alike : {A B : Automaton V} → Alike A B → {p : ℕ} → Reachable A p → Reachable B p
  reachable_alike a (start {p = p} h t) = let z = a.size in start (omega arith) (forth (a.initial p h) t)
  reachable_alike a (step {p = p} {q = q} m v h t) = let z = a.size in step (reachable_alike a m) v (omega arith) (forth (a.reads p v q (reachable_here m) h) t)

  pub reduced_alike : (A B : Automaton V) (R Q : ℕ → ℕ → Bool) → Alike A B → ((p q : ℕ) → p < A.size → q < A.size → R p q ≡ Q p q) → Reduced B Q → Reduced A R
  reduced_alike A B R Q a same r =
      let z = a.size in
      let b = turned a in
      record {
        greatest = record {
          simulation = simulation_alike B A Q R b (λ p q hp hq. sym (same p q (omega arith) (omega arith))) r.greatest.simulation;
          contains = λ X s p q hp hq t. back (same p q hp hq) (r.greatest.contains X (simulation_alike A B X X a (λ p q hp hq. refl) s) p q (omega arith) (omega arith) t);
        };
        apart = λ {p} {q} hp hq x y. r.apart (omega arith) (omega arith) (forth (same p q hp hq) x) (forth (same q p hq hp) y);
        reads = λ {p} {q} {r = o} v hp hq ho x y s. r.reads v (omega arith) (omega arith) (omega arith) (forth (a.reads p v q hp hq) x) (forth (a.reads p v o hp ho) y) (forth (same q o hq ho) s);
        starts = λ {p} {q} hp hq x y s. r.starts (omega arith) (omega arith) (forth (a.initial p hp) x) (forth (a.initial q hq) y) (forth (same p q hp hq) s);
        reached = λ {p} hp. reachable_alike b (r.reached (omega arith));
      }
