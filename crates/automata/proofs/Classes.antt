-- The reduction and the original simulate each other, and the reduction is reduced. Assumes nothing.
use Rattle.std.proofs.Common.{◌≡◌, ℕ, ◌<◌, Bool, ◌||◌, T, eqb, ◌⊎◌, length, sym, refl, ◌∙◌, subst, inl, inr, ⊎_elim, arith, eqb→eq}
use Rattle.std.proofs.lemmas.Bool.{cases_eq, cases_order}
use Rattle.automata.specs.Automata.{Automaton, Reachable, start, step}
use Rattle.automata.specs.Simulation.{Simulation, Simulated, SimulatedBy, Greatest, through}
use Rattle.automata.specs.Reduction.{same, name, below, reached, Merged, Pruned, Tells, staying, class, Reduction, reduced_kept}
use Rattle.automata.specs.Minimal.{Reduced}
use Rattle.automata.specs.Theorems.{Steps, Faithful, Reduces}
use Rattle.automata.proofs.Tests.{or_l, or_r, ways, T_same}
use Rattle.automata.proofs.Below.{rising_at, rising_has, rising_rises}
use Rattle.automata.proofs.Words.{inclusion}
use Rattle.automata.proofs.Simulations.{Preorder, preorder, composed, joins}
use Rattle.automata.proofs.Names.{equal, same_from, same_to, member_from, member_to, below_from, below_to, highest_to, named, name_here, name_least, one_name, name_self}
use Rattle.automata.proofs.Climb.{climbed}
use Rattle.automata.proofs.Reach.{reachable_here, reached_is, is_reached}
use Rattle.automata.proofs.Alike.{alike_itself, reduced_alike}

module _ {V : Type 0} (M : Automaton V) (K linked : ℕ → ℕ → Bool) where
  pub class_here : (i : ℕ) → i < length (staying M K linked) → class M K linked i < M.size
  class_here i h = (rising_at (reached M.size linked (Pruned M K).initial M.size) M.size i h).0

  rises : (i j : ℕ) → i < j → j < length (staying M K linked) → class M K linked i < class M K linked j
  rises i j h k = rising_rises (reached M.size linked (Pruned M K).initial M.size) M.size i j h k

  one_number : (i j : ℕ) → i < length (staying M K linked) → j < length (staying M K linked) → class M K linked i ≡ class M K linked j → i ≡ j
  one_number i j hi hj e = go (cases_order i j)
    where
      go : (i ≡ j) ⊎ ((i < j) ⊎ (j < i)) → i ≡ j
      go (inl x) = x
      go (inr (inl l)) = absurd (omega (arith, rises i j l hj))
      go (inr (inr l)) = absurd (omega (arith, rises j i l hi))

  pub stays : Tells M K linked → (i : ℕ) → i < length (staying M K linked) → Reachable (Pruned M K) (class M K linked i)
  stays told i h = let k = rising_at (reached M.size linked (Pruned M K).initial M.size) M.size i h in reached_is (Pruned M K) linked told (class M K linked i) k.0 k.1

  numbered : Tells M K linked → (c : ℕ) → Reachable (Pruned M K) c → (i : ℕ) × (i < length (staying M K linked)) × (class M K linked i ≡ c)
  numbered told c r = rising_has (reached M.size linked (Pruned M K).initial M.size) M.size c (reachable_here r) (is_reached (Pruned M K) linked told r)

  -- c names a class
  abbrev Class : ℕ → Type 0
  Class c = (p : ℕ) × (p < M.size) × (name K p ≡ c)

  -- what a read of a class rests on
  record Read (c : ℕ) (a : V) (d : ℕ) : Type 0 where
    from : ℕ
    to : ℕ
    from_here : from < M.size
    to_here : to < M.size
    from_named : name K from ≡ c
    to_named : name K to ≡ d
    read : T (M.reads from a to)

  reads_to : (c : ℕ) (a : V) (d : ℕ) → T ((Merged M K).reads c a d) → Read c a d
  reads_to c a d t =
      let m = member_to K M.size _ c t in
      let k = member_to K M.size _ d m.3 in
      record { from = m.0; to = k.0; from_here = m.1; to_here = k.1; from_named = m.2; to_named = k.2; read = k.3 }

  class_known : {c : ℕ} → Reachable (Pruned M K) c → Class c
  class_known (start {p = c} h t) = let m = member_to K M.size _ c (highest_to K _ _ c t).0 in (m.0, m.1, m.2)
  class_known (step {p = c} {q = d} m a h t) = let r = reads_to c a d (highest_to K _ _ d t).0 in (r.to, r.to_here, r.to_named)

  module _ (g : Greatest M K) (told : Tells M K linked) where
    pre : Preorder M.size K
    pre = preorder M K g

    open pre use {self, trans}

    abbrev f : ℕ → ℕ
    f = class M K linked

    abbrev k : ℕ
    k = length (staying M K linked)

    abbrev Small : Automaton V
    Small = Reduction M K linked

    inside : {i : ℕ} → i < k → f i < M.size
    inside {i} h = class_here i h

    -- p stands under its name and over it
    under_name : {p c : ℕ} → p < M.size → name K p ≡ c → T (K p c)
    under_name {p} h e = subst (λ (x : ℕ). T (K p x)) e (named K M.size pre p h).0

    over_name : {p c : ℕ} → p < M.size → name K p ≡ c → T (K c p)
    over_name {p} h e = subst (λ (x : ℕ). T (K x p)) e (named K M.size pre p h).1

    own_name : {c : ℕ} → Class c → name K c ≡ c
    own_name x = subst (λ (y : ℕ). name K y ≡ y) x.2 (name_self K M.size pre x.0 x.1)

    numbered_name : {i : ℕ} → i < k → name K (f i) ≡ f i
    numbered_name {i} h = own_name (class_known (stays told i h))

    classes_apart : {c d : ℕ} → Class c → Class d → T (K c d) → T (K d c) → c ≡ d
    classes_apart {c} {d} x y t u =
        let hc : c < M.size = subst (λ (z : ℕ). z < M.size) x.2 (name_here K M.size pre x.0 x.1) in
        let hd : d < M.size = subst (λ (z : ℕ). z < M.size) y.2 (name_here K M.size pre y.0 y.1) in
        sym (own_name x) ∙ one_name K M.size pre c d hc hd t u ∙ own_name y

    reads_apart : (c : ℕ) (a : V) (d e : ℕ) → d < M.size → e < M.size → T ((Merged M K).reads c a d) → T ((Merged M K).reads c a e) → T (K d e) → T (K e d) → d ≡ e
    reads_apart c a d e hd he x y = let r = reads_to c a d x in let s = reads_to c a e y in classes_apart (r.to, r.to_here, r.to_named) (s.to, s.to_here, s.to_named)

    initial_apart : (c d : ℕ) → c < M.size → d < M.size → T ((Merged M K).initial c) → T ((Merged M K).initial d) → T (K c d) → T (K d c) → c ≡ d
    initial_apart c d hc hd x y = let r = member_to K M.size _ c x in let s = member_to K M.size _ d y in classes_apart (r.0, r.1, r.2) (s.0, s.1, s.2)

    up : SimulatedBy M Small (λ p i. K p (f i))
    up = record {
      simulation = record {
        accepts = λ {q = i} hp hi x t. member_from K M.size _ (f i) (f i) (inside hi) (numbered_name hi) (g.simulation.accepts hp (inside hi) x t);
        follows = λ {q = i} hp hi x {a} hp' t.
            let q = g.simulation.follows hp (inside hi) x hp' t in
            let d = name K q.to in
            let hd = name_here K M.size pre q.to q.here in
            let e = climbed K M.size pre ((Merged M K).reads (f i) a) (reads_apart (f i) a) hd (member_from K M.size _ (f i) (f i) (inside hi) (numbered_name hi) (member_from K M.size _ d q.to q.here refl q.read)) in
            let j = numbered told e.0 (step (stays told i hi) a e.1 e.2) in
            record { to = j.0; here = j.1; read = rw j.2 e.2; kept = rw j.2 (trans hp' hd e.1 (trans hp' q.here hd q.kept (under_name q.here refl)) e.3) };
      };
      starts = λ {p} hp t.
          let hd = name_here K M.size pre p hp in
          let e = climbed K M.size pre (Merged M K).initial initial_apart hd (member_from K M.size _ (name K p) p hp refl t) in
          let j = numbered told e.0 (start e.1 e.2) in
          (j.0, j.1, rw j.2 e.2, rw j.2 (trans hp hd e.1 (under_name hp refl) e.3));
    }

    down : SimulatedBy Small M (λ i p. K (f i) p)
    down = record {
      simulation = record {
        accepts = λ {p = i} hi hp x t.
            let m = member_to K M.size _ (f i) t in
            g.simulation.accepts m.1 hp (trans m.1 (inside hi) hp (under_name m.1 m.2) x) m.3;
        follows = λ {p = i} hi hp x {a} {p' = j} hj t.
            let r = reads_to (f i) a (f j) (highest_to K _ _ (f j) t).0 in
            let q = g.simulation.follows r.from_here hp (trans r.from_here (inside hi) hp (under_name r.from_here r.from_named) x) r.to_here r.read in
            record { to = q.to; here = q.here; read = q.read; kept = trans (inside hj) r.to_here q.here (over_name r.to_here r.to_named) q.kept };
      };
      starts = λ {p = i} hi t. let m = member_to K M.size _ (f i) (highest_to K _ _ (f i) t).0 in (m.0, m.1, m.3, over_name m.1 m.2);
    }

    -- down to M and up again
    ordered : Simulation Small Small (λ i j. K (f i) (f j))
    ordered = record {
      accepts = λ hi hj x t. up.simulation.accepts (inside hi) hj x (down.simulation.accepts hi (inside hi) (self (inside hi)) t);
      follows = λ hi hj x hi' t.
          let q = down.simulation.follows hi (inside hi) (self (inside hi)) hi' t in
          let r = up.simulation.follows (inside hi) hj x q.here q.read in
          record { to = r.to; here = r.here; read = r.read; kept = trans (inside hi') q.here (inside r.here) q.kept r.kept };
    }

    -- the way to a class, in the numbers
    way : {c : ℕ} → Reachable (Pruned M K) c → (i : ℕ) → i < k → f i ≡ c → Reachable Small i
    way (start h t) i hi e = start hi (rw e t)
    way (step {p = c} m a h t) i hi e = let j = numbered told c m in step (way m j.0 j.1 j.2) a hi (rw (e, j.2) t)

    small : Reduced Small (λ i j. K (f i) (f j))
    small = record {
      greatest = record {
        simulation = ordered;
        -- up from M, by any simulation of the reduction, and down again
        contains = λ R s i j hi hj x.
            g.contains _ (composed up.simulation (composed s down.simulation)) (f i) (f j) (inside hi) (inside hj)
            (joins k (λ p i. K p (f i)) (through k R (λ i p. K (f i) p)) _ _ hi (self (inside hi)) (joins k R (λ i p. K (f i) p) _ _ hj x (self (inside hj))));
      };
      apart = λ {p = i} {q = j} hi hj x y. one_number i j hi hj (classes_apart (class_known (stays told i hi)) (class_known (stays told j hj)) x y);
      reads = λ {q = j} {r = l} a hi hj hl x y s. one_number j l hj hl ((highest_to K _ _ (f j) x).1 (f l) (inside hl) (highest_to K _ _ (f l) y).0 s);
      starts = λ {p = i} {q = j} hi hj x y s. one_number i j hi hj ((highest_to K _ _ (f i) x).1 (f j) (inside hj) (highest_to K _ _ (f j) y).0 s);
      reached = λ {p = i} hi. way (stays told i hi) i hi refl;
    }

    -- step 3's order and p, p
    order : (i j : ℕ) → i < k → j < k → reduced_kept M K linked i j ≡ K (f i) (f j)
    order i j hi hj = T_same (reduced_kept M K linked i j) (K (f i) (f j)) there again
      where
        there : T (eqb i j || below K (f i) (f j)) → T (K (f i) (f j))
        there t = ⊎_elim (λ e. subst (λ (x : ℕ). T (K (f i) (f x))) (eqb→eq i j e) (self (inside hi))) (λ u. (below_to K (f i) (f j) u).1) (ways (eqb i j) (below K (f i) (f j)) t)

        again : T (K (f i) (f j)) → T (eqb i j || below K (f i) (f j))
        again t = ⊎_elim (λ e. or_l (eqb i j) (below K (f i) (f j)) (equal i j e)) (λ ne. or_r (eqb i j) (below K (f i) (f j)) (below_from K (f i) (f j) (λ e. ne (one_number i j hi hj e)) t)) (cases_eq i j)

pub faithful : (V : Type 0) → Faithful V
faithful V M K linked g told =
    let u : Simulated M (Reduction M K linked) = (_, up M K linked g told) in
    let d : Simulated (Reduction M K linked) M = (_, down M K linked g told) in
    record { up = u; down = d; words = λ w. (inclusion V M (Reduction M K linked) u w, inclusion V (Reduction M K linked) M d w) }

pub reduces : (V : Type 0) → Reduces V
reduces V M K linked g told = reduced_alike (Reduction M K linked) (Reduction M K linked) (reduced_kept M K linked) _ (alike_itself (Reduction M K linked)) (order M K linked g told) (small M K linked g told)

pub steps : (V : Type 0) → Steps V
steps V = record {
  named = λ M K g p h. let pre = preorder M K g in let k = named K M.size pre p h in (same_from K p (name K p) k.0 k.1, λ q hq t. name_least K M.size pre p q t);
  classes = λ M K g p q hp hq.
      let pre = preorder M K g in
      T_same (same K p q) (eqb (name K p) (name K q))
      (λ t. let s = same_to K p q t in equal (name K p) (name K q) (one_name K M.size pre p q hp hq s.0 s.1))
      (λ t. let e = eqb→eq (name K p) (name K q) t in
      let h = name_here K M.size pre q hq in
      let x = named K M.size pre p hp in
      let y = named K M.size pre q hq in
      same_from K p q (pre.trans hp h hq (subst (λ (z : ℕ). T (K p z)) e x.0) y.1) (pre.trans hq h hp y.0 (subst (λ (z : ℕ). T (K z p)) e x.1)));
  stays = stays;
  numbered = numbered;
  rises = rises;
}
