-- Pairs that go from a column: none of them is of a simulation, and what stays is answered. Assumes nothing.
use Rattle.std.proofs.Common.{◌≡◌, ℕ, ◌+◌, ◌<◌, ◌≤◌, Bool, true, false, T, eqb, List, length, get_or, Decides, sym, ap, ◌∙◌, subst, inl, inr, arith}
use lib.Dec.{eqb_refl}
use Rattle.std.specs.List.{All, AllByRecursion, HoldsAt}
use Rattle.std.proofs.ByRecursion.{All-weaker, all_from_every}
use Rattle.std.proofs.lemmas.Bool.{cases_eq, both_ways}
use Rattle.bits.specs.Matrix.{pair, Changed}
use Rattle.automata.specs.declared.Arrow.{Arrow}
use Rattle.automata.specs.declared.Mark.{Mark}
use Rattle.automata.specs.Automata.{Automaton, automaton, Within}
use Rattle.automata.specs.Simulation.{Answer, Simulation, Wide}
use Rattle.automata.proofs.Simulations.{simulations}
use Rattle.engine.specs.declared.index.End.TheVariants.{Target}
use Rattle.engine.specs.declared.index.Entry.{Entry}
use Rattle.engine.specs.Indexing.{Listed}
use Rattle.engine.specs.Columns.{Gathered, Swept, Only, Answered, Met}
use Rattle.engine.proofs.Sums.{pairs_less}
use Rattle.engine.proofs.Gathering.{same_pair, changed_fewer}
use Rattle.engine.proofs.Places.{entry_at, Placed, placed_more, placed_all, place_at}
use Rattle.engine.proofs.Reading.{passes, passed, at_get_or, reads_at, reads_by}

module _ {V : Type 0} (M : Automaton V) where
  pub swept_then : (old mid new : List ℕ) (j k : ℕ) → Swept M old mid j → Swept M mid new k → Swept M old new (j + k)
  swept_then old mid new j k a b = record {
    count = omega (arith, a.count, b.count);
    fewer = λ p q e. a.fewer p q (b.fewer p q e);
    wide = λ w. b.wide (a.wide w);
    still = λ e. b.still (omega arith) ∙ a.still (omega arith);
  }

  -- one more goes, which no simulation within `old` has
  swept_more : (old mid new : List ℕ) (k p q : ℕ) → p < M.size → q < M.size → pair mid p q ≡ true
      → (Wide M (pair old) → (R : ℕ → ℕ → Bool) → Simulation M M R → T (R p q) → ⊥) → Changed false mid new p q
      → Swept M old mid k → Swept M old new (k + 1)
  swept_more old mid new k p q hp hq was never c w = record {
    count = omega (arith, pairs_less (pair new) (pair mid) M.size p q hp hq c.here was c.others, w.count);
    fewer = λ i j e. w.fewer i j (changed_fewer mid new p q c i j e);
    wide = λ o R s i j hi hj t. elim (same_pair i j p q) [
      | inl x ↦ absurd (never o R s (subst (λ y. T (R y q)) x.0 (subst (λ y. T (R i y)) x.1 t)))
      | inr ne ↦ subst T (sym (c.others i j ne)) (w.wide o R s i j hi hj t)
    ];
    still = λ z. absurd (omega arith);
  }

module _ {P V : Type 0} (h : P → V → Bool) (marks : List Mark) (xs : List (Arrow P)) (q : ℕ) where
  -- what is met stays so as pairs go, and was so before they went
  met_later : (old mid new : List ℕ) (t : ℕ) → ((i j : ℕ) → pair new i j ≡ true → pair mid i j ≡ true) → (x : Arrow P)
      → Met h (automaton h marks xs) old mid q t x → Met h (automaton h marks xs) old new q t x
  met_later old mid new t fewer x m e k = m e (fewer x.source q k)

  met_earlier : (old mid new : List ℕ) (t : ℕ) → ((i j : ℕ) → pair mid i j ≡ true → pair old i j ≡ true) → (x : Arrow P)
      → Met h (automaton h marks xs) mid new q t x → Met h (automaton h marks xs) old new q t x
  met_earlier old mid new t fewer x m e k a l =
      let r = m e k a l in
      record { to = r.to; here = r.here; read = r.read; kept = passes (pair old t r.to) (fewer t r.to (passed (pair mid t r.to) r.kept)) }

  -- ---- one target

  -- no other state that is kept below q has an arrow to t, and q answers itself
  pub met_apart : (t : ℕ) (old preds below : List ℕ) → All (Within (length marks)) xs → All (λ x. pair preds x.target x.source ≡ true) xs → Wide (automaton h marks xs) (pair old) → Gathered (length marks) q old below
      → ((p : ℕ) → pair preds t p ≡ true → pair below 0 p ≡ true → ⊥) → AllByRecursion (Met h (automaton h marks xs) old old q t) xs
  met_apart t old preds below within has wide g apart = all_from_every (Met h (automaton h marks xs) old old q t) xs (λ k d _ lt e on a l.
      let x = get_or xs k d in
      let w = within k d lt in
      let ht : t < length marks = subst (λ y. y < length marks) e w.1 in
      elim (cases_eq x.source q) [
        | inl s ↦ record { to = t; here = ht; read = reads_at h xs q t a k d lt s e l; kept = wide eqb ((simulations V).identity (automaton h marks xs)) t t ht ht (eqb_refl t) }
        | inr ne ↦ absurd (apart x.source (ap (λ y. pair preds y x.source) (sym e) ∙ has k d lt) (g x.source w.0 ne on))
      ])

  module _ (t : ℕ) (es : List Entry) (old : List ℕ) where
    -- so far
    abbrev pub Striking : List ℕ → ℕ → ℕ → Type 0
    Striking new k i = Swept (automaton h marks xs) old new k × Only q old new × Placed (Met h (automaton h marks xs) old new q t) xs es i

    module _ (s : Listed Target xs t es) where
      module _ (i : ℕ) (lt : i < length es) where
        -- an arrow whose source is not kept is met
        left_out : (new : List ℕ) → pair new (entry_at es i).end q ≡ false → HoldsAt (Met h (automaton h marks xs) old new q t) xs (entry_at es i).place
        left_out new off d f k = absurd (both_ways (pair new (get_or xs (entry_at es i).place d).source q) (ap (λ y. pair new y q) ((place_at Target xs t es s i lt).2 d) ∙ off) k)

        pub striking_past : (new : List ℕ) (k : ℕ) → pair new (entry_at es i).end q ≡ false → Striking new k i → Striking new k (i + 1)
        striking_past new k off was =
            (was.0, was.1, placed_more (Met h (automaton h marks xs) old new q t) (Met h (automaton h marks xs) old new q t) xs es i lt (λ x m. m) (left_out new off) was.2)

        -- the arrow as it was read, and the join
        module _ (j : ℕ) (d : Arrow P) (is : j ≡ (entry_at es i).place) (all : P) (join : (a : V) → Decides (h all a) (Answer (automaton h marks xs) (pair old) q a t)) where
          -- the label is within the join
          pub striking_met : (new : List ℕ) (k : ℕ) → ((a : V) → h (get_or xs j d).label a ≡ true → h all a ≡ true) → Striking new k i → Striking new k (i + 1)
          striking_met new k within was =
              let M = Met h (automaton h marks xs) old new q t in
              let lj : j < length xs = omega (arith, is, (place_at Target xs t es s i lt).0) in (
                was.0,
                was.1,
                placed_more M M xs es i lt (λ x m. m) (subst (HoldsAt M xs) is (at_get_or M xs j d lj (λ f k a u. (join a).0 (within a u)))) was.2,
              )

          -- it is not, and the pair goes
          pub striking_more : (mid new : List ℕ) (k p : ℕ) → p ≡ (entry_at es i).end → All (Within (length marks)) xs → q < length marks → pair mid p q ≡ true
              → (((a : V) → h (get_or xs j d).label a ≡ true → h all a ≡ true) → ⊥) → Changed false mid new p q → Striking mid k i → Striking new (k + 1) (i + 1)
          striking_more mid new k p end within hq kept unfit c was =
              let M = automaton h marks xs in
              let r = place_at Target xs t es s i lt in
              let lj : j < length xs = omega (arith, is, r.0) in
              let to = subst (HoldsAt (λ y. y.target ≡ t) xs) (sym is) r.1 d in
              let from = subst (HoldsAt (λ y. y.source ≡ (entry_at es i).end) xs) (sym is) r.2 d ∙ sym end in
              let w = within j d lj in
              let hp : p < length marks = subst (λ y. y < length marks) from w.0 in
              let ht : t < length marks = subst (λ y. y < length marks) to w.1 in (
                swept_more M old mid new k p q hp hq kept
                    (λ o R sim u. unfit (λ a f. (join a).1
                    (let m = sim.follows hp hq u ht (reads_at h xs p t a j d lj from to f) in
                    record { to = m.to; here = m.here; read = m.read; kept = o R sim t m.to ht m.here m.kept })))
                    c was.0,
                (λ i j ne. c.others i j (λ _. ne) ∙ was.1 i j ne),
                placed_more (Met h M old mid q t) (Met h M old new q t) xs es i lt (met_later old mid new t (changed_fewer mid new p q c)) (left_out new (ap (λ y. pair new y q) (sym end) ∙ c.here)) was.2,
              )

      pub striking_all : (new : List ℕ) (k i : ℕ) → length es ≤ i → Striking new k i → AllByRecursion (Met h (automaton h marks xs) old new q t) xs
      striking_all new k i top was =
          let M = Met h (automaton h marks xs) old new q t in
          All-weaker (λ x. x.target ≡ t → M x) M (λ x w e. w e e) xs (placed_all Target xs t es s M i top was.2)

  -- ---- all targets

  -- so far
  abbrev pub Columned : List ℕ → List ℕ → ℕ → ℕ → Type 0
  Columned old new k t = Swept (automaton h marks xs) old new k × Only q old new × ((u : ℕ) → u < t → AllByRecursion (Met h (automaton h marks xs) old new q u) xs)

  pub columned_more : (old mid new : List ℕ) (j k t : ℕ) → Columned old mid j t → Swept (automaton h marks xs) mid new k → Only q mid new → AllByRecursion (Met h (automaton h marks xs) mid new q t) xs → Columned old new (j + k) (t + 1)
  columned_more old mid new j k t was sw only met =
      let M = automaton h marks xs in (
        swept_then M old mid new j k was.0 sw,
        (λ i j ne. only i j ne ∙ was.1 i j ne),
        λ u l. elim (cases_eq u t) [
          | inl e ↦ subst (λ y. AllByRecursion (Met h M old new q y) xs) (sym e) (All-weaker (Met h M mid new q t) (Met h M old new q t) (met_earlier old mid new t was.0.fewer) xs met)
          | inr ne ↦ All-weaker (Met h M old mid q u) (Met h M old new q u) (met_later old mid new u sw.fewer) xs (was.2 u (omega arith))
        ],
      )

  pub columned_all : (old new : List ℕ) (k t : ℕ) → length marks ≤ t → Columned old new k t → (p : ℕ) → pair new p q ≡ true → Answered (automaton h marks xs) (pair old) p q
  columned_all old new k t top was p e a p' hp' r =
      let M = automaton h marks xs in
      let f = reads_by h xs p p' a (Met h M old new q p') (was.2 p' (omega arith)) r in
      f.1 f.3 (ap (λ y. pair new y q) f.2 ∙ e) a f.4
