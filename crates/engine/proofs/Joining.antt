-- The join of the labels of one state's arrows to the states above another. Assumes nothing.
use Rattle.std.proofs.Common.{◌≡◌, ℕ, ◌+◌, ◌<◌, ◌≤◌, Bool, true, false, ◌||◌, List, length, get_or, Decides, sym, refl, ap, ◌∙◌, subst, inl, inr, arith}
use Rattle.std.specs.List.{All, HoldsAt}
use Rattle.std.proofs.lemmas.Bool.{or_cases, or_left, or_right, both_ways}
use Rattle.automata.specs.declared.Arrow.{Arrow}
use Rattle.automata.specs.declared.Mark.{Mark}
use Rattle.automata.specs.Automata.{automaton, Within}
use Rattle.automata.specs.Simulation.{Answer}
use Rattle.engine.specs.declared.index.End.TheVariants.{Source}
use Rattle.engine.specs.declared.index.Entry.{Entry}
use Rattle.engine.specs.Indexing.{Listed}
use Rattle.engine.proofs.Places.{entry_at, Placed, placed_more, placed_all, place_at}
use Rattle.engine.proofs.Reading.{passes, passed, at_get_or, reads_at, reads_by}

module _ {P V : Type 0} (h : P → V → Bool) (marks : List Mark) (xs : List (Arrow P)) (K : ℕ → ℕ → Bool) (q t : ℕ) (es : List Entry) where
  -- an arrow to a state above t has its label within `all`
  abbrev Joined : P → Arrow P → Type 0
  Joined all x = K t x.target ≡ true → (a : V) → h x.label a ≡ true → h all a ≡ true

  -- so far
  abbrev pub Joining : P → ℕ → Type 0
  Joining all i = Placed (Joined all) xs es i × ((a : V) → h all a ≡ true → Answer (automaton h marks xs) K q a t)

  module _ (s : Listed Source xs q es) (all : P) (i : ℕ) (lt : i < length es) where
    -- one arrow more, to a state above t
    pub joining_more : All (Within (length marks)) xs → (new : P) (j : ℕ) (d : Arrow P) → j ≡ (entry_at es i).place → K t (entry_at es i).end ≡ true
        → ((a : V) → h new a ≡ (h all a || h (get_or xs j d).label a)) → Joining all i → Joining new (i + 1)
    joining_more within new j d is k join was =
        let x = get_or xs j d in
        let r = place_at Source xs q es s i lt in
        let lj : j < length xs = omega (arith, is, r.0) in (
          placed_more (Joined all) (Joined new) xs es i lt
              (λ y j f a u. join a ∙ or_left (h all a) (h x.label a) (j f a u))
              (subst (HoldsAt (Joined new) xs) is (at_get_or (Joined new) xs j d lj (λ f a u. join a ∙ or_right (h all a) (h x.label a) u))) was.0,
          λ a f. elim (or_cases (h all a) (h x.label a) (sym (join a) ∙ f)) [
            | inl o ↦ was.1 a o
            | inr o ↦ record {
              to = x.target;
              here = (within j d lj).1;
              read = reads_at h xs q x.target a j d lj (subst (HoldsAt (λ y. y.source ≡ q) xs) (sym is) r.1 d) refl o;
              kept = passes (K t x.target) (ap (K t) (subst (HoldsAt (λ y. y.target ≡ (entry_at es i).end) xs) (sym is) r.2 d) ∙ k);
            }
          ],
        )

    -- one arrow more, to another state
    pub joining_past : K t (entry_at es i).end ≡ false → Joining all i → Joining all (i + 1)
    joining_past k was =
        let r = place_at Source xs q es s i lt in (
          placed_more (Joined all) (Joined all) xs es i lt (λ x j. j)
              (λ d f. absurd (both_ways (K t (get_or xs (entry_at es i).place d).target) (ap (K t) (r.2 d) ∙ k) f)) was.0,
          was.1,
        )

  pub joining_all : Listed Source xs q es → (all : P) (i : ℕ) → length es ≤ i → Joining all i → (a : V) → Decides (h all a) (Answer (automaton h marks xs) K q a t)
  joining_all s all i top was a = (
    was.1 a,
    λ r. let f = reads_by h xs q r.to a (λ x. x.source ≡ q → Joined all x) (placed_all Source xs q es s (Joined all) i top was.0) r.read in
        f.1 f.2 (ap (K t) f.3 ∙ passed (K t r.to) r.kept) a f.4,
  )
