-- Chains of places, made place by place, and walks along them. Assumes nothing.
use Rattle.std.proofs.Common.{◌≡◌, ℕ, zero, suc, ◌+◌, ◌<◌, ◌≤◌, Bool, true, false, T, eqb, List, Option, Some, None, map, length, get_or, set, sym, refl, ap, ◌∙◌, subst, inl, inr, add-one, arith, get_or-set_other, get_or-set_same, eqb→eq}
use Rattle.std.specs.List.{HoldsAt, AllByRecursion}
use Rattle.std.proofs.lemmas.List.{get_or-map}
use Rattle.std.proofs.ByRecursion.{all_from_every}
use Rattle.std.proofs.lemmas.Bool.{cases_Bool, cases_eq, cases_lt, eq-eqb, ne_eqb, both_ways}
use Rattle.reduction.specs.Chains.{last_below, Heads, Links}

module _ (f : ℕ → Bool) where
  last_on : (n : ℕ) → f n ≡ true → last_below (n + 1) f ≡ Some n
  unfolding last_below
  last_on n on = rw (add-one, on) refl

  last_off : (n : ℕ) → f n ≡ false → last_below (n + 1) f ≡ last_below n f
  unfolding last_below
  last_off n off = rw (add-one, off) refl

  -- the last that passes is below n, and none after it passes
  pub record Last (n k : ℕ) : Type 0 where
    pub within : k < n
    pub here : f k ≡ true
    pub after : (j : ℕ) → k < j → j < n → f j ≡ false

  last_some : (n k : ℕ) → last_below n f ≡ Some k → Last n k
  unfolding last_below
  last_some zero k e = cc
  last_some (suc n) k e = elim (cases_Bool (f n)) [
    | inl on ↦ let same : n ≡ k = (let e' : Some n ≡ Some k = sym (last_on' on) ∙ e in cc) in record {
      within = omega (arith, same);
      here = ap f (sym same) ∙ on;
      after = λ j lo hi. absurd (omega (arith, same));
    }
    | inr off ↦ let r = last_some n k (sym (last_off' off) ∙ e) in record {
      within = omega (arith, r.within);
      here = r.here;
      after = λ j lo hi. elim (cases_eq j n) [ inl same ↦ ap f same ∙ off | inr ne ↦ r.after j lo (omega arith) ];
    }
  ]
    where
      last_on' : f n ≡ true → last_below (suc n) f ≡ Some n
      last_on' on = rw on refl

      last_off' : f n ≡ false → last_below (suc n) f ≡ last_below n f
      last_off' off = rw off refl

  last_none : (n : ℕ) → last_below n f ≡ None → (j : ℕ) → j < n → f j ≡ false
  unfolding last_below
  last_none zero e j lt = absurd (omega arith)
  last_none (suc n) e j lt = elim (cases_Bool (f n)) [
    | inl on ↦ let e' : Some n ≡ None = sym (last_on' on) ∙ e in cc
    | inr off ↦ elim (cases_eq j n) [ inl same ↦ ap f same ∙ off | inr ne ↦ last_none n (sym (last_off' off) ∙ e) j (omega arith) ]
  ]
    where
      last_on' : f n ≡ true → last_below (suc n) f ≡ Some n
      last_on' on = rw on refl

      last_off' : f n ≡ false → last_below (suc n) f ≡ last_below n f
      last_off' off = rw off refl

-- how many places are left of a walk, at most
abbrev pub left : Option ℕ → ℕ
left None = 0
left (Some k) = k + 1

left_last : (f : ℕ → Bool) (n : ℕ) → left (last_below n f) ≤ n
unfolding last_below
left_last f zero = omega arith
left_last f (suc n) = elim (cases_Bool (f n)) [
  | inl on ↦ rw on (omega arith)
  | inr off ↦ rw off (let h : left (last_below n f) ≤ n = left_last f n in omega arith)
]

pub heads_none : (keys : List ℕ) (last : List (Option ℕ)) → ((p : ℕ) → p < 256 → get_or last p None ≡ None) → Heads keys 0 last
unfolding last_below
heads_none keys last none p h = none p h

pub links_none : (keys : List ℕ) (before : List (Option ℕ)) → Links keys 0 before
links_none keys before k h = absurd (omega arith)

pub heads_more : (keys : List ℕ) (last : List (Option ℕ)) (k p : ℕ) → p < length last → get_or keys k 0 ≡ p → Heads keys k last → Heads keys (k + 1) (set last p (Some k))
heads_more keys last k p at e w r hr = elim (cases_eq r p) [
  | inl same ↦ rw (same, get_or-set_same last p (Some k) None at) (sym (last_on _ k (eq-eqb (get_or keys k 0) p e)))
  | inr ne ↦ get_or-set_other last p r (Some k) None ne ∙ w r hr ∙ sym (last_off _ k (ne_eqb (get_or keys k 0) r (λ s. ne (sym s ∙ e))))
]

pub links_more : (keys : List ℕ) (last before : List (Option ℕ)) (k p : ℕ) → k < length before → p < 256 → get_or keys k 0 ≡ p → Heads keys k last → Links keys k before → Links keys (k + 1) (set before k (get_or last p None))
links_more keys last before k p ln hp e heads w j hj = elim (cases_eq j k) [
  | inl same ↦ rw (same, get_or-set_same before k (get_or last p None) None ln, e) (heads p hp)
  | inr ne ↦ get_or-set_other before k j (get_or last p None) None ne ∙ w j (omega arith)
]

-- a walk along the places of the key p, of which those from `from` on are done: `at` is the next
pub record Walk (keys : List ℕ) (m p : ℕ) (Q : ℕ → Type 0) (at : Option ℕ) : Type 0 where
  pub from : ℕ
  pub within : from ≤ m
  pub next : at ≡ last_below from (λ k. eqb (get_or keys k 0) p)
  pub done : (j : ℕ) → from ≤ j → j < m → get_or keys j 0 ≡ p → Q j

module _ (keys : List ℕ) (m p : ℕ) where
  pub walk_none : (last : List (Option ℕ)) → Heads keys m last → (Q : ℕ → Type 0) → p < 256 → Walk keys m p Q (get_or last p None)
  walk_none last w Q hp = record { from = m; within = omega arith; next = w p hp; done = λ j lo hi e. absurd (omega arith) }

  -- where the walk is
  pub walk_here : (Q : ℕ → Type 0) (at : Option ℕ) (k : ℕ) → at ≡ Some k → Walk keys m p Q at → (k < m) × (get_or keys k 0 ≡ p)
  walk_here Q at k e w = let l = last_some _ w.from k (sym w.next ∙ e) in (omega (arith, l.within, w.within), eqb→eq (get_or keys k 0) p (subst T (sym l.here) tt))

  module _ (before : List (Option ℕ)) (links : Links keys m before) where
    pub walk_less : (Q : ℕ → Type 0) (at : Option ℕ) (k : ℕ) → at ≡ Some k → Walk keys m p Q at → left (get_or before k None) < left at
    walk_less Q at k e w = rw (e, links k (walk_here Q at k e w).0) (omega (arith, left_last (λ j. eqb (get_or keys j 0) (get_or keys k 0)) k))

    -- Q may have become Q'
    pub walk_more : (Q Q' : ℕ → Type 0) (at : Option ℕ) (k : ℕ) → at ≡ Some k → Q' k → ((j : ℕ) → Q j → Q' j) → Walk keys m p Q at → Walk keys m p Q' (get_or before k None)
    walk_more Q Q' at k e now' weaker w =
        let l = last_some _ w.from k (sym w.next ∙ e) in
        let here = walk_here Q at k e w in
        record {
          from = k;
          within = omega (arith, here.0);
          next = links k here.0 ∙ ap (λ y. last_below k (λ j. eqb (get_or keys j 0) y)) here.1;
          done = λ j lo hi s. elim (cases_eq j k) [
            | inl same ↦ subst Q' (sym same) now'
            | inr ne ↦ elim (cases_lt j w.from) [
              | inl lt ↦ absurd (both_ways _ (l.after j (omega arith) lt) (eq-eqb (get_or keys j 0) p s))
              | inr ge ↦ weaker j (w.done j ge hi s)
            ]
          ];
        }

-- the walk is at its end
pub walk_all : {X : Type 0} (f : X → ℕ) (xs : List X) (p : ℕ) (G : X → Type 0) (at : Option ℕ) → at ≡ None → Walk (map f xs) (length xs) p (HoldsAt G xs) at → AllByRecursion (λ a. f a ≡ p → G a) xs
walk_all f xs p G at z w = all_from_every (λ a. f a ≡ p → G a) xs
    (λ k d _ lt e.
    let key : get_or (map f xs) k 0 ≡ p = get_or-map f xs k d 0 lt ∙ e in
    elim (cases_lt k w.from) [
      | inl below ↦ absurd (both_ways _ (last_none _ w.from (sym w.next ∙ z) k below) (eq-eqb (get_or (map f xs) k 0) p key))
      | inr ge ↦ w.done k ge lt key d
    ])

-- the key of an element that was read
pub key_read : {X : Type 0} (f : X → ℕ) (xs : List X) (k : ℕ) (x : X) → k < length xs → x ≡ get_or xs k x → get_or (map f xs) k 0 ≡ f x
key_read f xs k x lt is = get_or-map f xs k x 0 lt ∙ ap f (sym is)
