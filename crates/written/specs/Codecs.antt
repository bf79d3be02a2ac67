-- Words and pairs as texts: what is written is read, and what is read was written.
use Rattle.std.specs.Prelude.{◌≡◌, ℕ, zero, suc, ◌+◌, ◌-◌, ◌*◌, ◌/◌, ◌%◌, ◌^◌, ◌<◌, ◌≤◌, min, Bool, true, false, ◌&&◌, List, [], ◌++◌, length, take, drop, cond, Some, None, Option, MatchOption, ◌==◌, ◌≢◌, nat_lt, option_and_then, refl}
use Rattle.std.specs.Bool.{then_some}
use Rattle.std.proofs.Common.{sym, ap, ap₂, subst, ◌∙◌, inl, inr, mod-eq_of_lt, le_trans, arith, pow_mono, pow_pos}
use Rattle.std.proofs.lemmas.Nat.{mod_below}
use Rattle.std.proofs.lemmas.List.{append_assoc, append-nil, length-append, length-drop, drop_all, drop_at, drop-drop, take_all, take_at, take_rest}
use Rattle.std.proofs.lemmas.Slice.{put_mid-paste}
use borrow.Rule.Slice.PartMut.{put_mid}
use Rattle.std.proofs.lemmas.Bool.{cases_lt, eq-eqb, le-ltb, lt-ltb, ltb-true, ne_eqb, eqb-true, true≢false}
use Rattle.std.proofs.lemmas.Bool.Decides.{nat_tests}
use Rattle.bits.proofs.Words.{bit_mod}
use Rattle.labels.specs.declared.cuts.Cuts.{Cuts}
use Rattle.labels.specs.CutLists.{cuts_of, segment_count, real_bits}
use Rattle.labels.specs.Segments.{is_point, segment, point_holds}
use Rattle.labels.specs.SegmentsLemmas.{segment_le}
use Rattle.labels.specs.CutListsLemmas.{cuts_rising}
use Rattle.labels.specs.declared.sum.Both.{Both}
use Rattle.labels.specs.declared.sum.Either.{Either}
use Rattle.labels.specs.declared.sum.Either.TheVariants.{Left, Right}
use Rattle.labels.specs.Sums.{either}
use Rattle.written.specs.declared.Reading.{Reading}
use Rattle.written.specs.Hex.{hex_digit, hexes, hex_read}
use Rattle.written.specs.Texts.{Plain, reads_word, reads_right, reads_both, whole_if, reads_whole}
use Rattle.written.specs.Hexes.{length-hexes, read_hexes, hexes_read}

-- where reading gives back what was written, it fails at no text
pub fails_from_back : {P : Type 0} (text : P → List ℕ) (reads : List ℕ → Option (Reading P)) (bytes : List ℕ) → reads bytes ≡ None
    → (p : P) (rest : List ℕ) (got : Reading P) → reads (text p ++ rest) ≡ Some got → bytes ≢ text p ++ rest
fails_from_back text reads bytes none p rest got back is =
    let clash : None ≡ Some got = sym none ∙ ap reads is ∙ back in
    let z : ◌≡◌ {A = ℕ} 0 1 = cc in
    omega arith

pub word_back : (limit word : ℕ) (rest : List ℕ) → word % 2 ^ 64 < limit → reads_word limit (hex_read 16 0 (hexes 16 word ++ rest)) ≡ Some (record { predicate = word % 2 ^ 64; len = length (hexes 16 word) })
word_back limit word rest small =
    let same : 0 * 2 ^ (4 * 16) + word % 2 ^ (4 * 16) ≡ word % 2 ^ 64 = omega arith in
    ap (reads_word limit) (read_hexes 16 0 word rest ∙ ap Some same)
    ∙ rw (lt-ltb (word % 2 ^ 64) limit small, length-hexes 16 word)

-- the same of the low bits alone
pub low_back : (n p : ℕ) (rest : List ℕ) → n ≤ 64 → reads_word (2 ^ n) (hex_read 16 0 (hexes 16 (p % 2 ^ n) ++ rest)) ≡ Some (record { predicate = p % 2 ^ n; len = length (hexes 16 (p % 2 ^ n)) })
low_back n p rest h =
    let small : p % 2 ^ n < 2 ^ n = mod_below p (2 ^ n) (pow_pos n) in
    let top : 2 ^ n ≤ 2 ^ 64 = pow_mono h in
    let same : p % 2 ^ n % 2 ^ 64 ≡ p % 2 ^ n = mod-eq_of_lt (le_trans small top) in
    word_back (2 ^ n) (p % 2 ^ n) rest (omega arith) ∙ ap (λ w. Some (record { predicate = w; len = length (hexes 16 (p % 2 ^ n)) })) same

-- the text of a predicate on code points is read back as its low bits, which hold of the same code points
pub points_back : (c : Cuts) (p : ℕ) (rest : List ℕ)
    → reads_word (2 ^ segment_count c) (hex_read 16 0 (hexes 16 (real_bits c p) ++ rest)) ≡ Some (record { predicate = real_bits c p; len = length (hexes 16 (real_bits c p)) })
points_back c p rest = low_back (segment_count c) p rest (omega (arith, (cuts_rising c).few))

pub points_low : (c : Cuts) (p v : ℕ) → point_holds (cuts_of c) (real_bits c p) v ≡ point_holds (cuts_of c) p v
points_low c p v =
    let cuts = cuts_of c in
    ap (λ t. is_point v && t) (bit_mod (segment_count c) p (segment cuts v) (omega (arith, segment_le cuts v)))

-- a word is below 2 ^ n exactly when its low n bits are all of it
low_test : (n word : ℕ) → nat_lt word (2 ^ n) ≡ (word % 2 ^ n == word)
low_test n word = elim (cases_lt word (2 ^ n)) [
  | inl l ↦ lt-ltb word (2 ^ n) l ∙ sym (eq-eqb (word % 2 ^ n) word (mod-eq_of_lt l))
  | inr g ↦ le-ltb word (2 ^ n) g ∙ sym (ne_eqb (word % 2 ^ n) word (λ e. omega (arith, e, g, mod_below word (2 ^ n) (pow_pos n))))
]

-- so a lower limit reads what passes that test
pub reads_low : (n : ℕ) (o : Option ℕ) (r : Option (Reading ℕ)) → n ≤ 64 → r ≡ reads_word (2 ^ 64) o
    → reads_word (2 ^ n) o ≡ option_and_then (λ got. then_some (got.predicate % 2 ^ n == got.predicate) got) r
reads_low n None r h e = rw e refl
reads_low n (Some word) r h e =
    let got : Reading ℕ = record { predicate = word; len = 16 } in
    elim (cases_lt word (2 ^ 64)) [
      | inl l ↦ rw e (rw (lt-ltb word (2 ^ 64) l) (ap (λ t. then_some t got) (low_test n word)))
      | inr g ↦
          let top : 2 ^ n ≤ 2 ^ 64 = pow_mono h in
          rw e (rw (le-ltb word (2 ^ 64) g) (ap (λ t. then_some t got) (le-ltb word (2 ^ n) (omega arith))))
    ]

-- a number that was read
pub record Word (limit : ℕ) (bytes : List ℕ) (got : Reading ℕ) : Type 0 where
  pub small : got.predicate < limit
  pub len : got.len ≡ 16
  pub front : bytes ≡ hexes 16 got.predicate ++ drop got.len bytes

pub word_exact : (limit : ℕ) (bytes : List ℕ) (got : Reading ℕ) → reads_word limit (hex_read 16 0 bytes) ≡ Some got → Word limit bytes got
word_exact limit bytes got e = by (hex_read 16 0 bytes) refl e
  where
    made : (word : ℕ) → hex_read 16 0 bytes ≡ Some word → (t : Bool) → nat_lt word limit ≡ t → then_some t (record { predicate = word; len = 16 }) ≡ Some got → Word limit bytes got
    made word is false small f = let z : ◌≡◌ {A = ℕ} 0 1 = cc in absurd (omega arith)
    made word is true small f =
        let same : record { predicate = word; len = 16 } ≡ got = cc in
        let d = hexes_read 16 0 bytes word is in
        subst (Word limit bytes) same (record {
          small = ltb-true word limit small;
          len = refl;
          front = d.front ∙ ap (λ w. hexes 16 w ++ drop 16 bytes) (sym (d.value ∙ omega arith));
        })

    by : (o : Option ℕ) → hex_read 16 0 bytes ≡ o → reads_word limit o ≡ Some got → Word limit bytes got
    by None is f = let z : ◌≡◌ {A = ℕ} 0 1 = cc in absurd (omega arith)
    by (Some word) is f = made word is (nat_lt word limit) refl f

pub plain_hexes : (n word : ℕ) → Plain (hexes n word)
unfolding hexes
plain_hexes zero word = tt
plain_hexes (suc n) word = ((high (word / 2 ^ (4 * n) % 16) 44 (omega arith), high (word / 2 ^ (4 * n) % 16) 10 (omega arith)), plain_hexes n word)
  where
    high : (d b : ℕ) → b < 48 → hex_digit d ≢ b
    high d b h e = grind (arith, nat_tests)

pub either_same : {V W : Type 0} (f f' : V → Bool) (g g' : W → Bool) → ((x : V) → f x ≡ f' x) → ((y : W) → g y ≡ g' y) → (v : Either V W) → either f g v ≡ either f' g' v
either_same f f' g g' l r (Left x) = l x
either_same f f' g g' l r (Right y) = r y

-- how far a text at the front reaches
pub front_le : (bytes text : List ℕ) (n : ℕ) → n ≡ length text → bytes ≡ text ++ drop n bytes → n ≤ length bytes
front_le bytes text n l e = omega (arith, ap length e, length-append text (drop n bytes))

-- a text behind another
pub behind : (bytes a b : List ℕ) (n m : ℕ) → n ≡ length a → bytes ≡ a ++ drop n bytes → m ≡ length b → drop n bytes ≡ b ++ drop m (drop n bytes)
    → (n + m ≡ length (a ++ b)) × (bytes ≡ (a ++ b) ++ drop (n + m) bytes)
behind bytes a b n m la ea lb eb = (
  omega (arith, length-append a b),
  ea ∙ ap (λ bs. a ++ bs) (eb ∙ ap (λ bs. b ++ bs) (drop-drop m n bytes)) ∙ sym (append_assoc a b (drop (n + m) bytes)),
)

-- a left text and a right one
module _ {P Q : Type 0} (reads_l : List ℕ → Option (Reading P)) (reads_r : List ℕ → Option (Reading Q)) where
  pub both_back : (a b rest : List ℕ) (p : P) (q : Q) → reads_l (a ++ (b ++ rest)) ≡ Some (record { predicate = p; len = length a })
      → reads_r (b ++ rest) ≡ Some (record { predicate = q; len = length b })
      → reads_both (reads_l ((a ++ b) ++ rest)) reads_r ((a ++ b) ++ rest) ≡ Some (record { predicate = record { left = p; right = q }; len = length (a ++ b) })
  both_back a b rest p q left right =
      let whole : (a ++ b) ++ rest ≡ a ++ (b ++ rest) = append_assoc a b rest in
      let l : Reading P = record { predicate = p; len = length a } in
      let behind : drop (length a) ((a ++ b) ++ rest) ≡ b ++ rest = ap (drop (length a)) whole ∙ drop_at a (b ++ rest) (length a) refl in
      ap (λ o. reads_both o reads_r ((a ++ b) ++ rest)) (ap reads_l whole ∙ left)
      ∙ ap (λ bs. reads_right l (reads_r bs)) behind
      ∙ ap (reads_right l) right
      ∙ ap (λ n. Some (record { predicate = record { left = p; right = q }; len = n })) (sym (length-append a b))

  pub both_reads : (bytes part : List ℕ) (l : Reading P) (o : Option (Reading Q)) → Some l ≡ reads_l bytes → part ≡ drop l.len bytes → o ≡ reads_r part
      → reads_right l o ≡ reads_both (reads_l bytes) reads_r bytes
  both_reads bytes part l o left is right = ap (reads_right l) (right ∙ ap reads_r is) ∙ ap (λ x. reads_both x reads_r bytes) left

  pub both_exact : (text_l : P → List ℕ) (text_r : Q → List ℕ) (bytes : List ℕ) (got : Reading (Both P Q))
      → ((l : Reading P) → reads_l bytes ≡ Some l → (l.len ≡ length (text_l l.predicate)) × (bytes ≡ text_l l.predicate ++ drop l.len bytes))
      → ((bs : List ℕ) (r : Reading Q) → reads_r bs ≡ Some r → (r.len ≡ length (text_r r.predicate)) × (bs ≡ text_r r.predicate ++ drop r.len bs))
      → reads_both (reads_l bytes) reads_r bytes ≡ Some got
      → (got.len ≡ length (text_l got.predicate.left ++ text_r got.predicate.right)) × (bytes ≡ (text_l got.predicate.left ++ text_r got.predicate.right) ++ drop got.len bytes)
  both_exact text_l text_r bytes got left right e = on_left (reads_l bytes) refl e
    where
      Exact : Reading (Both P Q) → Type 0
      Exact r = (r.len ≡ length (text_l r.predicate.left ++ text_r r.predicate.right)) × (bytes ≡ (text_l r.predicate.left ++ text_r r.predicate.right) ++ drop r.len bytes)

      on_right : (l : Reading P) → reads_l bytes ≡ Some l → (o : Option (Reading Q)) → reads_r (drop l.len bytes) ≡ o → reads_right l o ≡ Some got → Exact got
      on_right l is None was f = let z : ◌≡◌ {A = ℕ} 0 1 = cc in absurd (omega arith)
      on_right l is (Some r) was f =
          let same : record { predicate = record { left = l.predicate; right = r.predicate }; len = l.len + r.len } ≡ got = cc in
          let a = left l is in
          let b = right (drop l.len bytes) r was in
          subst Exact same (behind bytes (text_l l.predicate) (text_r r.predicate) l.len r.len a.0 a.1 b.0 b.1)

      on_left : (o : Option (Reading P)) → reads_l bytes ≡ o → reads_both o reads_r bytes ≡ Some got → Exact got
      on_left None is f = let z : ◌≡◌ {A = ℕ} 0 1 = cc in absurd (omega arith)
      on_left (Some l) is f = on_right l is (reads_r (drop l.len bytes)) refl f

-- how far a text behind another reaches
pub behind_le : (bytes text : List ℕ) (n m : ℕ) → n ≤ length bytes → m ≡ length text → take (length bytes - n) (drop n bytes) ≡ text ++ drop m (take (length bytes - n) (drop n bytes)) → n + m ≤ length bytes
behind_le bytes text n m h l e =
    omega (arith, front_le (take (length bytes - n) (drop n bytes)) text m l e, ap length (take_rest bytes n), length-drop n bytes)

-- a buffer that the length asked for says to suffice has room for both texts
pub room_both : (was a b : List ℕ) (t : ℕ) → t ≡ min (length (a ++ b)) (2 ^ 64 - 1) → t ≤ length was → length was < 2 ^ 63 → length a + length b ≤ length was
room_both was a b t e h small = omega (arith, length-append a b)

pub length_both : (a b : List ℕ) (m n top : ℕ) → m ≡ min (length a) top → n ≡ min (length b) top → min (m + n) top ≡ min (length (a ++ b)) top
length_both a b m n top e f = omega (arith, length-append a b)

-- the part behind a text that was written
pub part_behind : (was mid a : List ℕ) (n k : ℕ) → n ≡ length a → mid ≡ a ++ drop n was → k ≡ length mid - n → take k (drop n mid) ≡ drop n was
part_behind was mid a n k la ea is =
    ap (λ j. take j (drop n mid)) is ∙ take_rest mid n ∙ ap (drop n) ea ∙ drop_at a (drop n was) n (sym la)

pub wrote_both : (was mid last a b : List ℕ) (n m k : ℕ) → length a + length b ≤ length was → length mid ≡ length was → n ≡ length a → mid ≡ a ++ drop n was
    → k ≡ length mid - n → m ≡ length b → last ≡ b ++ drop m (take k (drop n mid))
    → (n + m ≡ length (a ++ b)) × (put_mid n k mid last ≡ (a ++ b) ++ drop (n + m) was)
wrote_both was mid last a b n m k room same la ea is lb eb =
    let full : last ≡ b ++ drop (n + m) was = eb ∙ ap (λ bs. b ++ drop m bs) (part_behind was mid a n k la ea is) ∙ ap (λ bs. b ++ bs) (drop-drop m n was) in
    let long : length last ≡ k = ap length full ∙ length-append b (drop (n + m) was) ∙ omega (arith, length-drop (n + m) was) in (
      omega (arith, length-append a b),
      put_mid-paste n k mid last last k refl refl (sym long)
          ∙ ap₂ (λ x y. x ++ y ++ drop (n + k) mid) (ap (take n) ea ∙ take_at a (drop n was) n (sym la)) (take_all k last (omega arith) ∙ full)
          ∙ ap (λ x. a ++ (b ++ drop (n + m) was) ++ x) (drop_all (n + k) mid (omega arith))
          ∙ append-nil (a ++ (b ++ drop (n + m) was))
          ∙ sym (append_assoc a b (drop (n + m) was)),
    )

-- a field that is a text and nothing else
module _ {P : Type 0} (reads : List ℕ → Option (Reading P)) (field : List ℕ) where
  pub whole_some : (got : Reading P) → Some got ≡ reads field → got.len ≡ length field → Some got.predicate ≡ reads_whole reads field
  whole_some got is e = ap (λ t. cond t (Some got.predicate) None) (sym (eq-eqb got.len (length field) e)) ∙ ap (whole_if (length field)) is

  pub whole_text : (text : List ℕ) (n : ℕ) → n ≡ length field → field ≡ text ++ drop n field → field ≡ text
  whole_text text n e is = is ∙ ap (λ bs. text ++ bs) (drop_all n field (omega arith)) ∙ append-nil text

  pub whole_len : (text : List ℕ) (got : Reading P) (q : P) → Some got ≡ reads field → field ≡ text → reads (text ++ []) ≡ Some (record { predicate = q; len = length text }) → got.len ≡ length field
  whole_len text got q is e back =
      let same : Some got ≡ Some (record { predicate = q; len = length text }) = is ∙ ap reads (e ∙ sym (append-nil text)) ∙ back in
      let lens : got.len ≡ length text = cc in
      lens ∙ ap length (sym e)

  pub whole_test : (got : Reading P) → Some got ≡ reads field → then_some (got.len == length field) got.predicate ≡ reads_whole reads field
  whole_test got is = by (got.len == length field) ∙ ap (whole_if (length field)) is
    where
      by : (t : Bool) → then_some t got.predicate ≡ cond t (Some got.predicate) None
      by true = refl
      by false = refl

  -- what was read is the whole field, or the field is no text
  pub whole_cases : (text : P → List ℕ) (got : Reading P) → field ≡ text got.predicate ++ drop got.len field → ((p : P) → field ≡ text p → got.len ≡ length field)
      → MatchOption (then_some (got.len == length field) got.predicate) ((p : P) → field ≢ text p) (λ p. field ≡ text p)
  whole_cases text got front all = by (got.len == length field) refl
    where
      by : (t : Bool) → (got.len == length field) ≡ t → MatchOption (then_some t got.predicate) ((p : P) → field ≢ text p) (λ p. field ≡ text p)
      by true is = whole_text (text got.predicate) got.len (eqb-true got.len (length field) is) front
      by false is = λ p e. true≢false (sym (eq-eqb got.len (length field) (all p e)) ∙ is)
