-- What it is to write a text into a buffer, and to read one from the front of some bytes.
use Rattle.std.specs.Prelude.{◌≡◌, ℕ, ◌+◌, ◌<◌, cond, List, ◌++◌, length, drop, Some, None, Option, ◌==◌, ◌≢◌, nat_lt}
use Rattle.std.specs.Bool.{then_some}
use Rattle.std.specs.List.{AllByRecursion}
use Rattle.labels.specs.declared.sum.Both.{Both}
use Rattle.written.specs.declared.Reading.{Reading}

-- the text stands at the front and the bytes behind it are as they were; or there is too little room, and all are
abbrev pub Wrote : List ℕ → List ℕ → List ℕ → Option ℕ → Type 0
Wrote was is text None = (length was < length text) × (is ≡ was)
Wrote was is text (Some n) = (n ≡ length text) × (is ≡ text ++ drop n was)

-- no byte is a comma or byte 10
abbrev pub Plain : List ℕ → Type 0
Plain text = AllByRecursion (λ b. (b ≢ 44) × (b ≢ 10)) text

-- a word of 16 digits, of which only numbers below a limit are read
abbrev pub reads_word : ℕ → Option ℕ → Option (Reading ℕ)
reads_word limit None = None
reads_word limit (Some word) = then_some (nat_lt word limit) (record { predicate = word; len = 16 })

-- a left text, then a right one behind it
abbrev pub reads_right : {P Q : Type 0} → Reading P → Option (Reading Q) → Option (Reading (Both P Q))
reads_right l None = None
reads_right l (Some r) = Some (record { predicate = record { left = l.predicate; right = r.predicate }; len = l.len + r.len })

abbrev pub reads_both : {P Q : Type 0} → Option (Reading P) → (List ℕ → Option (Reading Q)) → List ℕ → Option (Reading (Both P Q))
reads_both None right bytes = None
reads_both (Some l) right bytes = reads_right l (right (drop l.len bytes))

-- a field that is a text and nothing else
abbrev pub whole_if : {P : Type 0} → ℕ → Option (Reading P) → Option P
whole_if n None = None
whole_if n (Some got) = cond (got.len == n) (Some got.predicate) None

abbrev pub reads_whole : {P : Type 0} → (List ℕ → Option (Reading P)) → List ℕ → Option P
reads_whole reads field = whole_if (length field) (reads field)
