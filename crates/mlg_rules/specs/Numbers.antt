-- Which number the readers give exactly when.
use Rattle.std.specs.Prelude.{ℕ, ◌+◌, ◌*◌, ◌-◌, ◌≤◌, ◌<◌, ◌≡◌, ◌⊎◌, ◌≢◌, List, length, get_or, take, drop}
use Rattle.wire.specs.BigEndian.{be_of, be_at}
use Rattle.wire.specs.First.{First, Unless, Zero}
use Rattle.wire.specs.Sum.{sum_of}
use Rattle.wire.specs.Text.{zeros}
use Rattle.mlg_rules.specs.Types.{size_of, first_bit_type}
use Rattle.mlg_rules.specs.Field.{type_of, names_index, bits_of}
use Rattle.mlg_rules.specs.Fields.{sizes}
use Rattle.mlg_rules.specs.Header.{log_name, version_in, numbers_of}
use Rattle.mlg_rules.specs.Block.{type_in, record_in, sum_in}

-- one of the n bytes from a place on is 0
abbrev pub HasZero : List ℕ → ℕ → ℕ → Type 0
HasZero s at n = (i : ℕ) × (i < n) × (get_or s (at + i) 0 ≡ 0)

-- A field's bytes d, in a file f with these places: "24 for type, 24 for a bit field's bits over its width, 28 for name, units, category without a
-- zero. If it is a bit field with bits not 0: 23 where the index is outside fields' end to data begin (excluded), 28 unless that many
-- zero-ended names lie before data begin."
abbrev pub Named : List ℕ → Type 0
Named d = (first_bit_type ≤ type_of d) × (bits_of d ≢ 0)

abbrev pub FieldNumber : (end begin : ℕ) (f d : List ℕ) → ℕ → Type 0
FieldNumber end begin f d =
    First (size_of (type_of d) ≡ 0) 24
    (First ((first_bit_type ≤ type_of d) × (8 * size_of (type_of d) < bits_of d)) 24
    (Unless (HasZero d 1 34 × HasZero d 35 10 × HasZero d 55 34) 28
    (First (Named d × ((names_index d < end) ⊎ (begin ≤ names_index d))) 23
    (First (Named d × (zeros (take (begin - names_index d) (drop (names_index d) f)) < bits_of d)) 28
    Zero))))

-- "Then each field in turn": n is the number of the first field that is refused; where none of them is, it is what the rest says
abbrev pub InTurn : (field : ℕ → ℕ → Type 0) (count : ℕ) (rest : ℕ → Type 0) → ℕ → Type 0
InTurn field count rest n =
    ((i : ℕ) × (i < count) × ((j : ℕ) → j < i → field j 0) × field i n × (n ≢ 0))
    ⊎ (((j : ℕ) → j < count → field j 0) × rest n)

-- "Order: 20 (under 24 bytes), 21, 22, 20 (fields cut), 23 (data begin before the fields' end or past the file), 23 (info start not 0 and not
-- between the fields' end and data begin, which is excluded). Then each field in turn .. Then 23 if record length isn't the sum of field
-- sizes; 28 if info has no zero before data begin."
abbrev pub HeaderNumber : List ℕ → ℕ → Type 0
HeaderNumber f =
    let h = numbers_of f in
    let end = 24 + 89 * h.count in
    First (length f < 24) 20
    (Unless (be_at 6 f 0 ≡ be_of log_name) 21
    (Unless (version_in f ≡ 2) 22
    (First (length f < end) 20
    (First ((h.begin < end) ⊎ (length f < h.begin)) 23
    (First ((h.info ≢ 0) × ((h.info < end) ⊎ (h.begin ≤ h.info))) 23
    (InTurn (λ i. FieldNumber end h.begin f (take 89 (drop (24 + 89 * i) f))) h.count
    (Unless (sizes h.version h.count (drop 24 f) ≡ h.size) 23
    (First ((h.info ≢ 0) × ¬ (HasZero f h.info (h.begin - h.info))) 28
    Zero))))))))

-- "Order: 23 (place past the file), 25, 20, 28 or 26", of what stands at a place of a file whose records have l bytes; 0 for the end. Here t is
-- the rest of the file from the block on.
abbrev pub DataNumber : ℕ → List ℕ → ℕ → Type 0
DataNumber l t =
    First (length t < l + 5) 20
    (Unless (sum_of (record_in l t) ≡ sum_in l t) 26
    Zero)

abbrev pub MarkNumber : List ℕ → ℕ → Type 0
MarkNumber t =
    First (length t < 54) 20
    (Unless (HasZero t 4 50) 28
    Zero)

pub record TypeNumber (l : ℕ) (t : List ℕ) (n : ℕ) : Type 0 where
  pub of_data : type_in t ≡ 0 → DataNumber l t n
  pub of_mark : type_in t ≡ 1 → MarkNumber t n
  pub unknown : type_in t ≢ 0 → type_in t ≢ 1 → n ≡ 25

abbrev pub BlockNumber : ℕ → List ℕ → ℕ → ℕ → Type 0
BlockNumber l f at =
    First (length f < at) 23
    (First (at ≡ length f) 0
    (TypeNumber l (drop at f)))
