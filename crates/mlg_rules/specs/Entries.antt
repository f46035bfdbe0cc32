-- What a log is written from: records and marks with their times.
use Rattle.std.specs.Prelude.{ℕ, zero, suc, ◌+◌, ◌^◌, ◌<◌, ◌≡◌, true, List, [], ◌∷◌, ◌++◌, take, drop}
use Rattle.wire.specs.Text.{text_len}
use Rattle.mlg_rules.specs.Block.{counter_after, time_in, record_in, text_in}
use Rattle.mlg_rules.specs.Writing.{data_bytes, padded_text, mark_bytes, write_data_number, write_mark_number}
use Rattle.mlg_rules.specs.declared.Block.{Block}
use Rattle.mlg_rules.specs.declared.Block.TheVariants.{Data, Mark, End, Refused}

pub data Entry : Type 0 where
  a_record : ℕ → List ℕ → Entry
  a_mark : ℕ → List ℕ → Entry

abbrev pub time_of : Entry → ℕ
time_of (a_record m bytes) = m
time_of (a_mark m text) = m

-- the bytes of their blocks, after n earlier ones "of both kinds"
abbrev pub entries_bytes : ℕ → List Entry → List ℕ
entries_bytes n [] = []
entries_bytes n (a_record m bytes ∷ es) = data_bytes (counter_after n) m bytes ++ entries_bytes (n + 1) es
entries_bytes n (a_mark m text ∷ es) = mark_bytes (counter_after n) m text ++ entries_bytes (n + 1) es

-- entries that no writer refuses where it has room, with records of l bytes and times of 16 bits
abbrev pub entry_number : ℕ → Entry → ℕ
entry_number l (a_record m bytes) = write_data_number l bytes (l + 5)
entry_number l (a_mark m text) = write_mark_number text 54

abbrev pub Writable : ℕ → List Entry → Type 0
Writable l [] = Unit
Writable l (e ∷ es) = (entry_number l e ≡ 0) × (time_of e < 2 ^ 16) × Writable l es

-- what blocks of a file f say
abbrev pub entry_in : ℕ → List ℕ → Block → List Entry
entry_in l f (Data c m s r) = a_record m (take l (drop s f)) ∷ []
entry_in l f (Mark c m s k r) = a_mark m (take k (drop s f)) ∷ []
entry_in l f End = []
entry_in l f (Refused n p) = []

abbrev pub entries_in : ℕ → List ℕ → List (ℕ × Block) → List Entry
entries_in l f [] = []
entries_in l f (b ∷ bs) = entry_in l f b.1 ++ entries_in l f bs

-- "with right counters and zero-padded marks"
abbrev pub AsExpected : Block → Type 0
AsExpected (Data c m s r) = r ≡ true
AsExpected (Mark c m s k r) = r ≡ true
AsExpected End = Unit
AsExpected (Refused n p) = Unit

abbrev pub Padded : List ℕ → Block → Type 0
Padded f (Data c m s r) = Unit
Padded f (Mark c m s k r) = take 50 (drop s f) ≡ padded_text (take k (drop s f))
Padded f End = Unit
Padded f (Refused n p) = Unit

abbrev pub AllAsExpected : List (ℕ × Block) → Type 0
AllAsExpected [] = Unit
AllAsExpected (b ∷ bs) = AsExpected b.1 × AllAsExpected bs

abbrev pub AllPadded : List ℕ → List (ℕ × Block) → Type 0
AllPadded f [] = Unit
AllPadded f (b ∷ bs) = Padded f b.1 × AllPadded f bs

-- the block at the start of t, rewritten from what it says with the counter c and zero padding
unfoldable pub rewritten : ℕ → ℕ → ℕ → List ℕ → List ℕ
rewritten zero l c t = data_bytes c (time_in t) (record_in l t)
rewritten (suc k) l c t = mark_bytes c (time_in t) (take (text_len (text_in t)) (text_in t))

-- its padding
unfoldable pub PaddedHere : ℕ → List ℕ → Type 0
PaddedHere zero t = Unit
PaddedHere (suc k) t = text_in t ≡ padded_text (take (text_len (text_in t)) (text_in t))
