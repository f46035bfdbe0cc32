-- What private functions rely on, which no promise of a public call rests on: a block's parts lie within the file, and its raw
-- values are not refused.
use Rattle.std.specs.Prelude.{ℕ, zero, suc, ◌+◌, ◌≤◌, ◌≡◌, List, length, take, drop}
use Rattle.mlg_rules.specs.Layout.{header_len, field_len}
use Rattle.mlg_rules.specs.Field.{field_size}
use Rattle.mlg_rules.specs.Raw.{value_number}
use Rattle.mlg_rules.specs.Header.{fields_from}
use Rattle.mlg_rules.specs.declared.Header.{Header}
use Rattle.mlg_rules.specs.declared.Block.{Block}
use Rattle.mlg_rules.specs.declared.Block.TheVariants.{Data, Mark, End, Refused}

-- the raw values of n fields, whose bytes begin t and whose raw bytes begin b
abbrev pub ValuesNotRefused : ℕ → ℕ → List ℕ → List ℕ → Type 0
ValuesNotRefused v zero t b = Unit
ValuesNotRefused v (suc n) t b =
    (value_number 2 (take (field_len v) t) (take (field_size (take (field_len v) t)) b) ≡ 0)
    × ValuesNotRefused v n (drop (field_len v) t) (drop (field_size (take (field_len v) t)) b)

abbrev pub BlockInFile : Header → List ℕ → Block → Type 0
BlockInFile h f (Data c m s r) =
    (header_len h.version ≤ length f) × (s + h.size ≤ length f)
    × ValuesNotRefused h.version h.count (fields_from f h) (take h.size (drop s f))
BlockInFile h f (Mark c m s k r) = (s + k ≤ length f) × (k ≤ 50)
BlockInFile h f End = Unit
BlockInFile h f (Refused x place) = Unit
