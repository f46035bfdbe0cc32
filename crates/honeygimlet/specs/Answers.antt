-- What the C structs hold: the paper's number and values of each case of an answer; in a refusal every other number is 0, save a block's kind and
-- place.
use Rattle.std.specs.Prelude.{ℕ, Bool, true, false, ℤ, pos, Float, Result, Ok, Err}
use Rattle.wire.specs.declared.refusal.Refusal.{Refusal}
use Rattle.wire.specs.Refusals.{code}
use Rattle.bus_rules.specs.declared.Parts.{Parts}
use Rattle.bus_rules.specs.Ident.{no_parts}
use Rattle.wire.specs.Log.{data_kind, mark_kind, time_kind, end_kind, refused_kind}
use Rattle.mlg_rules.specs.declared.Header.{Header as MlgNumbers}
use Rattle.mlg_rules.specs.declared.Block.{Block as MlgEnum}
use Rattle.mlg_rules.specs.declared.Block.TheVariants as MB
use Rattle.frd_rules.specs.declared.Header.{Header as FrdNumbers}
use Rattle.frd_rules.specs.declared.Block.{Block as FrdEnum}
use Rattle.frd_rules.specs.declared.Block.TheVariants as FB
use Rattle.mlg_rules.specs.Shown.{zero_float}
use Rattle.honeygimlet.specs.declared.Packed.{Packed}
use Rattle.honeygimlet.specs.declared.Unpacked.{Unpacked}
use Rattle.honeygimlet.specs.declared.MlgHeader.{MlgHeader}
use Rattle.honeygimlet.specs.declared.MlgBlock.{MlgBlock}
use Rattle.honeygimlet.specs.declared.FrdHeader.{FrdHeader}
use Rattle.honeygimlet.specs.declared.FrdBlock.{FrdBlock}
use Rattle.honeygimlet.specs.declared.Raw.{Raw}
use Rattle.honeygimlet.specs.declared.Shown.{Shown}

abbrev pub packed_out : Result ℕ Refusal → Packed
packed_out (Ok id) = record { id = id; number = 0 }
packed_out (Err e) = record { id = 0; number = code e }

abbrev pub unpacked_out : Result Parts Refusal → Unpacked
unpacked_out (Ok p) = record { parts = p; number = 0 }
unpacked_out (Err e) = record { parts = no_parts; number = code e }

-- a bool as a number
abbrev pub flag_of : Bool → ℕ
flag_of true = 1
flag_of false = 0

abbrev pub mlg_header : Result MlgNumbers Refusal → MlgHeader
mlg_header (Ok h) =
    record { time = h.time; info = h.info; begin = h.begin; size = h.size; count = h.count; version = h.version; number = 0 }
mlg_header (Err e) = record { time = 0; info = 0; begin = 0; size = 0; count = 0; version = 0; number = code e }

-- no block: the end, or a refusal, which names the block's place
abbrev pub no_mlg_block : (kind number place : ℕ) → MlgBlock
no_mlg_block k n p = record { place = p; start = 0; len = 0; time = 0; number = n; kind = k; counter = 0; as_expected = 0 }

-- a data block or a mark
abbrev pub found_mlg_block : (kind counter time start len : ℕ) → Bool → MlgBlock
found_mlg_block k c m s n r = record { place = 0; start = s; len = n; time = m; number = 0; kind = k; counter = c; as_expected = flag_of r }

-- where records have l bytes
abbrev pub mlg_block : ℕ → MlgEnum → MlgBlock
mlg_block l (MB.Data c m s r) = found_mlg_block data_kind c m s l r
mlg_block l (MB.Mark c m s k r) = found_mlg_block mark_kind c m s k r
mlg_block l MB.End = no_mlg_block end_kind 0 0
mlg_block l (MB.Refused n p) = no_mlg_block refused_kind n p

abbrev pub frd_header : Result FrdNumbers Refusal → FrdHeader
frd_header (Ok h) = record { time = h.time; size = h.size; number = 0 }
frd_header (Err e) = record { time = 0; size = 0; number = code e }

-- no block: the end, or a refusal, which names the block's place
abbrev pub no_frd_block : (kind number place : ℕ) → FrdBlock
no_frd_block k n p = record { place = p; start = 0; len = 0; time = 0; number = n; kind = k; counter = 0; as_expected = 0 }

-- a data block or a time
abbrev pub found_frd_block : (kind counter time start len : ℕ) → Bool → FrdBlock
found_frd_block k c m s n r = record { place = 0; start = s; len = n; time = m; number = 0; kind = k; counter = c; as_expected = flag_of r }

abbrev pub frd_block : ℕ → FrdEnum → FrdBlock
frd_block l (FB.Data c s r) = found_frd_block data_kind c 0 s l r
frd_block l (FB.Time c m r) = found_frd_block time_kind c m 0 0 r
frd_block l FB.End = no_frd_block end_kind 0 0
frd_block l (FB.Refused n p) = no_frd_block refused_kind n p

abbrev pub raw_out : Result ℤ Refusal → Raw
raw_out (Ok z) = record { value = z; number = 0 }
raw_out (Err e) = record { value = pos 0; number = code e }

abbrev pub shown_out : Result Float Refusal → Shown
shown_out (Ok x) = record { value = x; number = 0 }
shown_out (Err e) = record { value = zero_float; number = code e }
