-- A whole log: its blocks with their places, and how they end.
use Rattle.std.specs.Prelude.{ℕ, zero, suc, ◌+◌, List, [], ◌∷◌, length, Result, Ok, Err}
use Rattle.mlg_rules.specs.Header.{read_header_of}
use Rattle.mlg_rules.specs.Block.{block_len, read_block_of, block_answer}
use Rattle.wire.specs.declared.views.Tally.{Tally}
use Rattle.wire.specs.declared.refusal.Refusal.{Refusal}
use Rattle.wire.specs.Refusals.{code}
use Rattle.mlg_rules.specs.declared.Header.{Header}
use Rattle.mlg_rules.specs.declared.Block.{Block}
use Rattle.mlg_rules.specs.declared.Block.TheVariants.{Data, Mark, End, Refused}

pub record Log : Type 0 where
  pub blocks : List (ℕ × Block)
  -- the end or a refusal, and its place
  pub ending : Block
  pub place : ℕ

-- how many bytes a block takes, where records have l
unfoldable pub length_of : ℕ → Block → ℕ
length_of l (Data c m s r) = block_len l 0
length_of l (Mark c m s k r) = block_len l 1
length_of l End = 0
length_of l (Refused n p) = 0

-- what stands at a place, before what follows it; the end and a refusal end the log
unfoldable pub followed_by : ℕ → Block → Log → Log
followed_by at (Data c m s r) next = record { blocks = (at, Data c m s r) ∷ next.blocks; ending = next.ending; place = next.place }
followed_by at (Mark c m s k r) next = record { blocks = (at, Mark c m s k r) ∷ next.blocks; ending = next.ending; place = next.place }
followed_by at End next = record { blocks = []; ending = End; place = at }
followed_by at (Refused n p) next = record { blocks = []; ending = Refused n p; place = at }

-- what stands from a place on, after n earlier blocks, where there are fewer than k
abbrev pub log_from : ℕ → ℕ → ℕ → List ℕ → ℕ → Log
log_from zero l n f at = record { blocks = []; ending = End; place = at }
log_from (suc k) l n f at = followed_by at (read_block_of l n f at) (log_from k l (n + 1) f (at + length_of l (read_block_of l n f at)))

-- a file has at most as many blocks as bytes
unfoldable pub log_of : ℕ → List ℕ → ℕ → Log
log_of l f at = log_from (suc (length f)) l 0 f at

-- how many blocks stand in a log, and how they ended: 0 at the file's end, else the number that refuses what stands at the place
unfoldable pub tally_of : ℕ → Log → Tally
tally_of l log = record { blocks = length log.blocks; ending = (block_answer l log.ending).number; place = log.place }

-- of a whole file, whose header may be refused
unfoldable pub tally_head : List ℕ → Result Header Refusal → Tally
tally_head f (Ok h) = tally_of h.size (log_of h.size f h.begin)
tally_head f (Err e) = record { blocks = 0; ending = code e; place = 0 }

unfoldable pub count_blocks_of : List ℕ → Tally
count_blocks_of f = tally_head f (read_header_of f)
