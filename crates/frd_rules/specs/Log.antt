-- What a whole log says: its blocks with their places, and how they ended. Below, l is the output length, n the number of earlier blocks, f a file
-- and at a place in it.
use Rattle.std.specs.Prelude.{ℕ, zero, suc, ◌+◌, List, [], ◌∷◌, length, Result, Ok, Err}
use Rattle.wire.specs.Refusals.{code}
use Rattle.wire.specs.declared.refusal.Refusal.{Refusal}
use Rattle.wire.specs.declared.views.Tally.{Tally}
use Rattle.frd_rules.specs.Header.{read_header_of}
use Rattle.frd_rules.specs.Block.{read_block_of, length_of}
use Rattle.frd_rules.specs.declared.Header.{Header}
use Rattle.frd_rules.specs.declared.Block.{Block}
use Rattle.frd_rules.specs.declared.Block.TheVariants.{Data, Time, End, Refused}

-- a block and its place
pub record Placed : Type 0 where
  pub place : ℕ
  pub block : Block

-- the blocks, the place after them, and how they ended: 0 at the file's end, else the number that refuses what stands at that place
pub record Log : Type 0 where
  pub blocks : List Placed
  pub ending : ℕ
  pub place : ℕ

abbrev pub ended : ℕ → ℕ → Log
ended m at = record { blocks = []; ending = m; place = at }

abbrev pub more : ℕ → Block → Log → Log
more at b g = record { blocks = record { place = at; block = b } ∷ g.blocks; ending = g.ending; place = g.place }

-- data and times are followed by the rest of the log; the end and a refusal end it
unfoldable pub followed_by : ℕ → Block → Log → Log
followed_by at (Data c s e) g = more at (Data c s e) g
followed_by at (Time c m e) g = more at (Time c m e) g
followed_by at End g = ended 0 at
followed_by at (Refused m p) g = ended m at

-- the first k blocks from a place on, after n blocks, where there are that many
unfoldable pub log_from : (k l n : ℕ) → List ℕ → ℕ → Log
log_from zero l n f at = ended 0 at
log_from (suc k) l n f at = followed_by at (read_block_of l n f at) (log_from k l (n + 1) f (at + length_of l (read_block_of l n f at)))

-- all of them: a block takes two bytes at least, so there are fewer than bytes
unfoldable pub log_of : ℕ → List ℕ → ℕ → Log
log_of l f at = log_from (suc (length f)) l 0 f at

-- how many blocks there are, and how they ended
abbrev pub tally_of : Log → Tally
tally_of g = record { blocks = length g.blocks; ending = g.ending; place = g.place }

-- of a whole file: from data begin on; a refused header gives no blocks, its number, and place 0
unfoldable pub tally_head : List ℕ → Result Header Refusal → Tally
tally_head f (Ok h) = tally_of (log_of h.size f h.begin)
tally_head f (Err e) = record { blocks = 0; ending = code e; place = 0 }

unfoldable pub count_blocks_of : List ℕ → Tally
count_blocks_of f = tally_head f (read_header_of f)
