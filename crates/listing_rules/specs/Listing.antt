-- The listing of a file. 01: "The program `loglist` reads an MLG of at most 65,536 bytes from standard input (longer: it prints `too long`)."
use Rattle.std.specs.Prelude.{ℕ, ◌+◌, ◌≤◌, ◌<◌, ◌≡◌, cond, List, ◌++◌, ltb, length, Result, Ok, Err}
use Rattle.wire.specs.Order.{◌if◌else◌}
use Rattle.mlg_rules.specs.Header.{read_header_of, fields_from, no_header}
use Rattle.mlg_rules.specs.Log.{Log, log_of}
use Rattle.mlg_rules.specs.declared.Header.{Header}
use Rattle.wire.specs.Refusals.{code}
use Rattle.wire.specs.declared.refusal.Refusal.{Refusal}
use Rattle.mlg_rules.specs.declared.Block.TheVariants as block
use Rattle.listing_rules.specs.Text.{ascii}
use Rattle.listing_rules.specs.Lines.{header_line, field_lines, block_line, block_lines, too_long}

-- the blocks of a log after n earlier ones, one by one, then what ends it: the end or a refusal
unfoldable pub log_lines : Header → List ℕ → ℕ → Log → List ℕ
log_lines h f n log = block_lines h f n log.blocks ++ block_line h f (n + length log.blocks) log.ending

-- a header's line, its fields' and its log's
unfoldable pub headed_lines : Header → List ℕ → List ℕ
headed_lines h f =
    header_line h
    ++ field_lines h.version 0 h.count (fields_from f h)
    ++ log_lines h f 0 (log_of h.size f h.begin)

-- what a whole file lists; a header's refusal stands at place 0, alone
unfoldable pub head_lines : List ℕ → Result Header Refusal → List ℕ
head_lines f (Ok h) = headed_lines h f
head_lines f (Err e) = block_line no_header f 0 (block.Refused (code e) 0)

unfoldable pub list_of : List ℕ → List ℕ
list_of f = cond (ltb 65536 (length f)) too_long (head_lines f (read_header_of f))

-- a listing that does not fit its output is 27
unfoldable pub list_number : List ℕ → ℕ → ℕ
list_number f room = 27 if ltb room (length (list_of f)) else 0

-- "an MLG of at most 65,536 bytes .. (longer: it prints `too long`)"
unfoldable pub LongInput : Type 0
LongInput = (f : List ℕ) → (65536 < length f → list_of f ≡ ascii "too long\n") × (length f ≤ 65536 → list_of f ≡ head_lines f (read_header_of f))
