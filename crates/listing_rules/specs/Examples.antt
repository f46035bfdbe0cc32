-- Listings of small logs, as the definition computes them. The first is 01's.
use Rattle.std.specs.Prelude.{ℕ, ◌≡◌, List, [], ◌∷◌, ◌++◌, replicate}
use Rattle.mlg_rules.specs.Header.{no_header}
use Rattle.mlg_rules.specs.Log.{log_from}
use Rattle.mlg_rules.specs.Examples.{log_with, blocks_with}
use Rattle.listing_rules.specs.Text.{ascii}
use Rattle.listing_rules.specs.Listing.{log_lines, list_of, list_number}

-- the lines of blocks, after 254 others, of a log without fields
abbrev pub lines_after254 : List ℕ → List ℕ
lines_after254 blocks = log_lines no_header blocks 254 (log_from 5 0 254 blocks 0)

pub record Examples : Type 0 where
  -- "one U08 field `t` .., then `00 00 00 0A 07 07`. It prints exactly:"
  pub one_record : list_of (log_with 0 (ascii "t") (0 ∷ 0 ∷ 0 ∷ 10 ∷ 7 ∷ 7 ∷ []))
      ≡ ascii "fields 1 record 1\nfield 0 0 t\n0 data 0 10 7\nend 1\n"
  -- "a wrong counter adds ` !`": 3 in place of 1, in the second block; its time is 256
  pub wrong_counter : list_of (log_with 0 (ascii "t") (0 ∷ 0 ∷ 0 ∷ 10 ∷ 7 ∷ 7 ∷ 0 ∷ 3 ∷ 1 ∷ 0 ∷ 200 ∷ 200 ∷ []))
      ≡ ascii "fields 1 record 1\nfield 0 0 t\n0 data 0 10 7\n1 data 3 256 200 !\nend 2\n"
  -- 02, C-12: "In 01 the MLG counter is now modulo 256, for reader, writer and listing"; then the same blocks with counters modulo 255
  pub rolling : lines_after254 (blocks_with 254 255 0 1) ≡ ascii "254 data 254 0\n255 mark 255 0 ok\n256 data 0 0\n257 mark 1 0 ok\nend 258\n"
  pub modulo255 : lines_after254 (blocks_with 254 0 1 2) ≡ ascii "254 data 254 0\n255 mark 0 0 ok !\n256 data 1 0 !\n257 mark 2 0 ok !\nend 258\n"
  -- a negative value of an S08 field
  pub negative_value : list_of (log_with 1 (ascii "t") (0 ∷ 0 ∷ 0 ∷ 10 ∷ 128 ∷ 128 ∷ []))
      ≡ ascii "fields 1 record 1\nfield 0 1 t\n0 data 0 10 -128\nend 1\n"
  -- "bytes outside 32..126 print as `.`": 127 in a name; 31, 32, 126 and 127 in a mark's text, which goes to its zero
  pub unprintable : list_of (log_with 0 (ascii "t" ++ (127 ∷ [])) (1 ∷ 0 ∷ 0 ∷ 10 ∷ 31 ∷ 32 ∷ 126 ∷ 127 ∷ 0 ∷ replicate 45 65))
      ≡ ascii "fields 1 record 1\nfield 0 0 t.\n0 mark 0 10 . ~.\nend 1\n"
  -- "A refusal prints `refused 26 at 113` in its place and ends the list."
  pub wrong_sum : list_of (log_with 0 (ascii "t") (0 ∷ 0 ∷ 0 ∷ 10 ∷ 7 ∷ 8 ∷ 0 ∷ 0 ∷ 0 ∷ 10 ∷ 7 ∷ 7 ∷ []))
      ≡ ascii "fields 1 record 1\nfield 0 0 t\nrefused 26 at 113\n"
  -- a refusal after a block
  pub cut_short : list_of (log_with 0 (ascii "t") (0 ∷ 0 ∷ 0 ∷ 10 ∷ 7 ∷ 7 ∷ 0 ∷ 1 ∷ []))
      ≡ ascii "fields 1 record 1\nfield 0 0 t\n0 data 0 10 7\nrefused 20 at 119\n"
  -- a header's refusal, at 0
  pub no_bytes : list_of [] ≡ ascii "refused 20 at 0\n"
  -- "at most 65,536 bytes .. (longer: it prints `too long`)"
  pub longest_file : list_of (replicate 65536 0) ≡ ascii "refused 21 at 0\n"
  pub too_long : list_of (replicate 65537 0) ≡ ascii "too long\n"
  -- a listing of 16 bytes, and its room
  pub fits : list_number [] 16 ≡ 0
  pub does_not_fit : list_number [] 15 ≡ 27
