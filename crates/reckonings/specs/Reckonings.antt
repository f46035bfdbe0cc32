-- 01, "Reckonings": the cases marked *, in 01's order, as one table under one statement. A row is a question and 01's answer to it, as 02
-- changes it; what the layers' own definitions answer is `compute`.
use Rattle.std.specs.Prelude.{ℕ, ◌≡◌, List, [], ◌∷◌, ◌++◌, map, ℤ, pos, negsuc, length, replicate, Float, Result, Ok, Err}
use Rattle.std.proofs.Math.Option.{some}
use Rattle.std.specs.Float.{binary32}
use Rattle.std.specs.Float.Ieee.{of_int, div, to_bits}
use Rattle.bus_rules.specs.Ident.{pack_of, unpack_of}
use Rattle.bus_rules.specs.Frames.{cmd, req, xtnd, frame_with}
use Rattle.bus_rules.specs.Request.{read_request_of}
use Rattle.bus_rules.specs.Device.{device, none_current}
use Rattle.bus_rules.specs.Holder.{serve_of, answer_with}
use Rattle.bus_rules.specs.declared.Frame.{Frame}
use Rattle.bus_rules.specs.declared.Parts.{Parts}
use Rattle.bus_rules.specs.declared.Directory.{Directory}
use Rattle.bus_rules.specs.declared.Served.{Served}
use Rattle.bus_rules.specs.declared.RequestRead.{RequestRead}
use Rattle.bridge_rules.specs.Answers as N
use Rattle.bridge_rules.specs.Opening as O
use Rattle.bridge_rules.specs.Call as B
use Rattle.bridge_rules.specs.Run.{answer_to}
use Rattle.bridge_rules.specs.Demand3.{run_of}
use Rattle.mlg_rules.specs.Block.{sum_in}
use Rattle.mlg_rules.specs.Writing.{data_bytes}
use Rattle.wire.specs.BigEndian.{be_bytes}
use Rattle.wire.specs.declared.refusal.Refusal.{Refusal}
use Rattle.wire.specs.declared.refusal.Refusal.TheVariants as R
use Rattle.mlg_rules.specs.Types.{U08, S08, S16}
use Rattle.mlg_rules.specs.Raw.{raw_value_of}
use Rattle.mlg_rules.specs.Shown.{shown_value_of}

-- ── Questions and answers ──────────────────────────────────────────────────────────────────────────────────────────

pub data Question : Type 0 where
  -- the identifier of these parts
  identifier : (offset kind from to table : ℕ) → Question
  -- the parts of an identifier
  parts : (id : ℕ) → Question
  -- what three request bytes ask for, and whether their reserved bits are clear
  request : (a b c : ℕ) → Question
  -- what device 0, whose table 7 has these bytes, answers to a frame
  reply : (bytes : List ℕ) → Frame → Question
  -- what a turn answers, after these calls from the fresh bridge of an own number
  turn : (own : ℕ) → List B.Call → Question
  -- the sum in the data block of a record, whose counter is 7 and time 770
  sum : (bytes : List ℕ) → Question
  -- the raw value of a field of a type
  raw : (type : ℕ) → (bytes : List ℕ) → Question
  -- its shown value, with the bits of its scale and its transform
  shown : (type scale transform : ℕ) → (bytes : List ℕ) → Question

pub data Answer : Type 0 where
  packed : Result ℕ Refusal → Answer
  unpacked : Result Parts Refusal → Answer
  asked : RequestRead → Answer
  served : Served → Answer
  turned : N.Answer → Answer
  summed : ℕ → Answer
  raw_value : Result ℤ Refusal → Answer
  shown_value : Result Float Refusal → Answer

-- ── What the definitions answer ────────────────────────────────────────────────────────────────────────────────────

-- device 0: table 7 has n bytes, to be read
unfoldable pub directory : ℕ → Directory
directory n = record {
  sizes = replicate 7 0 ++ n ∷ replicate 24 0;
  rights = replicate 7 0 ++ 1 ∷ replicate 24 0;
  table_blocking = 0;
  write_blocking = 0;
  own = 0;
}

-- a scalar field, by its type and the bits of its scale and its transform; all else 0
unfoldable pub scalar : (type scale transform : ℕ) → List ℕ
scalar t s m = t ∷ replicate 45 0 ++ be_bytes 4 s ++ be_bytes 4 m ++ replicate 35 0

unfoldable pub compute : Question → Answer
compute (identifier o k f t n) = packed (pack_of (record { offset = o; kind = k; from = f; to = t; table = n }))
compute (parts id) = unpacked (unpack_of id)
compute (request a b c) = asked (read_request_of a b c)
compute (reply m f) = served (serve_of (device (directory (length m)) (none_current 3) m (replicate (length m) 0)) f)
compute (turn own cs) = turned (answer_to (run_of own (N.both (replicate 512 0) (replicate 512 0)) cs) (length cs) (B.turn B.its_own))
compute (sum bs) = summed (sum_in (length bs) (data_bytes 7 770 bs))
compute (raw t bs) = raw_value (raw_value_of 2 (scalar t 0 0) bs)
compute (shown t s m bs) = shown_value (shown_value_of 2 (scalar t s m) bs)

-- ── The table ──────────────────────────────────────────────────────────────────────────────────────────────────────

-- the bits of an f32, p divided by q
unfoldable pub f32 : ℤ → ℤ → ℕ
f32 p q = to_bits binary32 (div binary32 (of_int binary32 p) (of_int binary32 q))

-- a shown value that is a whole number
abbrev pub whole : ℤ → Answer
whole z = shown_value (Ok (of_int binary32 z))

-- a turn's answer that yields a frame
abbrev pub sends : Frame → Answer
sends f = turned (record { number = 0; ticket = 0; sent = some f; shown = [] })

-- bridge 0 reads 10 bytes, device 5, table 7, offset 6
abbrev pub read : B.Call
read = B.opening B.its_own (O.read 5 7 6 10)

unfoldable pub table : List (Question × Answer)
table =
    -- "offset 6, REQ, from 5 to 0, table 7: 0x18A838."
    (identifier 6 req 5 0 7, packed (Ok 0x18A838))
    -- "Table 20 alone: 0x24."
    ∷ (identifier 0 cmd 0 0 20, packed (Ok 0x24))
    -- "0x1FFFFFFC unpacks;"
    ∷ (parts 0x1FFFFFFC, unpacked (Ok (record { offset = 2047; kind = xtnd; from = 15; to = 15; table = 31 })))
    -- "0x1FFFFFFD is 2;"
    ∷ (parts 0x1FFFFFFD, unpacked (Err R.SpareBits))
    -- "0x20000000 is 1."
    ∷ (parts 0x20000000, unpacked (Err R.HighIdentifier))
    -- "`06 10 02` asks two bytes to table 6, offset 128;"
    ∷ (request 0x06 0x10 0x02, asked (record { request = record { table = 6; offset = 128; count = 2 }; clear = 1 }))
    -- "bytes 0B B8 come back under 0x20102B0." The request's identifier is that of the first row
    ∷ (reply (0 ∷ 0 ∷ 0 ∷ 0 ∷ 0 ∷ 0 ∷ 0x0B ∷ 0xB8 ∷ []) (frame_with 0x18A838 (0x06 ∷ 0x10 ∷ 0x02 ∷ [])), served (answer_with 1 (frame_with 0x20102B0 (0x0B ∷ 0xB8 ∷ []))))
    -- "`06 10 12` is 6." 02, C-16: it "is now a request for two bytes", to table 6, offset 128, not clear
    ∷ (request 0x06 0x10 0x12, asked (record { request = record { table = 6; offset = 128; count = 2 }; clear = 0 }))
    -- "`1F FF E8`: table 31, offset 2,047, count 8."
    ∷ (request 0x1F 0xFF 0xE8, asked (record { request = record { table = 31; offset = 2047; count = 8 }; clear = 1 }))
    -- "Bridge 0 reads 10 bytes, device 5, table 7, offset 6: first 0x1882B8 `06 00 08`;"
    ∷ (turn 0 (read ∷ []), sends (frame_with 0x1882B8 (0x06 ∷ 0x00 ∷ 0x08 ∷ [])))
    -- "after reply 0x12830, 0x3882B8 `06 01 02`."
    ∷ (turn 0 (read ∷ B.turn B.its_own ∷ B.frame B.its_own (frame_with 0x12830 (1 ∷ 2 ∷ 3 ∷ 4 ∷ 5 ∷ 6 ∷ 7 ∷ 8 ∷ [])) ∷ []), sends (frame_with 0x3882B8 (0x06 ∷ 0x01 ∷ 0x02 ∷ [])))
    -- "record `FF 02`: sum 1."
    ∷ (sum (0xFF ∷ 0x02 ∷ []), summed 1)
    -- "0x80 in an S08 field reads -128."
    ∷ (raw S08 (0x80 ∷ []), raw_value (Ok (negsuc 127)))
    -- "S16 FF38 reads -200;"
    ∷ (raw S16 (0xFF ∷ 0x38 ∷ []), raw_value (Ok (negsuc 199)))
    -- "scale 0.5, transform 0 shows -100."
    ∷ (shown S16 (f32 (pos 1) (pos 2)) (f32 (pos 0) (pos 1)) (0xFF ∷ 0x38 ∷ []), whole (negsuc 99))
    -- "U08 10, transform 5, scale 2 shows 30."
    ∷ (shown U08 (f32 (pos 2) (pos 1)) (f32 (pos 5) (pos 1)) (10 ∷ []), whole (pos 30))
    ∷ []

-- the definitions answer each question as the papers do
abbrev pub Reckonings : Type 0
Reckonings = map (λ (r : Question × Answer). compute r.0) table ≡ map (λ (r : Question × Answer). r.1) table
