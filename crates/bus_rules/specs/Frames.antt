-- 01 "Identifier and frame": a frame is an identifier, a length 0..8 and eight bytes.
use Rattle.std.specs.Prelude.{ℕ, ◌^◌, not, List, ◌++◌, leb, ltb, eqb, length, take, replicate, Result}
use Rattle.wire.specs.Order.{◌if◌else◌}
use Rattle.wire.specs.declared.refusal.Refusal.{Refusal}
use Rattle.wire.specs.Refusals.{checked}
use Rattle.bus_rules.specs.Ident.{Parts, id_spare, id_to, parts_of, id_in, in_rows}
pub use Rattle.bus_rules.specs.declared.Frame.{Frame}

-- the types: 0 CMD, 1 REQ, 2 RSP, 7 XTND; 02, C-11: 4 BURN
abbrev pub cmd : ℕ
cmd = 0

abbrev pub req : ℕ
req = 1

abbrev pub rsp : ℕ
rsp = 2

abbrev pub burn : ℕ
burn = 4

abbrev pub xtnd : ℕ
xtnd = 7

-- input bytes past the length are ignored: the bytes of a frame that count
unfoldable pub content : Frame → List ℕ
content f = take f.len f.bytes

-- output bytes past the length are 0: the bytes given, then zeros
unfoldable pub padded : List ℕ → List ℕ
padded bs = take 8 (bs ++ replicate 8 0)

-- the frame of these bytes, at most eight
unfoldable pub frame_with : ℕ → List ℕ → Frame
frame_with id bs = record { id = id; len = length bs; bytes = padded bs }

-- the frame of these parts, as the rows hold them, and of the first eight bytes: a frame for any parts and bytes
unfoldable pub build_of : Parts → List ℕ → Frame
build_of p bs = frame_with (id_in (in_rows p)) (take 8 bs)

-- no frame: all numbers are 0
unfoldable pub no_frame : Frame
no_frame = record { id = 0; len = 0; bytes = replicate 8 0 }

-- what every receiver of an own number 0..15 looks at first. 1: identifier 2^29 or more; 2: spare bits set; 3: frame length over 8; 4: to another device
unfoldable pub head_number : ℕ → Frame → ℕ
head_number own f =
    1 if leb (2 ^ 29) f.id
    else 2 if not (eqb (id_spare f.id) 0)
    else 3 if ltb 8 f.len
    else 4 if not (eqb (id_to f.id) own)
    else 0

-- 11: own number unsound; then 1, 2, 3, 4
unfoldable pub receive_number : ℕ → Frame → ℕ
receive_number own f = 11 if ltb 15 own else head_number own f

-- the parts of a frame's identifier, unless a receiver of this own number refuses it
unfoldable pub read_head_of : ℕ → Frame → Result Parts Refusal
read_head_of own f = checked (receive_number own f) (parts_of f.id)
