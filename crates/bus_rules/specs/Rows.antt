-- Theorems about identifiers, request bytes and built frames: what is written is read back, what is read is written as it was (of request
-- bytes with the reserved bits 0), and what the rows of an identifier hold.
use Rattle.std.specs.Prelude.{ℕ, ◌+◌, ◌*◌, ◌/◌, ◌%◌, ◌^◌, ◌≤◌, ◌<◌, ◌≡◌, ◌↔◌, List, [], ◌∷◌, map, length, get_or, take, Result, Ok}
use Rattle.bus_rules.specs.Ident.{Parts, rows, part, part_at, parts_of, by_row, sum_of_rows, in_rows, pack_of, unpack_of}
use Rattle.bus_rules.specs.Frames.{Frame, content, frame_with, build_of}
use Rattle.bus_rules.specs.Request.{Request, RequestRead, read_request_of, request_bytes_of}
use Rattle.bus_rules.specs.declared.RequestBytes.{RequestBytes}
use Rattle.wire.specs.declared.refusal.Refusal.{Refusal}

-- what packs into an identifier unpacks from it
abbrev pub UnpackAfterPack : Parts → Result ℕ Refusal → Type 0
UnpackAfterPack p r = (id : ℕ) → r ≡ Ok id → unpack_of id ≡ Ok p

-- what unpacks from an identifier packs into it
abbrev pub PackAfterUnpack : ℕ → Result Parts Refusal → Type 0
PackAfterUnpack id r = (p : Parts) → r ≡ Ok p → pack_of p ≡ Ok id

-- 02, C-15, of an identifier and its parts: "it is the sum of each row's part times 2 to the row's lowest bit, and each row's part is it
-- divided by that, modulo 2 to the row's width"; and how the two rows of the table make it: bit 4, then bits 0-3
pub record RowByRow (id : ℕ) (p : Parts) : Type 0 where
  pub sum : id ≡ sum_of_rows rows (by_row p)
  pub each : by_row p ≡ map (part id) rows
  pub table : p.table ≡ part_at id 1 * 16 + part_at id 2

-- a lawful identifier, one that neither 1 nor 2 refuses: below 2^29, with spare bits 0
abbrev pub IsLawful : ℕ → Type 0
IsLawful id = (id < 2 ^ 29) × (part_at id 0 ≡ 0)

-- "of every lawful identifier" that sentence holds; what pack yields and what unpack accepts are the same set, the lawful identifiers
pub record LawfulIds : Type 0 where
  pub every : (id : ℕ) → IsLawful id → RowByRow id (parts_of id)
  pub yielded : (id : ℕ) → ((p : Parts) × (pack_of p ≡ Ok id)) ↔ IsLawful id
  pub accepted : (id : ℕ) → ((p : Parts) × (unpack_of id ≡ Ok p)) ↔ IsLawful id

-- what is written in request bytes is read from them, and they are clear
abbrev pub ReadAfterWrite : Request → RequestBytes → Type 0
ReadAfterWrite q r = r.number ≡ 0 → (a b c : ℕ) → r.bytes ≡ a ∷ b ∷ c ∷ [] → read_request_of a b c ≡ record { request = q; clear = 1 }

-- request bytes with their reserved bits 0
unfoldable pub cleared : (a b c : ℕ) → List ℕ
cleared a b c = a % 32 ∷ b ∷ (c / 32 * 32 + c % 16) ∷ []

-- 02, C-16: what is read from request bytes, packed. "Packing still writes zeros, so packing after reading returns the same bytes only for
-- clear ones"
pub record WriteAfterRead (a b c : ℕ) (r : RequestRead) : Type 0 where
  pub zeros : request_bytes_of r.request ≡ record { number = 0; bytes = cleared a b c }
  pub same : ((request_bytes_of r.request).bytes ≡ a ∷ b ∷ c ∷ []) ↔ (r.clear ≡ 1)
  -- otherwise it is 0
  pub small : r.clear ≤ 1

-- the frame that is built of parts and bytes: its identifier unpacks to the parts as the rows hold them; of parts that pack it is the
-- frame of their identifier; its bytes are the first eight, then zeros
pub record Built (p : Parts) (bs : List ℕ) (f : Frame) : Type 0 where
  pub unpacks : unpack_of f.id ≡ Ok (in_rows p)
  pub packed : (id : ℕ) → pack_of p ≡ Ok id → f ≡ frame_with id (take 8 bs)
  pub content : content f ≡ take 8 bs
  pub eight : length f.bytes ≡ 8
  pub zeros : (i : ℕ) → f.len ≤ i → get_or f.bytes i 0 ≡ 0

-- all of it, of what the definitions answer; a byte is below 256
pub record RowTheorems : Type 0 where
  pub unpack_after_pack : (p : Parts) → UnpackAfterPack p (pack_of p)
  pub pack_after_unpack : (id : ℕ) → PackAfterUnpack id (unpack_of id)
  pub lawful_ids : LawfulIds
  pub packed_by_row : (p : Parts) (id : ℕ) → pack_of p ≡ Ok id → RowByRow id p
  pub unpacked_by_row : (id : ℕ) (p : Parts) → unpack_of id ≡ Ok p → RowByRow id p
  pub read_after_write : (q : Request) → ReadAfterWrite q (request_bytes_of q)
  pub write_after_read : (a b c : ℕ) → b < 256 → c < 256 → WriteAfterRead a b c (read_request_of a b c)
  pub built : (p : Parts) (bs : List ℕ) → Built p bs (build_of p bs)
