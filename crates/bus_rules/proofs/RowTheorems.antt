-- Packing and unpacking undo each other; what request bytes read and write; what the rows of an identifier hold; what a built frame is.
use Prim.Native.Nat.{ℕ, ◌≤◌}
use mathlib.Core.Path.{◌≡◌, ◌∙◌, ap}
use mathlib.Core.List.{List}
use lib.ListN.{length, take}
use lib.Seq.{take_all}
use Rattle.wire.proofs.Parts.{take_length_le}
use Rattle.bus_rules.specs.Ident.{Parts, id_in, pack_of}
use Rattle.bus_rules.specs.Frames.{frame_with, build_of}
use Rattle.bus_rules.specs.Rows.{Built, RowTheorems}
use Rattle.bus_rules.proofs.IdentLaws.{unpack_after_pack_lem, pack_after_unpack_lem, lawful_ids_lem, packed_by_row_lem, unpacked_by_row_lem}
use Rattle.wire.proofs.RefusalLaws.{answered}
use Rattle.bus_rules.proofs.IdentLaws.{Lawful, zero_lawful, unpack_id, in_rows_lawful, same_in_rows}
use Rattle.bus_rules.proofs.RequestLaws.{read_after_write_lem, write_after_read_lem}
use Rattle.bus_rules.proofs.FrameLaws.{content_of_frame, padded_length, padded_after}

built : (p : Parts) (bs : List ℕ) → Built p bs (build_of p bs)
unfolding build_of frame_with pack_of
built p bs = record {
  unpacks = unpack_id _ (in_rows_lawful p);
  packed = λ id e.
      let h = answered _ _ id e in
      ap (λ (i : ℕ). frame_with i (take 8 bs)) (ap id_in (same_in_rows p (zero_lawful p h.0)) ∙ h.1);
  content = content_of_frame _ (take 8 bs) (take_length_le 8 bs);
  eight = padded_length _ (take_length_le 8 bs);
  zeros = padded_after _ (take_length_le 8 bs);
}

pub row_theorems : RowTheorems
row_theorems = record {
  unpack_after_pack = unpack_after_pack_lem;
  pack_after_unpack = pack_after_unpack_lem;
  lawful_ids = lawful_ids_lem;
  packed_by_row = packed_by_row_lem;
  unpacked_by_row = unpacked_by_row_lem;
  read_after_write = read_after_write_lem;
  write_after_read = write_after_read_lem;
  built = built;
}

-- a frame that is built of parts in their rows' ranges, and of at most eight bytes
pub build_lawful : (p : Parts) (bs : List ℕ) → Lawful p → length bs ≤ 8 → build_of p bs ≡ frame_with (id_in p) bs
unfolding build_of
build_lawful p bs l h = rw (same_in_rows p l, take_all 8 bs h)
