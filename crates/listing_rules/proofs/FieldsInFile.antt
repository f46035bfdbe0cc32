-- Where the fields and the blocks of a file lie, whose header is not refused.
use Prim.Native.Nat.{ℕ, ◌+◌, ◌-◌, ◌*◌, ◌≤◌}
use mathlib.Core.Path.{◌≡◌}
use mathlib.Core.List.{List}
use native.Mathlib.Omega.{arith}
use lib.ListN.{length, take, drop, length-take, length-drop}
use Rattle.wire.proofs.RefusalLaws.{answered}
use Rattle.mlg_rules.specs.Layout.{layout_of, header_len, field_len}
use Rattle.mlg_rules.specs.Header.{numbers_of, fields_end, read_header_number, read_header_of}
use Rattle.mlg_rules.specs.declared.Header.{Header}
use Rattle.std.proofs.Common.{Ok}
use Rattle.mlg_rules.proofs.HeaderLaws.{Placed}
use Rattle.mlg_rules.proofs.SpanLaws.{placed_in}

pub header_is : (f : List ℕ) (h : Header) → read_header_of f ≡ Ok h → (read_header_number f ≡ 0) × (numbers_of f ≡ h)
unfolding read_header_of
header_is f h e = answered (read_header_number f) (numbers_of f) h e

pub header_placed : (f : List ℕ) (h : Header) → read_header_of f ≡ Ok h → Placed (length f) h
header_placed f h e = let s = header_is f h e in rw s.1 at (placed_in f s.0)

-- the header and the fields lie in the file
pub fields_in : (f : List ℕ) (h : Header) → read_header_of f ≡ Ok h → header_len h.version + field_len h.version * h.count ≤ length f
unfolding fields_end
fields_in f h e = (header_placed f h e).fields

-- the blocks begin in the file, after the fields
pub begin_in : (f : List ℕ) (h : Header) → read_header_of f ≡ Ok h → h.begin ≤ length f
begin_in f h e = (header_placed f h e).data_begins

pub begin_after : (f : List ℕ) (h : Header) → read_header_of f ≡ Ok h → 24 + 89 * h.count ≤ h.begin
unfolding fields_end layout_of
begin_after f h e = (header_placed f h e).after_fields

pub fields_after : (f : List ℕ) (h : Header) (at : ℕ) → read_header_of f ≡ Ok h → at ≡ header_len h.version
    → field_len h.version * h.count ≤ length (take (length f - at) (drop at f))
fields_after f h at e k = simp (length-take, length-drop) (omega (arith, fields_in f h e))
