-- Packing and unpacking undo each other, on lawful parts and lawful identifiers; what the rows of an identifier hold.
use mathlib.Core.Path.{◌≡◌, refl, sym, ◌∙◌, ap}
use mathlib.Core.List.{map}
use Prim.Native.Nat.{ℕ, ◌+◌, ◌*◌, ◌/◌, ◌%◌, ◌^◌, ◌≤◌, ◌<◌}
use native.Mathlib.Nat.{mul-add-div_right, div-eq_of_lt, mul-add-mod_self_right, mod-eq_of_lt, mod-lt, div-add-mod', div-div-eq-div-mul}
use native.Mathlib.Nat.{add-zero, zero-mul, zero-add, div-one}
use native.Mathlib.Omega.{arith}
use lib.Dec.{lit<, ltb, eqb}
use mathlib.Core.Bool.{not}
use borrow.Author.Tests.{ltb-false, leb-false, eqb-true, not-false}
use Rattle.wire.specs.Order.{◌if◌else◌, ◌or_else◌}
use Rattle.std.proofs.Common.{Ok}
use Rattle.wire.specs.Refusals.{checked}
use Rattle.wire.proofs.RefusalLaws.{answered}
use Rattle.wire.proofs.Orders.{order, if_zero, if_or_else, zero_or_else}
use Rattle.bus_rules.specs.Ident.{Parts, rows, part, part_at, by_row, sum_of_rows, id_of, id_in, in_rows}
use Rattle.bus_rules.specs.Ident.{id_spare, id_table, id_to, id_from, id_kind, id_offset, parts_of}
use Rattle.bus_rules.specs.Ident.{pack_number, pack_of, unpack_number, unpack_of}
use Rattle.bus_rules.specs.Frames.{Frame, head_number}
use Rattle.bus_rules.specs.Rows.{RowByRow, IsLawful, LawfulIds}

-- one row of a sum: above it q, below it r, of weight k and m values wide
row_of_sum : (q v r k m n : ℕ) → r < k → v < m → n ≡ (q * m + v) * k + r → n / k % m ≡ v
row_of_sum q v r k m n hr hv e =
    let hk : 0 < k = omega arith in
    rw (e, mul-add-div_right hk (q * m + v) r, div-eq_of_lt hr, add-zero, mul-add-mod_self_right q m v) (mod-eq_of_lt hv)

-- one row of a number: what lies from its weight k on is the row and what lies above it
row_and_above : (x k m : ℕ) → x / k ≡ x / (k * m) * m + x / k % m
row_and_above x k m = rw (← div-div-eq-div-mul x k m) (sym (div-add-mod' (x / k) m))

pub spare_is : (id : ℕ) → id_spare id ≡ id % 4
unfolding id_spare
spare_is id = rw (div-one id)

-- ── The rows of a sum are its parts ────────────────────────────────────────────────────────────────────────────────

-- the sum, written out
pub id_is : (o k f t b : ℕ) → id_of o k f t b ≡ b / 16 * 4 + b % 16 * 8 + t * 128 + f * 2048 + k * 32768 + o * 262144
unfolding id_in sum_of_rows by_row
id_is o k f t b = omega arith

module _ (o k f t b : ℕ) (ho : o < 2048) (hk : k < 8) (hf : f < 16) (ht : t < 16) (hb : b < 32) where
  pub offset_of_id : id_offset (id_of o k f t b) ≡ o
  unfolding id_offset
  offset_of_id = row_of_sum 0 o (b / 16 * 4 + b % 16 * 8 + t * 128 + f * 2048 + k * 32768) 262144 2048 _ (omega arith) ho (omega (arith, id_is o k f t b))

  pub kind_of_id : id_kind (id_of o k f t b) ≡ k
  unfolding id_kind
  kind_of_id = row_of_sum o k (b / 16 * 4 + b % 16 * 8 + t * 128 + f * 2048) 32768 8 _ (omega arith) hk (omega (arith, id_is o k f t b))

  pub from_of_id : id_from (id_of o k f t b) ≡ f
  unfolding id_from
  from_of_id = row_of_sum (o * 8 + k) f (b / 16 * 4 + b % 16 * 8 + t * 128) 2048 16 _ (omega arith) hf (omega (arith, id_is o k f t b))

  pub to_of_id : id_to (id_of o k f t b) ≡ t
  unfolding id_to
  to_of_id = row_of_sum (o * 128 + k * 16 + f) t (b / 16 * 4 + b % 16 * 8) 128 16 _ (omega arith) ht (omega (arith, id_is o k f t b))

  pub table_of_id : id_table (id_of o k f t b) ≡ b
  unfolding id_table
  table_of_id =
      let n = id_of o k f t b in
      let e = id_is o k f t b in
      let high = row_of_sum (o * 32768 + k * 4096 + f * 256 + t * 16 + b % 16) (b / 16) 0 4 2 n (omega arith) (omega arith) (omega (arith, e)) in
      let low = row_of_sum (o * 2048 + k * 256 + f * 16 + t) (b % 16) (b / 16 * 4) 8 16 n (omega arith) (omega arith) (omega (arith, e)) in
      rw (high, low) (omega arith)

  pub id_small : id_of o k f t b < 2 ^ 29
  id_small = omega (arith, id_is o k f t b)

  pub spare_of_id : id_spare (id_of o k f t b) ≡ 0
  spare_of_id = rw (spare_is (id_of o k f t b)) (omega (arith, id_is o k f t b))

-- parts that the rows hold
pub record Lawful (p : Parts) : Type 0 where
  pub offset : p.offset < 2048
  pub kind : p.kind < 8
  pub from : p.from < 16
  pub to : p.to < 16
  pub table : p.table < 32

pub zero_lawful : (p : Parts) → pack_number p ≡ 0 → Lawful p
unfolding pack_number
zero_lawful p e =
    let h1 = if_zero 4 _ _ e in
    let h2 = if_zero 6 _ _ h1.1 in
    let h3 = if_zero 6 _ _ h2.1 in
    let h4 = if_zero 6 _ _ h3.1 in
    let h5 = if_zero 7 _ _ h4.1 in
    record {
      offset = omega (arith, ltb-false _ p.offset h5.0);
      kind = omega (arith, ltb-false _ p.kind h1.0);
      from = omega (arith, ltb-false _ p.from h2.0);
      to = omega (arith, ltb-false _ p.to h3.0);
      table = omega (arith, ltb-false _ p.table h4.0);
    }

pub lawful_zero : (p : Parts) → Lawful p → pack_number p ≡ 0
unfolding pack_number
lawful_zero p l = let z : 0 ≡ pack_number p = search order depth 20 in sym z

same_parts : {p q : Parts} → p.offset ≡ q.offset → p.kind ≡ q.kind → p.from ≡ q.from → p.to ≡ q.to → p.table ≡ q.table → p ≡ q
same_parts {p} {q} o k f t b = rw (o, k, f, t, b)

module _ (p : Parts) (l : Lawful p) where
  pub parts_of_packed : parts_of (id_in p) ≡ p
  unfolding parts_of
  parts_of_packed =
      rw (
        offset_of_id p.offset p.kind p.from p.to p.table l.offset l.kind l.from l.to l.table,
        kind_of_id p.offset p.kind p.from p.to p.table l.offset l.kind l.from l.to l.table,
        from_of_id p.offset p.kind p.from p.to p.table l.offset l.kind l.from l.to l.table,
        to_of_id p.offset p.kind p.from p.to p.table l.offset l.kind l.from l.to l.table,
        table_of_id p.offset p.kind p.from p.to p.table l.offset l.kind l.from l.to l.table,
      )

  pub packed_small : id_in p < 2 ^ 29
  packed_small = id_small p.offset p.kind p.from p.to p.table l.offset l.kind l.from l.to l.table

  packed_spare : id_spare (id_in p) ≡ 0
  packed_spare = spare_of_id p.offset p.kind p.from p.to p.table l.offset l.kind l.from l.to l.table

  -- parts that the rows hold are as the rows hold them
  pub same_in_rows : in_rows p ≡ p
  unfolding in_rows
  same_in_rows = same_parts (omega (arith, l.offset)) (omega (arith, l.kind)) (omega (arith, l.from)) (omega (arith, l.to)) (omega (arith, l.table))

pub in_rows_lawful : (p : Parts) → Lawful (in_rows p)
unfolding in_rows
in_rows_lawful p = record { offset = omega arith; kind = omega arith; from = omega arith; to = omega arith; table = omega arith }

-- an identifier that neither 1 nor 2 refuses
pub unpack_lawful : (id : ℕ) → unpack_number id ≡ 0 → (id < 2 ^ 29) × (id_spare id ≡ 0)
unfolding unpack_number
unpack_lawful id e =
    let h1 = if_zero 0 _ _ e in
    let h2 = if_zero 1 _ _ h1.1 in
    (omega (arith, leb-false _ id h1.0), eqb-true _ _ (not-false _ h2.0))

pub unpack_zero : (id : ℕ) → id < 2 ^ 29 → id_spare id ≡ 0 → unpack_number id ≡ 0
unfolding unpack_number
unpack_zero id h e = let z : 0 ≡ unpack_number id = search order depth 12 in sym z

-- ── The answers ────────────────────────────────────────────────────────────────────────────────────────────────────

-- unpacking the identifier of lawful parts gives them back
pub unpack_id : (p : Parts) → Lawful p → unpack_of (id_in p) ≡ Ok p
unfolding unpack_of checked
unpack_id p l = rw (unpack_zero (id_in p) (packed_small p l) (packed_spare p l), parts_of_packed p l)

pub unpack_after_pack_lem : (p : Parts) (id : ℕ) → pack_of p ≡ Ok id → unpack_of id ≡ Ok p
unfolding pack_of
unpack_after_pack_lem p id e =
    let h = answered _ _ id e in
    rw (← h.1) (unpack_id p (zero_lawful p h.0))

-- seven rows, each the quotient above it times 2 to its width and its own value, add up
rows_add_up : (n q4 q8 q128 q2048 q32768 q262144 high low to from kind offset : ℕ)
    → n ≡ q4 * 4 → q4 ≡ q8 * 2 + high → q8 ≡ q128 * 16 + low → q128 ≡ q2048 * 16 + to → q2048 ≡ q32768 * 16 + from
    → q32768 ≡ q262144 * 8 + kind → q262144 ≡ offset
    → n ≡ high * 4 + low * 8 + to * 128 + from * 2048 + kind * 32768 + offset * 262144
rows_add_up n q4 q8 q128 q2048 q32768 q262144 high low to from kind offset e0 e1 e2 e3 e4 e5 e6 = omega arith

module _ (id : ℕ) (small : id < 2 ^ 29) (spare : id_spare id ≡ 0) where
  sum_of_parts : id ≡ part_at id 1 * 4 + part_at id 2 * 8 + part_at id 3 * 128 + part_at id 4 * 2048 + part_at id 5 * 32768 + part_at id 6 * 262144
  sum_of_parts =
      let top : id / 536870912 ≡ 0 = div-eq_of_lt small in
      let e0 : id ≡ id / 4 * 4 = sym (div-add-mod' id 4) ∙ rw (sym (spare_is id) ∙ spare, add-zero) in
      let e6 : id / 262144 ≡ id / 262144 % 2048 = row_and_above id 262144 2048 ∙ rw (top, zero-mul, zero-add) in
      rows_add_up id (id / 4) (id / 8) (id / 128) (id / 2048) (id / 32768) (id / 262144)
      (part_at id 1) (part_at id 2) (part_at id 3) (part_at id 4) (part_at id 5) (part_at id 6)
      e0 (row_and_above id 4 2) (row_and_above id 8 16) (row_and_above id 128 16) (row_and_above id 2048 16) (row_and_above id 32768 8) e6

  table_high : id_table id / 16 ≡ part_at id 1
  unfolding id_table
  table_high = omega (arith, mod-lt (id / 8) {m = 16} (lit< tt))

  table_low : id_table id % 16 ≡ part_at id 2
  unfolding id_table
  table_low = omega (arith, mod-lt (id / 8) {m = 16} (lit< tt))

  each_part : by_row (parts_of id) ≡ map (part id) rows
  unfolding by_row parts_of id_to id_from id_kind id_offset id_spare
  each_part = rw (table_high, table_low, ← spare)

  sum_of_rows_lem : id ≡ sum_of_rows rows (by_row (parts_of id))
  unfolding sum_of_rows
  sum_of_rows_lem = rw each_part (omega (arith, sum_of_parts))

  pub row_by_row : RowByRow id (parts_of id)
  unfolding parts_of id_table
  row_by_row = record { sum = sum_of_rows_lem; each = each_part; table = refl }

pub unpacked_by_row_lem : (id : ℕ) (p : Parts) → unpack_of id ≡ Ok p → RowByRow id p
unfolding unpack_of
unpacked_by_row_lem id p e =
    let h = answered _ _ p e in
    let l = unpack_lawful id h.0 in
    rw (← h.1) (row_by_row id l.0 l.1)

pub packed_by_row_lem : (p : Parts) (id : ℕ) → pack_of p ≡ Ok id → RowByRow id p
packed_by_row_lem p id e = unpacked_by_row_lem id p (unpack_after_pack_lem p id e)

pub parts_lawful : (id : ℕ) → Lawful (parts_of id)
unfolding parts_of id_to id_from id_kind id_offset id_table
parts_lawful id = record { offset = omega arith; kind = omega arith; from = omega arith; to = omega arith; table = omega arith }

pub pack_after_unpack_lem : (id : ℕ) (p : Parts) → unpack_of id ≡ Ok p → pack_of p ≡ Ok id
unfolding unpack_of pack_of checked id_in
pack_after_unpack_lem id p e =
    let h = answered (unpack_number id) (parts_of id) p e in
    let l : Lawful p = rw h.1 at (parts_lawful id) in
    rw (lawful_zero p l) (ap (λ (n : ℕ). Ok n) (sym (unpacked_by_row_lem id p e).sum))

-- ── The lawful identifiers ─────────────────────────────────────────────────────────────────────────────────────────

accepted_lawful : (id : ℕ) (p : Parts) → unpack_of id ≡ Ok p → IsLawful id
unfolding unpack_of id_spare
accepted_lawful id p e = unpack_lawful id (answered _ _ p e).0

lawful_accepted : (id : ℕ) → IsLawful id → unpack_of id ≡ Ok (parts_of id)
unfolding unpack_of checked id_spare
lawful_accepted id l = rw (unpack_zero id l.0 l.1)

pub lawful_ids_lem : LawfulIds
unfolding id_spare
lawful_ids_lem = record {
  every = λ id l. row_by_row id l.0 l.1;
  yielded = λ id. (
    λ y. accepted_lawful id y.0 (unpack_after_pack_lem y.0 id y.1),
    λ l. (parts_of id, pack_after_unpack_lem id (parts_of id) (lawful_accepted id l)),
  );
  accepted = λ id. (λ y. accepted_lawful id y.0 y.1, λ l. (parts_of id, lawful_accepted id l));
}

-- 1 and 2, then 3 and 4
pub head_is : (own : ℕ) (f : Frame)
    → head_number own f ≡ (unpack_number f.id or_else (3 if ltb 8 f.len else 4 if not (eqb (id_to f.id) own) else 0))
unfolding head_number unpack_number
head_is own f = rw (if_or_else, if_or_else, zero_or_else)

-- ── Sizes of the parts of any number ───────────────────────────────────────────────────────────────────────────────

pub table_small : (id : ℕ) → id_table id ≤ 31
unfolding id_table
table_small id = omega arith

pub from_small : (id : ℕ) → id_from id ≤ 15
unfolding id_from
from_small id = omega arith

-- ── The parts of a number, one by one ──────────────────────────────────────────────────────────────────────────────

pub record AreParts (id : ℕ) (p : Parts) : Type 0 where
  pub offset : p.offset ≡ id_offset id
  pub kind : p.kind ≡ id_kind id
  pub from : p.from ≡ id_from id
  pub to : p.to ≡ id_to id
  pub table : p.table ≡ id_table id

pub are_parts : (id : ℕ) (p : Parts) → p ≡ parts_of id → AreParts id p
unfolding parts_of
are_parts id p e = rw e (record { offset = refl; kind = refl; from = refl; to = refl; table = refl })
