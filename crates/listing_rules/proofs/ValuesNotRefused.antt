-- Raw values of a file's records are not refused, where its header is not.
use Prim.Native.Nat.{ℕ, zero, suc, ◌*◌, ◌≤◌}
use mathlib.Core.Path.{◌≡◌, sym, ◌∙◌}
use mathlib.Core.List.{List}
use native.Mathlib.Omega.{arith}
use native.Mathlib.Nat.{mul-suc}
use lib.ListN.{length, take, drop, length-drop}
use lib.Seq.{length-take-le}
use Rattle.wire.proofs.Orders.{order, if_zero, else_zero}
use Rattle.mlg_rules.specs.Layout.{layout_of, field_len}
use Rattle.mlg_rules.specs.Field.{field_size, type_of, bits_of, type_number}
use Rattle.mlg_rules.specs.Raw.{value_field_number, value_number}
use Rattle.mlg_rules.specs.Fields.{field_number, fields_number, sizes}
use Rattle.mlg_rules.specs.Header.{last_number, body_number, fields_from, read_header_number, read_header_of}
use Rattle.mlg_rules.specs.declared.Header.{Header}
use Rattle.std.proofs.Common.{Ok}
use Rattle.listing_rules.specs.BlockInFile.{ValuesNotRefused}
use Rattle.listing_rules.proofs.RawValues.{equal}
use Rattle.listing_rules.proofs.FieldsInFile.{header_is, fields_in}

-- one field's value
value_not_refused : (d b : List ℕ) → length d ≡ field_len 2 → type_number (type_of d) (bits_of d) ≡ 0 → length b ≡ field_size d → value_number 2 d b ≡ 0
unfolding value_number value_field_number
value_not_refused d b l t s = sym (search order depth 12)

-- all fields' values
values_not_refused : (v base : ℕ) (area : List ℕ) (n : ℕ) (t b : List ℕ) → field_len v * n ≤ length t → fields_number v base area n t ≡ 0
    → sizes v n t ≡ length b → ValuesNotRefused v n t b
unfolding field_number layout_of
values_not_refused v base area zero t b h k s = tt
values_not_refused v base area (suc n) t b h k s =
    let z = else_zero _ _ k in
    let l : length (take 89 t) ≡ 89 = length-take-le 89 t (omega (arith, mul-suc 89 n)) in
    let r : length (take (field_size (take 89 t)) b) ≡ field_size (take 89 t) = length-take-le (field_size (take 89 t)) b (omega arith) in
    let i : 89 * n ≤ length (drop 89 t) = simp length-drop (omega (arith, mul-suc 89 n)) in
    let m : sizes v n (drop 89 t) ≡ length (drop (field_size (take 89 t)) b) = simp length-drop (omega arith) in
    (value_not_refused _ _ l (else_zero _ _ z.0).0 r, values_not_refused v base area n (drop 89 t) (drop (field_size (take 89 t)) b) i z.1 m)

pub record_not_refused : (f : List ℕ) (h : Header) (b : List ℕ) → read_header_of f ≡ Ok h → length b ≡ h.size
    → ValuesNotRefused h.version h.count (fields_from f h) b
unfolding read_header_number body_number last_number
record_not_refused f h b e l =
    let s = header_is f h e in
    let y = (else_zero _ _ (else_zero _ _ (rw s.1 at s.0)).1).1 in
    let k = else_zero _ _ y in
    let i : field_len h.version * h.count ≤ length (fields_from f h) = simp length-drop (omega (arith, fields_in f h e)) in
    values_not_refused h.version _ _ h.count (fields_from f h) b i k.0 (equal _ _ (if_zero 22 _ _ k.1).0 ∙ sym l)
