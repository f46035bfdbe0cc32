-- A header that was written, followed by any bytes, reads back as given.
use Prim.Native.Nat.{ℕ, ◌+◌, ◌*◌, ◌-◌, ◌%◌, ◌^◌, ◌≤◌, ◌<◌}
use mathlib.Core.Path.{◌≡◌, refl, sym, ap, ◌∙◌}
use mathlib.Core.Bool.{Bool, true, false}
use mathlib.Core.List.{List, [], ◌∷◌, ◌++◌, append_assoc}
use native.Mathlib.Omega.{arith}
use borrow.Author.Tests.{le-ltb, lt-leb, eq-eqb, ne_eqb}
use lib.Dec.{eqb}
use lib.ListN.{length, take, drop, length-append}
use lib.Seq.{take_at, drop_at, drop-drop}
use Rattle.wire.specs.Order.{◌if◌else◌}
use Rattle.wire.specs.Text.{text_len}
use Rattle.wire.specs.Log.{Holds}
use Rattle.wire.proofs.Numbers.{be_back}
use Rattle.wire.proofs.RefusalLaws.{stands}
use Rattle.wire.proofs.Orders.{if_yes, if_no, not_no, else_none}
use Rattle.wire.proofs.Parts.{part_append}
use Rattle.wire.proofs.Texts.{text_back, text_most}
use Rattle.mlg_rules.specs.Layout.{served, layout_of, header_len, field_len}
use Rattle.mlg_rules.specs.Area.{ended, area_of}
use Rattle.mlg_rules.specs.Header.{numbers_of, fields_end, name_number, places_number, last_number, body_number, area_in, read_header_number, read_header_of}
use Rattle.mlg_rules.specs.Writing.{number_bytes, header_for, header_bytes}
use Rattle.mlg_rules.specs.Parts.{names_end, info_length, fields_span_of, field_span_of, names_span_of, info_span_of}
use Rattle.mlg_rules.specs.RoundTrip.{HeaderBack}
use Rattle.mlg_rules.specs.declared.Header.{Header}
use Rattle.std.specs.Prelude.{Ok}
use Rattle.mlg_rules.proofs.AreaLaws.{area_length, ended_some}
use Rattle.mlg_rules.proofs.EachField.{fields_alone, sizes_alone}
use Rattle.mlg_rules.proofs.Fits.{Fit, fit, fields_end_lem}
use Rattle.mlg_rules.proofs.HeaderBytes.{first_length, number_length, header_length, header_fits, start_most}
use Rattle.mlg_rules.proofs.LayoutLaws.{header_two, whole_fields_fit}
use Rattle.mlg_rules.proofs.SpanLaws.{held}

-- numbers that fit their places
record Widths (h : Header) : Type 0 where
  version : h.version ≡ 2
  time : h.time < 256 ^ 4
  info : h.info < 256 ^ 4
  begin : h.begin < 256 ^ 4
  size : h.size < 256 ^ 2
  count : h.count < 256 ^ 2

-- the numbers
numbers_in : (h : Header) (r : List ℕ) → Widths h → numbers_of (number_bytes h ++ r) ≡ h
unfolding number_bytes numbers_of layout_of
numbers_in h r w =
    let v = be_back 2 h.version (omega (arith, w.version)) in
    let t = be_back 4 h.time w.time in
    let i = be_back 4 h.info w.info in
    let b = be_back 4 h.begin w.begin in
    let s = be_back 2 h.size w.size in
    let n = be_back 2 h.count w.count in
    rw (v, t, i, b, s, n)

-- the name and the version
name_in : (h : Header) (r : List ℕ) → h.version ≡ 2 → 0 ≡ name_number (number_bytes h ++ r)
unfolding name_number number_bytes served layout_of
name_in h r e =
    let k : 24 ≤ length (number_bytes h ++ r) = omega (arith, length-append (number_bytes h) r, number_length h) in
    let v = be_back 2 h.version (omega (arith, e)) ∙ e in
    if_no 20 _ _ 0 (le-ltb (length (number_bytes h ++ r)) 24 k)
    (if_no 21 _ _ 0 (not_no _ refl) (if_no 22 _ _ 0 (not_no _ (eq-eqb _ _ v)) refl))

-- what follows the fields does not matter to their checks
pub body_alone : (h : Header) (t r a : List ℕ) → field_len h.version * h.count ≤ length t → body_number h (t ++ r) a ≡ body_number h t a
unfolding body_number last_number
body_alone h t r a k = rw (fields_alone h.version (fields_end h) a h.count t r k, sizes_alone h.version h.count t r k)

zero_or : (x : Bool) (r : ℕ) → 0 ≡ r → 0 ≡ (0 if x else r)
unfolding ◌if◌else◌
zero_or true r e = refl
zero_or false r e = e

module _ (v time : ℕ) (fields names : List ℕ) (n : ℕ) (h : length fields % field_len v ≡ 0) where
  places_in : (info : List ℕ) → header_len v + length fields + length (area_of names info) ≤ n → 0 ≡ places_number n (header_for v time fields names info)
  unfolding places_number header_for
  places_in [] k =
      let e = fields_end_lem v time fields names [] h in
      let a = area_length names [] in
      if_no 20 _ _ 0 (le-ltb n (fields_end (header_for v time fields names [])) (omega arith))
      (if_no 23 _ _ 0 (le-ltb (header_len v + length fields + length (area_of names [])) (fields_end (header_for v time fields names [])) (omega arith))
      (if_no 23 _ _ 0 (le-ltb n (header_len v + length fields + length (area_of names [])) k)
      (if_yes 0 _ _ (eq-eqb 0 0 refl))))
  places_in (b ∷ bs) k =
      let e = fields_end_lem v time fields names (b ∷ bs) h in
      let a = area_length names (b ∷ bs) in
      let end = fields_end (header_for v time fields names (b ∷ bs)) in
      let info = header_len v + length fields + length names in
      let begin = header_len v + length fields + length (area_of names (b ∷ bs)) in
      if_no 20 _ _ 0 (le-ltb n end (omega arith))
      (if_no 23 _ _ 0 (le-ltb begin end (omega arith))
      (if_no 23 _ _ 0 (le-ltb n begin k)
      (zero_or (eqb info 0) _ (if_no 23 _ _ 0 (le-ltb info end (omega arith)) (if_no 23 _ _ 0 (lt-leb begin info (omega arith)) refl)))))

-- the names stop where info starts, or at data begin
stop_at : (time : ℕ) (fields names info : List ℕ)
    → names_end (header_for 2 time fields names info) ≡ header_len 2 + length fields + length names
unfolding header_for names_end
stop_at time fields names [] = omega (arith, area_length names [])
stop_at time fields names (b ∷ bs) =
    let start = header_len 2 + length fields + length names in
    let z : eqb start 0 ≡ false = ne_eqb start 0 (λ w. omega (arith, header_two)) in
    rw z

module _ (time : ℕ) (fields names info rest : List ℕ) where
  abbrev pub log : List ℕ
  log = header_bytes 2 time fields names info ++ rest

  abbrev head : Header
  head = header_for 2 time fields names info

  after_numbers : log ≡ number_bytes head ++ (fields ++ (area_of names info ++ rest))
  unfolding header_bytes
  after_numbers = simp append_assoc

  after_fields : log ≡ (number_bytes head ++ fields) ++ (area_of names info ++ rest)
  after_fields = after_numbers ∙ sym (append_assoc (number_bytes head) fields (area_of names info ++ rest))

  fields_at : length (number_bytes head ++ fields) ≡ header_len 2 + length fields
  fields_at = length-append (number_bytes head) fields ∙ rw (first_length 2 time fields names info)

  drop_numbers : drop (header_len 2) log ≡ fields ++ (area_of names info ++ rest)
  drop_numbers = rw after_numbers (drop_at (number_bytes head) (fields ++ (area_of names info ++ rest)) (header_len 2) (first_length 2 time fields names info))

  drop_fields : drop (header_len 2 + length fields) log ≡ area_of names info ++ rest
  drop_fields = rw after_fields (drop_at (number_bytes head ++ fields) (area_of names info ++ rest) (header_len 2 + length fields) fields_at)

  area_in_lem : length fields % field_len 2 ≡ 0 → area_in log head ≡ area_of names info
  unfolding area_in header_for
  area_in_lem h =
      let e = fields_end_lem 2 time fields names info h in
      let l : length (area_of names info) ≡ header_len 2 + length fields + length (area_of names info) - (header_len 2 + length fields) = omega arith in
      rw (e, drop_fields) (take_at (area_of names info) rest (header_len 2 + length fields + length (area_of names info) - (header_len 2 + length fields)) l)

  widths : time < 256 ^ 4 → Fit 2 fields names info → Widths head
  unfolding header_for
  widths t f =
      let start = header_len 2 + length fields + length names in
      record {
        version = refl;
        time = t;
        info = omega (arith, start_most start info, area_length names info, f.file);
        begin = omega (arith, f.file);
        size = omega (arith, f.small);
        count = omega (arith, f.few);
      }

  numbers_of_lem : time < 256 ^ 4 → Fit 2 fields names info → numbers_of log ≡ head
  numbers_of_lem t f = rw after_numbers (numbers_in head (fields ++ (area_of names info ++ rest)) (widths t f))

  name_of : 0 ≡ name_number log
  unfolding header_for
  name_of = rw after_numbers (name_in head (fields ++ (area_of names info ++ rest)) refl)

  count_fits : field_len head.version * head.count ≤ length fields
  unfolding header_for
  count_fits = whole_fields_fit 2 (length fields)

  drop_head : body_number head (drop (header_len head.version) log) (area_in log head) ≡ body_number head (drop (header_len 2) log) (area_in log head)
  unfolding header_for
  drop_head = refl

  body_in : Fit 2 fields names info → body_number head (drop (header_len 2) log) (area_in log head) ≡ body_number head fields (area_of names info)
  body_in f = rw (drop_numbers, area_in_lem f.whole) (body_alone head fields (area_of names info ++ rest) (area_of names info) count_fits)

  number_of : time < 256 ^ 4 → Fit 2 fields names info → body_number head fields (area_of names info) ≡ 0 → 0 ≡ read_header_number log
  unfolding read_header_number
  number_of t f z =
      let long = length-append (header_bytes 2 time fields names info) rest in
      let places = places_in 2 time fields names (length log) f.whole info (omega (arith, long, header_length 2 time fields names info)) in
      rw (numbers_of_lem t f) (else_none _ _ 0 0 name_of refl (else_none _ _ 0 0 places refl (sym (drop_head ∙ body_in f ∙ z))))

  -- the reader answers exactly the numbers written
  header_read : time < 256 ^ 4 → Fit 2 fields names info → body_number head fields (area_of names info) ≡ 0 → read_header_of log ≡ Ok head
  unfolding read_header_of
  header_read t f z = sym (stands (read_header_number log) (numbers_of log) head (sym (number_of t f z)) (sym (numbers_of_lem t f)))

  names_part : take (length names) (area_of names info ++ rest) ≡ names
  unfolding area_of
  names_part = rw (append_assoc names (ended info) rest) (take_at names (ended info ++ rest) (length names) refl)

  info_part : drop (header_len 2 + length fields + length names) log ≡ ended info ++ rest
  unfolding area_of
  info_part =
      sym (drop-drop (length names) (header_len 2 + length fields) log)
      ∙ ap (drop (length names)) (drop_fields ∙ append_assoc names (ended info) rest)
      ∙ drop_at names (ended info ++ rest) (length names) refl

  -- and the calls hand out the parts as given
  module _ (z : read_header_number log ≡ 0) (e : numbers_of log ≡ head) (f : Fit 2 fields names info) where
    fields_back : Holds log (fields_span_of log) fields
    unfolding fields_span_of header_for layout_of
    fields_back =
        let count = ap (λ (h : Header). h.count) e in
        held log _ 24 (length fields) z refl (omega (arith, count, f.whole))
        (rw drop_numbers (take_at fields (area_of names info ++ rest) (length fields) refl))

    each_back : (i : ℕ) → i < head.count → Holds log (field_span_of log i) (take 89 (drop (89 * i) fields))
    unfolding field_span_of header_for layout_of
    each_back i k =
        let here : i < (numbers_of log).count = rw e k in
        let at = sym (drop-drop (89 * i) 24 log) ∙ ap (drop (89 * i)) drop_numbers in
        held log _ (24 + 89 * i) 89 (sym (else_none _ _ 0 _ (sym z) refl (if_no 23 _ 0 0 (lt-leb _ _ here) refl))) (omega arith) refl
        (ap (take 89) at ∙ part_append 89 (89 * i) fields (area_of names info ++ rest) (omega (arith, k)))

    names_back : Holds log (names_span_of log) names
    unfolding names_span_of
    names_back =
        let end = fields_end_lem 2 time fields names info f.whole in
        held log _ (header_len 2 + length fields) (length names) z (ap fields_end e ∙ end)
        (omega (arith, ap names_end e, stop_at time fields names info, ap fields_end e, end)) (rw drop_fields names_part)

text_at : (l info rest : List ℕ) → l ≡ ended info ++ rest → (length info ≡ 0 → ⊥) → text_len info ≡ length info → take (text_len l) l ≡ info
text_at l info rest p h t =
    let e : l ≡ info ++ (0 ∷ rest) = p ∙ ap (λ (k : List ℕ). k ++ rest) (ended_some info h) ∙ append_assoc info (0 ∷ []) rest in
    rw (e, text_back info rest t) (take_at info (0 ∷ rest) (length info) refl)

info_back : (time : ℕ) (fields names info rest : List ℕ) → let file = log time fields names info rest in read_header_number file ≡ 0
    → numbers_of file ≡ header_for 2 time fields names info → Fit 2 fields names info → Holds file (info_span_of file) info
unfolding info_span_of info_length header_for
info_back time fields names [] rest z e f =
    let file = log time fields names [] rest in
    let none : info_length file (numbers_of file) ≡ 0 = ap (info_length file) e in
    held file _ 0 0 z (ap (λ (h : Header). h.info) e) (omega (arith, none)) refl
info_back time fields names (b ∷ bs) rest z e f =
    let file = log time fields names (b ∷ bs) rest in
    let start = header_len 2 + length fields + length names in
    let some : eqb start 0 ≡ false = ne_eqb start 0 (λ w. omega (arith, header_two)) in
    let t : text_len (b ∷ bs) ≡ length (b ∷ bs) = omega (arith, text_most (b ∷ bs), f.text) in
    let part = info_part time fields names (b ∷ bs) rest in
    let len : info_length file (numbers_of file) ≡ text_len (drop start file) = ap (info_length file) e ∙ rw some in
    held file _ start (text_len (drop start file)) z (ap (λ (h : Header). h.info) e) (omega (arith, len))
    (text_at (drop start file) (b ∷ bs) rest part (λ w. omega arith) t)

pub header_back : HeaderBack
unfolding HeaderBack
header_back time fields names info rest room t z =
    let a = header_fits 2 time fields names info room z in
    let f = fit 2 fields names info a.0 in
    let t' : time < 256 ^ 4 = omega arith in
    let n = sym (number_of time fields names info rest t' f a.1) in
    let e = numbers_of_lem time fields names info rest t' f in
    record {
      numbers = header_read time fields names info rest t' f a.1;
      same_fields = fields_back time fields names info rest n e f;
      each_field = each_back time fields names info rest n e f;
      same_names = names_back time fields names info rest n e f;
      same_info = info_back time fields names info rest n e f;
    }
