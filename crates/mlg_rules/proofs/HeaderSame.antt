-- The header of a file in the writer's layout, rewritten from what was read.
use Prim.Native.Nat.{ℕ, zero, suc, ◌+◌, ◌*◌, ◌-◌, ◌/◌, ◌%◌, ◌≤◌, ◌<◌}
use mathlib.Core.Path.{◌≡◌, refl, sym, ap, ◌∙◌}
use mathlib.Core.Logic.{◌⊎◌, inl, inr}
use mathlib.Core.List.{List, [], ◌∷◌, ◌++◌, append-nil}
use native.Mathlib.Omega.{arith}
use borrow.Author.Tests.{eq-eqb, ne_eqb, eqb-true, ltb-false, le-ltb}
use lib.Dec.{eqb}
use lib.ListN.{length, take, drop, length-drop, take-append-drop}
use lib.Seq.{length-take-le, take-suc}
use Rattle.wire.specs.BigEndian.{be_of, be_at, be_bytes}
use Rattle.wire.specs.Text.{text_len}
use Rattle.wire.specs.Log.{part_of}
use Rattle.wire.proofs.RefusalLaws.{answered}
use Rattle.wire.proofs.Numbers.{Bytes, bytes_drop, part_back}
use Rattle.wire.proofs.Orders.{if_zero, if_no, else_zero, else_none, not-false, not_no}
use Rattle.wire.proofs.Parts.{part_in_two}
use Rattle.wire.proofs.Texts.{text_stops}
use Rattle.mlg_rules.specs.Layout.{served, layout_of, header_len, info_len, field_len}
use Rattle.mlg_rules.specs.Area.{ended, area_of, info_start}
use Rattle.mlg_rules.specs.Fields.{sizes}
use Rattle.mlg_rules.specs.Header.{log_name, version_in, numbers_of, fields_end, fields_from, area_in}
use Rattle.mlg_rules.specs.Header.{name_number, last_number, body_number, read_header_number, read_header_of}
use Rattle.mlg_rules.specs.Writing.{number_bytes, header_for, header_bytes, lengths_number, write_header_number}
use Rattle.mlg_rules.specs.Parts.{names_end, info_length, fields_span_of, names_span_of, info_span_of}
use Rattle.mlg_rules.specs.RoundTrip.{InLayout}
use Rattle.mlg_rules.specs.declared.Header.{Header}
use Rattle.std.specs.Prelude.{Ok}
use Rattle.mlg_rules.proofs.NotRefused.{two_below, four_below, text_whole}
use Rattle.mlg_rules.proofs.AreaLaws.{ended_some}
use Rattle.mlg_rules.proofs.EachField.{sizes_alone}
use Rattle.mlg_rules.proofs.HeaderBack.{body_alone}
use Rattle.mlg_rules.proofs.HeaderBytes.{start_some}
use Rattle.mlg_rules.proofs.HeaderLaws.{Placed, placed}
use Rattle.mlg_rules.proofs.SpanLaws.{held}

-- the parts of a file whose header reads as h
unfoldable pub fields_in_lem : List ℕ → Header → List ℕ
fields_in_lem f h = take (field_len h.version * h.count) (drop (header_len h.version) f)

unfoldable pub names_in : List ℕ → Header → List ℕ
names_in f h = take (names_end h - fields_end h) (drop (fields_end h) f)

unfoldable pub info_in : List ℕ → Header → List ℕ
info_in f h = take (info_length f h) (drop h.info f)

-- what is known of a header that was read
pub taken : (f : List ℕ) (h : Header) → read_header_of f ≡ Ok h → (read_header_number f ≡ 0) × (numbers_of f ≡ h)
unfolding read_header_of
taken f h e = answered (read_header_number f) (numbers_of f) h e

pub record Accepted (f : List ℕ) (h : Header) : Type 0 where
  pub number : read_header_number f ≡ 0
  pub long : 24 ≤ length f
  pub name : be_at 6 f 0 ≡ be_of log_name
  pub numbers : numbers_of f ≡ h
  pub version : h.version ≡ 2
  pub places : Placed (length f) h
  pub size : sizes h.version h.count (fields_from f h) ≡ h.size
  pub body : body_number h (fields_from f h) (area_in f h) ≡ 0

version_is : (f : List ℕ) → (numbers_of f).version ≡ version_in f
unfolding numbers_of
version_is f = refl

named : (f : List ℕ) → name_number f ≡ 0 → (24 ≤ length f) × (be_at 6 f 0 ≡ be_of log_name) × (version_in f ≡ 2)
unfolding name_number served layout_of
named f e =
    let a = if_zero 19 _ _ e in
    let b = if_zero 20 _ _ a.1 in
    let d = if_zero 21 _ _ b.1 in
    (ltb-false _ _ a.0, eqb-true _ _ (not-false _ b.0), eqb-true _ _ (not-false _ d.0))

sized : (h : Header) (fields area : List ℕ) → body_number h fields area ≡ 0 → sizes h.version h.count fields ≡ h.size
unfolding body_number last_number
sized h fields area e = eqb-true _ _ (not-false _ (if_zero 22 _ _ (else_zero _ _ e).1).0)

pub accepted : (f : List ℕ) (h : Header) → read_header_of f ≡ Ok h → Accepted f h
unfolding read_header_number
accepted f h e =
    let j = taken f h e in
    let a = else_zero _ _ j.0 in
    let b = else_zero _ _ a.1 in
    let n = named f a.0 in
    record {
      number = j.0;
      long = n.0;
      name = n.1;
      numbers = j.1;
      version = sym (ap (λ (g : Header). g.version) j.1) ∙ version_is f ∙ n.2;
      places = rw j.1 at (placed (length f) (numbers_of f) b.0);
      size = rw j.1 at (sized (numbers_of f) _ _ b.1);
      body = rw j.1 at b.1;
    }

-- what the calls hand out of it
module _ (f : List ℕ) (h : Header) (ok : Accepted f h) where
  pub fields_read : part_of f (fields_span_of f) ≡ fields_in_lem f h
  unfolding fields_span_of fields_in_lem
  fields_read =
      (held f _ _ _ ok.number (ap (λ (g : Header). header_len g.version) ok.numbers)
      (ap (λ (g : Header). field_len g.version * g.count) ok.numbers) refl).1

  pub names_read : part_of f (names_span_of f) ≡ names_in f h
  unfolding names_span_of names_in
  names_read = (held f _ _ _ ok.number (ap fields_end ok.numbers) (ap (λ (g : Header). names_end g - fields_end g) ok.numbers) refl).1

  pub info_read : part_of f (info_span_of f) ≡ info_in f h
  unfolding info_span_of info_in
  info_read = (held f _ _ _ ok.number (ap (λ (g : Header). g.info) ok.numbers) (ap (info_length f) ok.numbers) refl).1

pub join : {a b r s : List ℕ} → a ≡ b → r ≡ s → a ++ r ≡ b ++ s
join p q = cc

-- the header's numbers, as they stood
numbers_same : (f : List ℕ) → Bytes f → 24 ≤ length f → be_at 6 f 0 ≡ be_of log_name → number_bytes (numbers_of f) ≡ take 24 f
unfolding number_bytes numbers_of layout_of
numbers_same f b h e =
    let p = part_back 6 f 0 (omega arith) b in
    let n : log_name ≡ take 6 f = ap (be_bytes 6) (sym e) ∙ p in
    join n (join (part_back 2 f 6 (omega arith) b) (join (part_back 4 f 8 (omega arith) b) (join (part_back 4 f 12 (omega arith) b)
    (join (part_back 4 f 16 (omega arith) b) (join (part_back 2 f 20 (omega arith) b) (part_back 2 f 22 (omega arith) b))))))
    ∙ (sym (part_in_two 0 6 18 f
    ∙ ap (λ (r : List ℕ). take 6 f ++ r) (part_in_two 6 2 16 f
    ∙ ap (λ (r : List ℕ). take 2 (drop 6 f) ++ r) (part_in_two 8 4 12 f
    ∙ ap (λ (r : List ℕ). take 4 (drop 8 f) ++ r) (part_in_two 12 4 8 f
    ∙ ap (λ (r : List ℕ). take 4 (drop 12 f) ++ r) (part_in_two 16 4 4 f
    ∙ ap (λ (r : List ℕ). take 4 (drop 16 f) ++ r) (part_in_two 20 2 2 f)))))))

-- and their widths
numbers_below : (f : List ℕ) → Bytes f → ((numbers_of f).size < 65536) × ((numbers_of f).count < 65536) × ((numbers_of f).begin < 4294967296)
unfolding numbers_of
numbers_below f b =
    let w = info_len (version_in f) in (
      two_below (drop (16 + w) f) (bytes_drop (16 + w) f b),
      two_below (drop (18 + w) f) (bytes_drop (18 + w) f b),
      four_below (drop (12 + w) f) (bytes_drop (12 + w) f b),
    )

-- the parts, back to back
module _ (f : List ℕ) (h : Header) (ok : Accepted f h) where
  abbrev end : ℕ
  end = fields_end h

  end_is : end ≡ 24 + 89 * h.count
  unfolding fields_end layout_of
  end_is = refl

  abbrev fields : List ℕ
  fields = take (end - 24) (drop 24 f)

  fields_are : fields_in_lem f h ≡ fields
  unfolding fields_in_lem layout_of
  fields_are = let e : 89 * h.count ≡ end - 24 = omega (arith, end_is) in ap (λ (n : ℕ). take n (drop 24 f)) e

  fields_length : length fields ≡ 89 * h.count
  fields_length =
      length-take-le (end - 24) (drop 24 f) (rw (length-drop 24 f) (omega (arith, ok.places.fields))) ∙ omega (arith, end_is)

  -- the area, where there is no info
  bare : h.info ≡ 0 → names_in f h ≡ take (h.begin - end) (drop end f)
  unfolding names_in names_end
  bare z = rw (eq-eqb h.info 0 z)

  no_info : h.info ≡ 0 → info_in f h ≡ []
  unfolding info_in info_length
  no_info z = rw (eq-eqb h.info 0 z)

  -- and where there is
  some_names : (h.info ≡ 0 → ⊥) → names_in f h ≡ take (h.info - end) (drop end f)
  unfolding names_in names_end
  some_names z = rw (ne_eqb h.info 0 z)

  some_info : (h.info ≡ 0 → ⊥) → info_in f h ≡ take (text_len (drop h.info f)) (drop h.info f)
  unfolding info_in info_length
  some_info z = rw (ne_eqb h.info 0 z)

  abbrev m : ℕ
  m = text_len (drop h.info f)

  abbrev text : List ℕ
  text = take m (drop h.info f)

  -- info with its zero
  module _ (z : h.info ≡ 0 → ⊥) (some : 0 < m) (last : h.info + m + 1 ≡ h.begin) where
    inside : m < length (drop h.info f)
    inside = rw (length-drop h.info f) (omega (arith, ok.places.data_begins))

    text_length : length text ≡ m
    text_length = length-take-le m (drop h.info f) (omega (arith, inside))

    ended_is : ended text ≡ take (h.begin - h.info) (drop h.info f)
    ended_is =
        let e : h.begin - h.info ≡ suc m = omega arith in
        ended_some text (λ w. omega (arith, text_length))
        ∙ rw e (sym (take-suc (drop h.info f) m 0 inside ∙ ap (λ (b : ℕ). text ++ (b ∷ [])) (text_stops (drop h.info f))))

    area_some : area_of (names_in f h) (info_in f h) ≡ take (h.begin - end) (drop end f)
    unfolding area_of
    area_some =
        let p = ok.places.info_after z in
        let q = ok.places.info_before_lem z in
        let a : end + (h.info - end) ≡ h.info = omega arith in
        let b : h.info - end + (h.begin - h.info) ≡ h.begin - end = omega arith in
        rw (some_names z, some_info z, ended_is) (sym (rw (b, a) at (part_in_two end (h.info - end) (h.begin - h.info) f)))

    names_length : length (names_in f h) ≡ h.info - end
    names_length =
        let p = ok.places in
        ap length (some_names z)
        ∙ length-take-le (h.info - end) (drop end f) (rw (length-drop end f) (omega (arith, p.data_begins, p.info_before_lem z)))

    start_is : h.info ≡ info_start (24 + length fields + length (names_in f h)) (info_in f h)
    start_is =
        let a : h.info ≡ 24 + length fields + length (names_in f h) = omega (arith, fields_length, end_is, names_length, ok.places.info_after z) in
        a ∙ start_some _ (info_in f h) (λ w. omega (arith, ap length (some_info z), text_length))

  area_bare : h.info ≡ 0 → area_of (names_in f h) (info_in f h) ≡ take (h.begin - end) (drop end f)
  unfolding area_of
  area_bare z = rw (no_info z, bare z) (append-nil (take (h.begin - end) (drop end f)))

  start_bare : h.info ≡ 0 → h.info ≡ info_start (24 + length fields + length (names_in f h)) (info_in f h)
  start_bare z = rw (no_info z) z

  area_by : (h.info ≡ 0) ⊎ ((0 < m) × (h.info + m + 1 ≡ h.begin)) → (x : ℕ) → h.info ≡ x
      → (area_of (names_in f h) (info_in f h) ≡ take (h.begin - end) (drop end f))
      × (h.info ≡ info_start (24 + length fields + length (names_in f h)) (info_in f h))
  area_by (inl z) x e = (area_bare z, start_bare z)
  area_by (inr s) zero e = (area_bare e, start_bare e)
  area_by (inr s) (suc x) e =
      let z : h.info ≡ 0 → ⊥ = λ w. omega arith in
      (area_some z s.0 s.1, start_is z s.0 s.1)

  module _ (lay : InLayout f h) where
    area_is : area_of (names_in f h) (info_in f h) ≡ take (h.begin - end) (drop end f)
    unfolding InLayout
    area_is = (area_by lay _ refl).0

    info_is : h.info ≡ info_start (24 + length fields + length (names_in f h)) (info_in f h)
    unfolding InLayout
    info_is = (area_by lay _ refl).1

    begin_is : 24 + length fields + length (area_of (names_in f h) (info_in f h)) ≡ h.begin
    begin_is =
        let l : length (take (h.begin - end) (drop end f)) ≡ h.begin - end
        = length-take-le (h.begin - end) (drop end f) (rw (length-drop end f) (omega (arith, ok.places.data_begins))) in
        omega (arith, ap length area_is, fields_length, end_is, ok.places.after_fields)

    count_is : length fields / 89 ≡ h.count
    count_is = omega (arith, fields_length)

    rest_is : fields ++ area_of (names_in f h) (info_in f h) ≡ take (h.begin - 24) (drop 24 f)
    rest_is =
        let a : 24 + (end - 24) ≡ end = omega (arith, end_is) in
        let b : end - 24 + (h.begin - end) ≡ h.begin - 24 = omega (arith, end_is, ok.places.after_fields) in
        rw area_is (sym (rw (b, a) at (part_in_two 24 (end - 24) (h.begin - end) f)))

    size_is : sizes 2 (length fields / 89) fields ≡ h.size
    unfolding layout_of
    size_is =
        let split : fields ++ drop (end - 24) (drop 24 f) ≡ drop 24 f = take-append-drop (end - 24) (drop 24 f) in
        let k : 89 * h.count ≤ length fields = omega (arith, fields_length) in
        rw count_is (sym (sizes_alone 2 h.count fields (drop (end - 24) (drop 24 f)) k) ∙ ap (sizes 2 h.count) split ∙ rw ok.version at ok.size)

same_header : (h : Header) (v i b s n : ℕ) → v ≡ h.version → i ≡ h.info → b ≡ h.begin → s ≡ h.size → n ≡ h.count
    → ◌≡◌ {A = Header} (record { version = v; time = h.time; info = i; begin = b; size = s; count = n }) h
same_header h v i b s n p q r t u = rw (p, q, r, t, u)

module _ (f : List ℕ) (h : Header) (bytes : Bytes f) (ok : Accepted f h) (lay : InLayout f h) where
  header_is : header_for 2 h.time (fields f h ok) (names_in f h) (info_in f h) ≡ h
  unfolding header_for layout_of
  header_is =
      same_header h 2 _ _ _ _ (sym ok.version) (sym (info_is f h ok lay)) (begin_is f h ok lay) (size_is f h ok lay) (count_is f h ok lay)

  pub header_same : header_bytes 2 h.time (fields_in_lem f h) (names_in f h) (info_in f h) ≡ take h.begin f
  unfolding header_bytes
  header_same =
      let a : 24 + (h.begin - 24) ≡ h.begin = omega (arith, end_is f h ok, ok.places.after_fields) in
      let n = numbers_same f bytes ok.long ok.name in
      rw (fields_are f h ok)
      (join (ap number_bytes (header_is ∙ sym ok.numbers) ∙ n) (rest_is f h ok lay)
      ∙ sym (rw a at (part_in_two 0 24 (h.begin - 24) f)))

  -- no writer refuses it
  body_accepted : body_number h (fields f h ok) (area_of (names_in f h) (info_in f h)) ≡ 0
  unfolding area_in layout_of
  body_accepted =
      let area = take (h.begin - fields_end h) (drop (fields_end h) f) in
      let rest = drop (fields_end h - 24) (drop 24 f) in
      let split : fields f h ok ++ rest ≡ drop 24 f = take-append-drop (fields_end h - 24) (drop 24 f) in
      let each : field_len h.version ≡ 89 = ap field_len ok.version in
      let start : 24 ≡ header_len h.version = sym (ap header_len ok.version) in
      let k : field_len h.version * h.count ≤ length (fields f h ok) = rw each (omega (arith, fields_length f h ok)) in
      rw (area_is f h ok lay)
      (sym (body_alone h (fields f h ok) rest area k)
      ∙ ap (λ (t : List ℕ). body_number h t area) split
      ∙ ap (λ (n : ℕ). body_number h (drop n f) area) start
      ∙ ok.body)

  info_whole : length (info_in f h) ≤ text_len (info_in f h)
  unfolding info_in info_length
  info_whole = text_whole (eqb h.info 0) (drop h.info f)

  lengths_accepted : lengths_number 2 (fields f h ok) (names_in f h) (info_in f h) ≡ 0
  unfolding lengths_number layout_of
  lengths_accepted =
      let n = rw ok.numbers at (numbers_below f bytes) in
      let c = count_is f h ok lay in
      let s = size_is f h ok lay in
      let b = begin_is f h ok lay in
      let l = fields_length f h ok in
      sym (if_no 23 _ _ 0 (not_no _ (eq-eqb (length (fields f h ok) % 89) 0 (omega arith)))
      (if_no 23 _ _ 0 (le-ltb 65535 (length (fields f h ok) / 89) (omega (arith, n.1)))
      (if_no 23 _ _ 0 (le-ltb 65535 (sizes 2 (length (fields f h ok) / 89) (fields f h ok)) (omega (arith, n.0)))
      (if_no 23 _ _ 0 (le-ltb 4294967295 (24 + length (fields f h ok) + length (area_of (names_in f h) (info_in f h))) (omega (arith, n.2)))
      (if_no 28 _ _ 0 (le-ltb (text_len (info_in f h)) (length (info_in f h)) info_whole) refl)))))

  pub header_accepted : write_header_number 2 h.time (fields_in_lem f h) (names_in f h) (info_in f h) (length f) ≡ 0
  unfolding write_header_number
  header_accepted =
      let names = names_in f h in
      let info = info_in f h in
      let begins = ok.places.data_begins in
      let written = header_bytes 2 h.time (fields_in_lem f h) names info in
      let room : length written ≤ length f = rw header_same (rw (length-take-le h.begin f begins) begins) in
      let body = ap (λ (g : Header). body_number g (fields f h ok) (area_of names info)) header_is ∙ body_accepted in
      let a : lengths_number 2 (fields_in_lem f h) names info ≡ 0 = rw (fields_are f h ok) lengths_accepted in
      let b : body_number (header_for 2 h.time (fields_in_lem f h) names info) (fields_in_lem f h) (area_of names info) ≡ 0 = rw (fields_are f h ok) body in
      let last = if_no 27 _ _ 0 (le-ltb (length f) (length written) room) refl in
      sym (else_none _ _ 0 0 (sym a) refl (else_none _ _ 0 0 (sym b) refl last))
