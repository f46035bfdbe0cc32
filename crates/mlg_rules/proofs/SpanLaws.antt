-- Parts of a file as places and lengths.
use Prim.Native.Nat.{ℕ, zero, suc, ◌+◌, ◌*◌, ◌≤◌, ◌<◌}
use mathlib.Core.Path.{◌≡◌, refl}
use mathlib.Core.List.{List}
use native.Mathlib.Omega.{arith}
use native.Mathlib.Nat.{mul-le-mul_left, mul-suc}
use borrow.Author.Tests.{eq-eqb, ne_eqb}
use lib.ListN.{length, take, drop, length-drop}
use Rattle.wire.specs.Text.{text_len}
use Rattle.wire.proofs.Orders.{else_zero}
use Rattle.wire.proofs.Texts.{text_most}
use Rattle.std.proofs.Common.{Ok, Err}
use Rattle.wire.specs.Log.{span_with, Holds, as_span}
use Rattle.wire.specs.Refusals.{code}
use Rattle.wire.specs.declared.Extent.{Extent}
use Rattle.wire.specs.declared.refusal.Refusal.{Refusal}
use Rattle.wire.proofs.RefusalLaws.{code_ne0}
use Rattle.mlg_rules.specs.Layout.{header_len, field_len}
use Rattle.mlg_rules.specs.Header.{numbers_of, fields_end, read_header_number}
use Rattle.mlg_rules.specs.Parts.{field_place, names_end, info_length}
use Rattle.mlg_rules.specs.declared.Header.{Header}
use Rattle.wire.specs.declared.views.Span.{Span}
use Rattle.mlg_rules.proofs.HeaderLaws.{Placed, placed}

pub span_no : (n s k x : ℕ) → x ≡ n → (x ≡ 0 → ⊥) → ◌≡◌ {A = Span} (record { number = x; start = 0; len = 0 }) (span_with n s k)
unfolding span_with
span_no zero s k x e h = absurd (h e)
span_no (suc n) s k x e h = rw e

pub span_yes : (n s k : ℕ) → n ≡ 0 → ◌≡◌ {A = Span} (record { number = 0; start = s; len = k }) (span_with n s k)
unfolding span_with
span_yes zero s k e = refl
span_yes (suc n) s k e = absurd (omega arith)

-- the bytes of a part that no number refuses
pub held : (f : List ℕ) (n : ℕ) {s k : ℕ} (t m : ℕ) {bytes : List ℕ} → n ≡ 0 → s ≡ t → k ≡ m → take m (drop t f) ≡ bytes → Holds f (span_with n s k) bytes
unfolding span_with
held f zero t m e p q r = (refl, rw (p, q) r)
held f (suc n) t m e p q r = absurd (omega arith)

-- a refusal, and a part, as both parts of a promise
pub refused : (n s k : ℕ) (e : Refusal) (f : List ℕ) → code e ≡ n
    → (as_span (Err e) ≡ span_with n s k) × ((as_span (Err e)).start + (as_span (Err e)).len ≤ length f)
refused n s k e f h = (span_no n s k (code e) h (code_ne0 e), omega arith)

pub given : (n s k : ℕ) (p : Extent) (f : List ℕ) → n ≡ 0 → p.start ≡ s → p.len ≡ k → p.start + p.len ≤ length f
    → (as_span (Ok p) ≡ span_with n s k) × (p.start + p.len ≤ length f)
given n s k p f z q r h = (rw (q, r) (span_yes n s k z), h)

-- a header that no number refuses has its places
pub placed_in : (f : List ℕ) → read_header_number f ≡ 0 → Placed (length f) (numbers_of f)
unfolding read_header_number
placed_in f e = placed (length f) (numbers_of f) (else_zero _ _ (else_zero _ _ e).1).0

pub field_fits : (n : ℕ) (h : Header) (i : ℕ) → Placed n h → i < h.count → field_place h i + field_len h.version ≤ n
unfolding fields_end
field_fits n h i p k =
    let a = mul-le-mul_left (field_len h.version) k in
    omega (arith, p.fields, mul-suc (field_len h.version) i)

pub fields_fit : (n : ℕ) (h : Header) → Placed n h → header_len h.version + field_len h.version * h.count ≤ n
unfolding fields_end
fields_fit n h p = p.fields

pub names_none : (h : Header) → h.info ≡ 0 → h.begin ≡ names_end h
unfolding names_end
names_none h e = rw (eq-eqb h.info 0 e)

pub names_some : (h : Header) → (h.info ≡ 0 → ⊥) → h.info ≡ names_end h
unfolding names_end
names_some h e = rw (ne_eqb h.info 0 e)

names_by : (n : ℕ) (h : Header) → Placed n h → (x : ℕ) → h.info ≡ x → (fields_end h ≤ names_end h) × (names_end h ≤ n)
names_by n h p zero e = (omega (arith, names_none h e, p.after_fields), omega (arith, names_none h e, p.data_begins))
names_by n h p (suc x) e =
    let z : h.info ≡ 0 → ⊥ = λ w. omega arith in
    (omega (arith, names_some h z, p.info_after z), omega (arith, names_some h z, p.info_before_lem z, p.data_begins))

pub names_fit : (n : ℕ) (h : Header) → Placed n h → (fields_end h ≤ names_end h) × (names_end h ≤ n)
names_fit n h p = names_by n h p _ refl

pub info_none : (f : List ℕ) (h : Header) → h.info ≡ 0 → info_length f h ≡ 0
unfolding info_length
info_none f h e = rw (eq-eqb h.info 0 e)

pub info_some : (f : List ℕ) (h : Header) → (h.info ≡ 0 → ⊥) → info_length f h ≡ text_len (drop h.info f)
unfolding info_length
info_some f h e = rw (ne_eqb h.info 0 e)

pub info_fits : (f : List ℕ) (h : Header) → Placed (length f) h → (h.info ≡ 0 → ⊥) → h.info + text_len (drop h.info f) ≤ length f
info_fits f h p z = omega (arith, text_most (drop h.info f), length-drop h.info f, p.info_before_lem z, p.data_begins)
