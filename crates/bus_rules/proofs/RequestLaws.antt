-- What is read from request bytes and their mark, and what packing makes of it.
use mathlib.Core.Path.{◌≡◌, refl, sym, ◌∙◌, ap}
use mathlib.Core.Logic.{◌↔◌}
use mathlib.Core.Bool.{Bool, true, false}
use mathlib.Core.List.{List, [], ◌∷◌}
use Prim.Native.Nat.{ℕ, zero, suc, ◌+◌, ◌*◌, ◌/◌, ◌%◌, ◌≤◌, ◌<◌}
use native.Mathlib.Omega.{arith}
use lib.Dec.{eqb}
use borrow.Author.Tests.{ltb-false, eqb-true, eq-eqb}
use Rattle.std.proofs.Common.{Ok, Err}
use Rattle.std.specs.Int.{from_bool}
use Rattle.wire.specs.declared.refusal.Refusal.{Refusal}
use Rattle.wire.specs.Refusals.{code}
use Rattle.wire.proofs.RefusalLaws.{code_ne0}
use Rattle.wire.specs.Order.{◌if◌else◌}
use Rattle.wire.proofs.Orders.{order, if_zero}
use Rattle.bus_rules.specs.Request.{Request, RequestRead, request_of, clear_of, read_request_of, request}
use Rattle.bus_rules.specs.Request.{request_bytes_number, wrote_request, request_bytes_of, as_request_bytes}
use Rattle.bus_rules.specs.Rows.{cleared, WriteAfterRead}
use Rattle.bus_rules.specs.declared.RequestBytes.{RequestBytes}
use Rattle.bus_rules.proofs.Directories.{both}

-- a request that its bytes can hold
pub record Holds (q : Request) : Type 0 where
  pub table : q.table ≤ 31
  pub count : q.count ≤ 15
  pub offset : q.offset ≤ 2047

pub zero_holds : (q : Request) → request_bytes_number q ≡ 0 → Holds q
unfolding request_bytes_number
zero_holds q e =
    let h1 = if_zero 6 _ _ e in
    let h2 = if_zero 8 _ _ h1.1 in
    let h3 = if_zero 7 _ _ h2.1 in
    record {
      table = omega (arith, ltb-false _ q.table h1.0);
      count = omega (arith, ltb-false _ q.count h2.0);
      offset = omega (arith, ltb-false _ q.offset h3.0);
    }

holds_zero : (q : Request) → Holds q → request_bytes_number q ≡ 0
unfolding request_bytes_number
holds_zero q h = let z : 0 ≡ request_bytes_number q = search order depth 12 in sym z

-- ── The mark ───────────────────────────────────────────────────────────────────────────────────────────────────────

one_if : (t : Bool) → (1 if t else 0) ≡ 1 → t ≡ true
unfolding ◌if◌else◌
one_if true e = refl
one_if false e = absurd (omega arith)

one_at_most : (t : Bool) → (1 if t else 0) ≤ 1
unfolding ◌if◌else◌
one_at_most true = omega arith
one_at_most false = omega arith

-- a bool as the mark
pub mark_is : (t : Bool) → from_bool t ≡ (1 if t else 0)
unfolding ◌if◌else◌
mark_is true = refl
mark_is false = refl

pub mark_small : (a c : ℕ) → clear_of a c ≤ 1
unfolding clear_of
mark_small a c = one_at_most _

-- it is 1 exactly for clear reserved bits
pub clear_exactly : (a c : ℕ) → (clear_of a c ≡ 1) ↔ ((a < 32) × (c / 16 % 2 ≡ 0))
unfolding clear_of ◌if◌else◌
clear_exactly a c = (
  λ e.
      let h = both (eqb (a / 32) 0) (eqb (c / 16 % 2) 0) (one_if _ e) in
      (omega (arith, eqb-true (a / 32) 0 h.0), eqb-true (c / 16 % 2) 0 h.1),
  λ (h : (a < 32) × (c / 16 % 2 ≡ 0)). rw (eq-eqb (a / 32) 0 (omega (arith, h.0)), eq-eqb (c / 16 % 2) 0 h.1),
)

-- ── Reading and writing ────────────────────────────────────────────────────────────────────────────────────────────

same_request : {p q : Request} → p.table ≡ q.table → p.count ≡ q.count → p.offset ≡ q.offset → p ≡ q
same_request {p} {q} t n o = rw (t, n, o)

-- the bytes of a request, read
request_back : (q : Request) → Holds q → request_of q.table (q.offset / 8) (q.offset % 8 * 32 + q.count) ≡ q
unfolding request_of
request_back q h = same_request (omega (arith, h.table)) (omega (arith, h.count)) (omega (arith, h.offset))

reads_back_lem : (q : Request) → Holds q
    → read_request_of q.table (q.offset / 8) (q.offset % 8 * 32 + q.count) ≡ record { request = q; clear = 1 }
unfolding read_request_of
reads_back_lem q h =
    let t = h.table in
    let n = h.count in
    rw (request_back q h, (clear_exactly q.table (q.offset % 8 * 32 + q.count)).1 (omega arith, omega arith))

even : (m q r : ℕ) → m < 2 → 2 * q + m ≡ 2 * r → m ≡ 0
even zero q r h e = refl
even (suc zero) q r h e = absurd (omega arith)
even (suc (suc m)) q r h e = absurd (omega arith)

-- a byte that is its bits 7-5 and 3-0 has 0 in bit 4
no_bit_four : (c : ℕ) → c / 32 * 32 + c % 16 ≡ c → c / 16 % 2 ≡ 0
no_bit_four c e = even (c / 16 % 2) (c / 16 / 2) (c / 32) (omega arith) (omega arith)

-- bytes, read and packed: the reserved bits are 0
module _ (a b c : ℕ) (hb : b < 256) (hc : c < 256) where
  read_holds : Holds (request_of a b c)
  unfolding request_of
  read_holds = record { table = omega arith; count = omega arith; offset = omega arith }

  bytes_back : request_bytes_of (request_of a b c) ≡ record { number = 0; bytes = cleared a b c }
  unfolding request_bytes_of wrote_request request request_of cleared
  bytes_back = rw (holds_zero (request_of a b c) read_holds, same_high, same_low)
    where
      same_high : (request_of a b c).offset / 8 ≡ b
      same_high = omega arith

      same_low : (request_of a b c).offset % 8 * 32 + (request_of a b c).count ≡ c / 32 * 32 + c % 16
      same_low = omega arith

  cleared_same : (cleared a b c ≡ a ∷ b ∷ c ∷ []) ↔ (clear_of a c ≡ 1)
  unfolding cleared
  cleared_same = (
    λ e. let ea : a % 32 ≡ a = cc in (clear_exactly a c).1 (omega arith, no_bit_four c cc),
    λ e.
        let h = (clear_exactly a c).0 e in
        let ea : a % 32 ≡ a = omega (arith, h.0) in
        let ec : c / 32 * 32 + c % 16 ≡ c = omega (arith, h.1) in
        rw (ea, ec),
  )

  pub write_after_read_lem : WriteAfterRead a b c (read_request_of a b c)
  unfolding read_request_of
  write_after_read_lem =
      let p = ap (λ (r : RequestBytes). r.bytes) bytes_back in
      record { zeros = bytes_back; same = (λ e. cleared_same.0 (sym p ∙ e), λ e. p ∙ cleared_same.1 e); small = mark_small a c }

-- what was read is packed, so its bytes can hold it
pub read_request_holds : {a b c : ℕ} (r : RequestRead) → WriteAfterRead a b c r → Holds r.request
unfolding request_bytes_of wrote_request
read_request_holds r w = zero_holds r.request (go (request_bytes_number r.request) (ap (λ (v : RequestBytes). v.number) w.zeros))
  where
    go : (m : ℕ) → (wrote_request m (request r.request.table r.request.offset r.request.count)).number ≡ 0 → m ≡ 0
    go zero e = refl
    go (suc m) e = e

pub read_after_write_lem : (q : Request) → (request_bytes_of q).number ≡ 0 → (a b c : ℕ) → (request_bytes_of q).bytes ≡ a ∷ b ∷ c ∷ []
    → read_request_of a b c ≡ record { request = q; clear = 1 }
unfolding request_bytes_of wrote_request request
read_after_write_lem q e a b c k = go (request_bytes_number q) refl e k
  where
    go : (m : ℕ) → request_bytes_number q ≡ m → (wrote_request m (request q.table q.offset q.count)).number ≡ 0
        → (wrote_request m (request q.table q.offset q.count)).bytes ≡ a ∷ b ∷ c ∷ [] → read_request_of a b c ≡ record { request = q; clear = 1 }
    go zero n z l =
        let ea : q.table ≡ a = cc in
        let eb : q.offset / 8 ≡ b = cc in
        let ec : q.offset % 8 * 32 + q.count ≡ c = cc in
        rw (← ea, ← eb, ← ec) (reads_back_lem q (zero_holds q n))
    go (suc m) n z l = absurd (omega arith)

-- what C sees of a refusal, and of the bytes
pub wrote_no : (n : ℕ) (bs : List ℕ) (e : Refusal) → code e ≡ n → as_request_bytes (Err e) ≡ wrote_request n bs
unfolding wrote_request
wrote_no zero bs e h = absurd (code_ne0 e h)
wrote_no (suc n) bs e h = rw h

pub wrote_yes : (n : ℕ) (bs : List ℕ) → n ≡ 0 → as_request_bytes (Ok bs) ≡ wrote_request n bs
unfolding wrote_request
wrote_yes zero bs h = refl
wrote_yes (suc n) bs h = absurd (omega arith)

-- of bytes with their reserved bits cleared the same is read, and they are clear
pub read_cleared : (a b c : ℕ) → b < 256 → c < 256 → (x y z : ℕ) → cleared a b c ≡ x ∷ y ∷ z ∷ []
    → read_request_of x y z ≡ record { request = request_of a b c; clear = 1 }
read_cleared a b c hb hc x y z e =
    let w = bytes_back a b c hb hc in
    read_after_write_lem (request_of a b c) (ap (λ (r : RequestBytes). r.number) w) x y z (ap (λ (r : RequestBytes). r.bytes) w ∙ e)
