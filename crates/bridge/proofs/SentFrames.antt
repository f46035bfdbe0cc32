-- What a ready slot sends: its request is written, and its bytes are in the buffer.
use Prim.Native.Nat.{ℕ, ◌+◌, ◌-◌, ◌≤◌, ◌<◌}
use mathlib.Core.Path.{◌≡◌, ◌∙◌, ap}
use mathlib.Core.Bool.{true, or-true}
use mathlib.Core.List.{List}
use native.Mathlib.Omega.{arith}
use lib.ListN.{length, take, drop, length-take}
use borrow.Author.Tests.{le-ltb}
use Rattle.wire.specs.Order.{◌if◌else◌}
use Rattle.std.specs.Prelude.{Result, Ok, Err}
use Rattle.wire.specs.declared.refusal.Refusal.{Refusal}
use Rattle.wire.proofs.RefusalLaws.{code_ne0}
use Rattle.bus_rules.specs.Request.{request, request_bytes_number, wrote_request, request_bytes_of, as_request_bytes}
use Rattle.bus_rules.specs.declared.RequestBytes.{RequestBytes}
use Rattle.bus_rules.specs.declared.Request.{Request}
use Rattle.bridge_rules.specs.declared.Bridge.{Bridge}
use Rattle.bridge_rules.specs.State.{slot, sound, is_ready, carries, checking}
use Rattle.bridge_rules.proofs.SlotOk.{ReadyOk, ready_ok}
use Rattle.bridge_rules.proofs.SoundTest.{true_sound}

-- a request that the bytes hold
requests : (q : Request) → q.table ≤ 31 → q.count ≤ 15 → q.offset ≤ 2047
    → request_bytes_of q ≡ record { number = 0; bytes = request q.table q.offset q.count }
unfolding request_bytes_of request_bytes_number wrote_request ◌if◌else◌
requests q t n o = rw (le-ltb 31 q.table t, le-ltb 15 q.count n, le-ltb 2047 q.offset o)

-- is not refused
bytes_ok : (r : Result (List ℕ) Refusal) (bs : List ℕ) → as_request_bytes r ≡ record { number = 0; bytes = bs } → r ≡ Ok bs
bytes_ok (Ok x) bs h = ap (λ (b : RequestBytes). Ok b.bytes) h
bytes_ok (Err e) bs h = absurd (code_ne0 e (ap (λ (b : RequestBytes). b.number) h))

pub asks_ok : (q : Request) (r : Result (List ℕ) Refusal) → as_request_bytes r ≡ request_bytes_of q → q.table ≤ 31 → q.count ≤ 15 → q.offset ≤ 2047
    → r ≡ Ok (request q.table q.offset q.count)
asks_ok q r h t n o = bytes_ok r _ (h ∙ requests q t n o)

-- a part of eight bytes or fewer
pub part_short : (b : List ℕ) (start n : ℕ) → n ≤ 8 → length (take (start + n - start) (drop start b)) ≤ 8
part_short b start n h = omega (arith, length-take (start + n - start) (drop start b))

-- a checked write carries
pub checking_carries : (kind : ℕ) → checking kind ≡ true → carries kind ≡ true
unfolding checking carries
checking_carries kind e = rw (e, or-true)

-- what is known of a ready slot of a sound bridge
pub readies : (s : Bridge) (k : ℕ) → sound s ≡ true → k < 4 → is_ready (slot s k).phase ≡ true → ReadyOk (slot s k)
readies s k h l r = ready_ok (slot s k) ((true_sound s h).each k l) r
