-- Laws of what the writers write: how long it is, whether it has room, and that it is put whole.
use Prim.Native.Nat.{ℕ, ◌+◌, ◌≤◌, ◌<◌}
use mathlib.Core.Path.{◌≡◌, refl}
use mathlib.Core.List.{List, [], ◌∷◌, ◌++◌}
use native.Mathlib.Omega.{arith}
use borrow.Author.Tests.{lt-ltb, le-ltb}
use lib.ListN.{length, length-append}
use Rattle.wire.specs.BigEndian.{be_bytes}
use Rattle.wire.specs.Put.{put_of}
use Rattle.wire.proofs.Orders.{if_yes, if_no}
use Rattle.wire.proofs.Writes.{over, put_first, put_more}
use Rattle.frd_rules.specs.Header.{header_len, signature_place, signature_len, name, version}
use Rattle.frd_rules.specs.Writing.{header_bytes, data_bytes, time_bytes, room_number}

-- lengths
pub data_length : (c : ℕ) (rec : List ℕ) → length (data_bytes c rec) ≡ length rec + 2
unfolding data_bytes
data_length c rec = omega arith

pub time_length : (c time : ℕ) → length (time_bytes c time) ≡ 6
unfolding time_bytes
time_length c time = refl

pub header_length : (time : ℕ) (signature : List ℕ) (l : ℕ) → length signature ≡ signature_len
    → length (header_bytes time signature l) ≡ header_len
unfolding header_bytes
header_length time signature l e = omega (arith, length-append signature (be_bytes 4 header_len ++ be_bytes 2 l))

-- room
pub room_short : (bytes : List ℕ) (room : ℕ) → room < length bytes → 27 ≡ room_number bytes room
unfolding room_number
room_short bytes room h = if_yes 27 _ 0 (lt-ltb _ _ h)

pub room_left : (bytes : List ℕ) (room : ℕ) → length bytes ≤ room → 0 ≡ room_number bytes room
unfolding room_number
room_left bytes room h = if_no 27 _ 0 0 (le-ltb _ _ h) refl

-- the two parts of a data block
pub data_put : {x y : List ℕ} (c : ℕ) (out rec first : List ℕ) → first ≡ 1 ∷ c ∷ [] → length rec + 2 ≤ length out
    → x ≡ put_of out 0 first → y ≡ put_of x 2 rec → y ≡ over (data_bytes c rec) out
unfolding data_bytes
data_put c out rec first e h p q =
    let a = put_first out (1 ∷ c ∷ []) (omega arith) (rw e at p) in
    put_more out (1 ∷ c ∷ []) rec 2 refl (omega arith) a q

-- the three parts of a header
pub header_put : {x y z : List ℕ} (time l : ℕ) (out signature first last : List ℕ)
    → first ≡ name ++ (be_bytes 2 version ++ be_bytes 4 time) → last ≡ be_bytes 4 header_len ++ be_bytes 2 l
    → length signature ≡ signature_len → header_len ≤ length out
    → x ≡ put_of out 0 first → y ≡ put_of x signature_place signature → z ≡ put_of y 75 last → z ≡ over (header_bytes time signature l) out
unfolding header_bytes
header_put time l out signature first last e g s h p q r =
    let f : List ℕ = name ++ (be_bytes 2 version ++ be_bytes 4 time) in
    let n = length-append f signature in
    let a = put_first out f (omega arith) (rw e at p) in
    let b = put_more out f signature signature_place refl (omega arith) a q in
    put_more out (f ++ signature) (be_bytes 4 header_len ++ be_bytes 2 l) 75 (omega arith) (omega arith) b (rw g at r)
