-- What a reader accepts, no writer refuses.
use Prim.Native.Nat.{ℕ, zero, suc, ◌+◌, ◌≤◌, ◌<◌}
use mathlib.Core.Path.{◌≡◌, refl, sym, ap}
use mathlib.Core.Bool.{Bool, true, false, cond}
use mathlib.Core.List.{List, [], ◌∷◌}
use native.Mathlib.Omega.{arith}
use borrow.Author.Tests.{le-ltb, eq-eqb}
use lib.ListN.{length, take}
use lib.Seq.{length-take-le}
use Rattle.wire.specs.BigEndian.{be_of}
use Rattle.wire.specs.Text.{text_len}
use Rattle.wire.proofs.Numbers.{Bytes}
use Rattle.wire.proofs.Orders.{if_no, not_no}
use Rattle.wire.proofs.Texts.{text_most}
use Rattle.mlg_rules.specs.Writing.{write_data_number, write_mark_number}

-- numbers of 16 and of 32 bits
pub two_below : (l : List ℕ) → Bytes l → be_of (take 2 l) < 65536
two_below [] b = omega arith
two_below (x ∷ []) b = let p : x < 256 = b 0 in omega arith
two_below (x ∷ y ∷ l) b =
    let p : x < 256 = b 0 in
    let q : y < 256 = b 1 in
    omega arith

pub four_below : (l : List ℕ) → Bytes l → be_of (take 4 l) < 4294967296
four_below [] b = omega arith
four_below (x ∷ []) b = let p : x < 256 = b 0 in omega arith
four_below (x ∷ y ∷ []) b =
    let p : x < 256 = b 0 in
    let q : y < 256 = b 1 in
    omega arith
four_below (x ∷ y ∷ z ∷ []) b =
    let p : x < 256 = b 0 in
    let q : y < 256 = b 1 in
    let r : z < 256 = b 2 in
    omega arith
four_below (x ∷ y ∷ z ∷ w ∷ l) b =
    let p : x < 256 = b 0 in
    let q : y < 256 = b 1 in
    let r : z < 256 = b 2 in
    let s : w < 256 = b 3 in
    omega arith

-- a text up to its zero holds none
pub text_taken : (t : List ℕ) → text_len (take (text_len t) t) ≡ text_len t
text_taken [] = refl
text_taken (zero ∷ t) = refl
text_taken (suc b ∷ t) = ap suc (text_taken t)

pub text_length : (t : List ℕ) → length (take (text_len t) t) ≡ text_len t
text_length t = length-take-le (text_len t) t (text_most t)

pub text_whole : (b : Bool) (t : List ℕ) → length (take (cond b 0 (text_len t)) t) ≤ text_len (take (cond b 0 (text_len t)) t)
text_whole true t = omega arith
text_whole false t = omega (arith, text_taken t, text_length t)

-- blocks that have room
pub data_accepted : (l : ℕ) (rec : List ℕ) → length rec ≡ l → write_data_number l rec (l + 5) ≡ 0
unfolding write_data_number
data_accepted l rec e = sym (if_no 23 _ _ 0 (not_no _ (eq-eqb _ _ e)) (if_no 27 _ _ 0 (le-ltb (l + 5) (length rec + 5) (omega arith)) refl))

pub mark_accepted : (t : List ℕ) → length t ≤ 49 → length t ≤ text_len t → write_mark_number t 54 ≡ 0
unfolding write_mark_number
mark_accepted t h k =
    sym (if_no 28 _ _ 0 (le-ltb 49 (length t) h) (if_no 28 _ _ 0 (le-ltb (text_len t) (length t) k) (if_no 27 _ _ 0 (le-ltb 54 54 (omega arith)) refl)))
