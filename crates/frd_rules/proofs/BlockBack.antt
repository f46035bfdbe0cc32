-- A data block or a time block that was written reads back as given, whatever stands before it and follows.
use Prim.Native.Nat.{ℕ, ◌^◌, ◌≤◌, ◌<◌}
use mathlib.Core.Path.{◌≡◌, refl, sym, ap, ◌∙◌}
use mathlib.Core.Bool.{true}
use mathlib.Core.List.{List, ◌∷◌, ◌++◌}
use native.Mathlib.Omega.{arith}
use borrow.Author.Tests.{eq-eqb}
use lib.ListN.{length, take, drop, length-append}
use lib.Seq.{take_at, drop_at, drop-append-add}
use Rattle.wire.specs.BigEndian.{be_bytes}
use Rattle.wire.proofs.Numbers.{be_back}
use Rattle.wire.proofs.Orders.{if_no, not_no}
use Rattle.frd_rules.specs.Block.{counter_after, block_len, type_in, time_in, record_place, found_of, block_of, read_block_of}
use Rattle.frd_rules.specs.Writing.{data_bytes, write_data_number, time_bytes, write_time_number}
use Rattle.frd_rules.specs.RoundTrip.{DataBack, TimeBack}
use Rattle.frd_rules.specs.declared.Block.{Block}
use Rattle.frd_rules.specs.declared.Block.TheVariants.{Data, Time}
use Rattle.frd_rules.proofs.BlockLaws.{block_stands, rest_whole, data_len, time_len, found_data, found_time, at_within}
use Rattle.frd_rules.proofs.WritingLaws.{room_left}

-- a whole block of a known type stands
block_whole : (l c at : ℕ) (t : List ℕ) → (length t ≡ 0 → ⊥) → (block_len l (type_in t) ≡ 0 → ⊥) → block_len l (type_in t) ≤ length t → (b : Block)
    → found_of c at t ≡ b → block_of l c at t ≡ b
unfolding block_of
block_whole l c at t s k h b e = block_stands _ at _ (sym (rest_whole l t s k h)) ∙ e

-- a data block, and its record
data_stands : (l c at : ℕ) (rec rest : List ℕ) → length rec ≡ l → block_of l c at (data_bytes c rec ++ rest) ≡ Data c (record_place at) true
unfolding data_bytes
data_stands l c at rec rest e =
    let t : List ℕ = 1 ∷ c ∷ (rec ++ rest) in
    let k = data_len l 1 refl in
    block_whole l c at t (λ z. omega arith) (λ z. omega arith) (omega (arith, length-append rec rest)) _
    (found_data c at t (λ z. omega arith) refl ∙ rw (eq-eqb c c refl))

record_back : (l c : ℕ) (before rec rest : List ℕ) → length rec ≡ l
    → take l (drop (record_place (length before)) (before ++ (data_bytes c rec ++ rest))) ≡ rec
unfolding data_bytes
record_back l c before rec rest e = ap (take l) (drop-append-add before (1 ∷ c ∷ (rec ++ rest)) 2) ∙ take_at rec rest l e

-- a time block
time_stands : (l c at time : ℕ) (rest : List ℕ) → time < 2 ^ 32 → block_of l c at (time_bytes c time ++ rest) ≡ Time c time true
unfolding time_bytes
time_stands l c at time rest h =
    let t : List ℕ = 2 ∷ c ∷ (be_bytes 4 time ++ rest) in
    let k = time_len l 2 refl in
    let q : time_in t ≡ time = be_back 4 time h in
    block_whole l c at t (λ z. omega arith) (λ z. omega arith) (omega arith) _
    (found_time c at t (λ z. omega arith) (λ z. omega arith) ∙ rw (eq-eqb c c refl, q))

-- at any place of a file
at_place : (l n : ℕ) (before t : List ℕ) (b : Block) → block_of l (counter_after n) (length before) t ≡ b
    → read_block_of l n (before ++ t) (length before) ≡ b
at_place l n before t b e =
    at_within l n (before ++ t) (length before) (omega (arith, length-append before t))
    ∙ ap (block_of l (counter_after n) (length before)) (drop_at before t (length before) refl) ∙ e

-- what is writable is written where there is room
data_written : (l c : ℕ) (rec : List ℕ) → length rec ≡ l → (room : ℕ) → length (data_bytes c rec) ≤ room → write_data_number l c rec room ≡ 0
unfolding write_data_number
data_written l c rec e room h = sym (if_no 23 _ _ 0 (not_no _ (eq-eqb _ _ e)) (room_left (data_bytes c rec) room h))

time_written : (c time room : ℕ) → length (time_bytes c time) ≤ room → write_time_number c time room ≡ 0
unfolding write_time_number
time_written c time room h = sym (room_left (time_bytes c time) room h)

pub data_back : (l n : ℕ) (rec : List ℕ) → DataBack l n rec
unfolding DataBack
data_back l n rec e =
    let c = counter_after n in (
      data_written l c rec e,
      λ before rest. (at_place l n before _ _ (data_stands l c (length before) rec rest e), record_back l c before rec rest e),
    )

pub time_back : (n time : ℕ) → time < 2 ^ 32 → TimeBack n time
unfolding TimeBack
time_back n time h =
    let c = counter_after n in
    (time_written c time, λ l before rest. at_place l n before _ _ (time_stands l c (length before) time rest h))
