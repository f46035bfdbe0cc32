-- A header that was written reads back as given, whatever follows.
use Prim.Native.Nat.{ℕ, ◌^◌, ◌≤◌, ◌<◌}
use mathlib.Core.Path.{◌≡◌, refl, sym, ap, ◌∙◌}
use mathlib.Core.List.{List, ◌++◌, append_assoc}
use native.Mathlib.Omega.{arith}
use borrow.Author.Tests.{eq-eqb, le-ltb}
use lib.ListN.{length, take, drop, length-append}
use lib.Seq.{take_at, drop_at, drop-drop}
use Rattle.std.proofs.Common.{Ok}
use Rattle.wire.specs.BigEndian.{be_of, be_at, be_bytes}
use Rattle.wire.specs.Log.{Holds}
use Rattle.wire.proofs.Numbers.{be_back}
use Rattle.wire.proofs.Orders.{if_no, not_no}
use Rattle.wire.proofs.RefusalLaws.{stands}
use Rattle.frd_rules.specs.Header.{header_len, signature_len, name, version, numbers_of, signature_in, read_header_number, read_header_of, read_signature_of}
use Rattle.frd_rules.specs.Writing.{header_bytes, write_header_number}
use Rattle.frd_rules.specs.RoundTrip.{header_for, HeaderBack}
use Rattle.frd_rules.proofs.HeaderLaws.{signature_holds}
use Rattle.frd_rules.proofs.WritingLaws.{room_left}

-- what is writable is written where there is room
header_written : (time : ℕ) (signature : List ℕ) (l : ℕ) → length signature ≡ signature_len → (room : ℕ)
    → length (header_bytes time signature l) ≤ room → write_header_number time signature l room ≡ 0
unfolding write_header_number
header_written time signature l e room h =
    sym (if_no 23 _ _ 0 (not_no _ (eq-eqb _ _ e)) (room_left (header_bytes time signature l) room h))

-- a header's bytes and what follows them, part by part
abbrev pub header_then : ℕ → List ℕ → ℕ → List ℕ → List ℕ
header_then time signature l rest =
    name ++ (be_bytes 2 version ++ (be_bytes 4 time ++ (signature ++ (be_bytes 4 header_len ++ (be_bytes 2 l ++ rest)))))

pub header_list : (time : ℕ) (signature : List ℕ) (l : ℕ) (rest : List ℕ)
    → header_bytes time signature l ++ rest ≡ header_then time signature l rest
unfolding header_bytes
header_list time signature l rest = simp append_assoc

module _ (time : ℕ) (signature : List ℕ) (l : ℕ) (small : time < 2 ^ 32) (size : l < 2 ^ 16) (whole : length signature ≡ signature_len) (rest : List ℕ) where
  abbrev file : List ℕ
  file = header_then time signature l rest

  after_signature : drop 75 file ≡ be_bytes 4 header_len ++ (be_bytes 2 l ++ rest)
  after_signature = drop_at signature (be_bytes 4 header_len ++ (be_bytes 2 l ++ rest)) signature_len whole

  after_begin : drop 79 file ≡ be_bytes 2 l ++ rest
  after_begin = sym (drop-drop 4 75 file) ∙ ap (drop 4) after_signature

  numbers_back : numbers_of file ≡ header_for time l
  unfolding numbers_of
  numbers_back =
      let t : be_at 4 file 8 ≡ time = be_back 4 time small in
      let b : be_at 4 file 75 ≡ header_len = ap (λ (s : List ℕ). be_of (take 4 s)) after_signature in
      let s : be_at 2 file 79 ≡ l = ap (λ (s : List ℕ). be_of (take 2 s)) after_begin ∙ be_back 2 l size in
      rw (t, b, s)

  none : 0 ≡ read_header_number file
  unfolding read_header_number
  none =
      let k : header_len ≤ length file = omega (arith, length-append signature (be_bytes 4 header_len ++ (be_bytes 2 l ++ rest))) in
      rw numbers_back
      (if_no 20 _ _ 0 (le-ltb (length file) header_len k)
      (if_no 21 _ _ 0 (not_no _ refl)
      (if_no 22 _ _ 0 (not_no _ (eq-eqb version version refl))
      (if_no 23 _ _ 0 (not_no _ (eq-eqb header_len header_len refl)) refl))))

  head_is : read_header_of file ≡ Ok (header_for time l)
  unfolding read_header_of
  head_is = sym (stands _ _ _ (sym none) (sym numbers_back))

  signature_is : signature_in file ≡ signature
  unfolding signature_in
  signature_is = take_at signature (be_bytes 4 header_len ++ (be_bytes 2 l ++ rest)) signature_len whole

  header_read : let f = header_bytes time signature l ++ rest in
      (read_header_of f ≡ Ok (header_for time l)) × Holds f (read_signature_of f) signature
  header_read = rw (header_list time signature l rest) (head_is, signature_holds file signature (sym none) signature_is)

pub header_back : (time : ℕ) (signature : List ℕ) (l : ℕ) → time < 2 ^ 32 → l < 2 ^ 16 → HeaderBack time signature l
unfolding HeaderBack
header_back time signature l t s e = (header_written time signature l e, λ rest. header_read time signature l t s e rest)
