-- A field's name, as the code cuts it.
use Prim.Native.Nat.{ℕ, ◌+◌, ◌-◌, ◌≤◌}
use mathlib.Core.Path.{◌≡◌, sym}
use mathlib.Core.List.{List}
use native.Mathlib.Omega.{arith}
use lib.ListN.{length, take, drop}
use lib.Seq.{take-take}
use Rattle.wire.specs.Text.{text_len}
use Rattle.wire.proofs.Texts.{text_most}
use Rattle.wire.proofs.Parts.{take_length_le}
use Rattle.listing_rules.specs.Text.{to_zero}
use Rattle.listing_rules.specs.Lines.{name_of}

pub name_short : (d : List ℕ) → text_len (take 34 (drop 1 d)) ≤ 34
name_short d = omega (arith, text_most (take 34 (drop 1 d)), take_length_le 34 (drop 1 d))

pub name_length : (d : List ℕ) → length (name_of d) ≤ 34
unfolding name_of to_zero
name_length d = omega (arith, name_short d, take_length_le (text_len (take 34 (drop 1 d))) (take 34 (drop 1 d)))

pub name_part : (d : List ℕ) (n : ℕ) → n ≡ text_len (take 34 (drop 1 d)) → take (1 + n - 1) (drop 1 d) ≡ name_of d
unfolding name_of to_zero
name_part d n e =
    let k : 1 + n - 1 ≡ text_len (take 34 (drop 1 d)) = omega arith in
    rw k (sym (take-take (text_len (take 34 (drop 1 d))) 34 (drop 1 d) (name_short d)))
