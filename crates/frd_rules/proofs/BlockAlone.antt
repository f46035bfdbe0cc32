-- What is read of a whole block does not change with what follows it.
use Prim.Native.Nat.{ℕ, ◌<◌, ◌≤◌}
use mathlib.Core.Path.{◌≡◌, sym, ap, ◌∙◌}
use mathlib.Core.List.{List, ◌++◌}
use native.Mathlib.Omega.{arith}
use lib.ListN.{length, length-append, get_or-append}
use Rattle.wire.proofs.Parts.{part_append}
use Rattle.frd_rules.specs.Block.{block_len, type_in, found_of, block_of}
use Rattle.frd_rules.specs.RoundTrip.{BlockAlone}
use Rattle.frd_rules.specs.declared.Block.TheVariants.{Refused}
use Rattle.frd_rules.proofs.BlockLaws.{BlockType, is_data, is_time, is_none, block_type, data_len, time_len, no_len}
use Rattle.frd_rules.proofs.BlockLaws.{block_stands, block_refused, rest_unknown, rest_whole, found_data, found_time}

module _ (l c at : ℕ) (t rest : List ℕ) (some : 0 < length t) (whole : block_len l (type_in t) ≤ length t) where
  type_same : type_in (t ++ rest) ≡ type_in t
  type_same = get_or-append t rest 0 0 some

  first : length t ≡ 0 → ⊥
  first z = omega arith

  first_more : length (t ++ rest) ≡ 0 → ⊥
  first_more z = omega (arith, length-append t rest)

  -- an unknown type is refused by the first byte
  unknown : (s : List ℕ) → (length s ≡ 0 → ⊥) → block_len l (type_in s) ≡ 0 → Refused 25 at ≡ block_of l c at s
  unfolding block_of
  unknown s h e = block_refused _ at _ 25 (rest_unknown l s h e) (λ z. omega arith)

  -- where both are whole, the block is the same
  same : (block_len l (type_in t) ≡ 0 → ⊥) → found_of c at (t ++ rest) ≡ found_of c at t → block_of l c at (t ++ rest) ≡ block_of l c at t
  unfolding block_of
  same k e =
      let a = rest_whole l t first k (omega arith) in
      let b = rest_whole l (t ++ rest) first_more (rw type_same k) (rw type_same (omega (arith, length-append t rest))) in
      block_stands _ at _ (sym b) ∙ e ∙ sym (block_stands _ at _ (sym a))

  by : BlockType (type_in t) → block_of l c at (t ++ rest) ≡ block_of l c at t
  by (is_data e) =
      let n = data_len l (type_in t) e in
      same (λ z. omega arith)
      (found_data c at (t ++ rest) first_more (type_same ∙ e)
      ∙ (rw (get_or-append t rest 0 1 (omega arith)))
      ∙ sym (found_data c at t first e))
  by (is_time e) =
      let n = time_len l (type_in t) e in
      same (λ z. omega arith)
      (found_time c at (t ++ rest) first_more (λ z. omega (arith, type_same))
      ∙ (rw (get_or-append t rest 0 1 (omega arith), part_append 4 2 t rest (omega arith)))
      ∙ sym (found_time c at t first (λ z. omega arith)))
  by (is_none a b) =
      let n = no_len l (type_in t) a b in
      sym (unknown (t ++ rest) first_more (ap (block_len l) type_same ∙ n)) ∙ unknown t first n

pub block_alone : BlockAlone
unfolding BlockAlone
block_alone l c at t rest some whole = by l c at t rest some whole (block_type (type_in t))
