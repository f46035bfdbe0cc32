-- A whole block does not depend on what follows it.
use Prim.Native.Nat.{ℕ, zero, suc, ◌+◌, ◌≤◌}
use mathlib.Core.Path.{◌≡◌, refl, sym, ap, ◌∙◌}
use mathlib.Core.List.{List, ◌++◌}
use native.Mathlib.Omega.{arith}
use native.Mathlib.Nat.{le_trans}
use borrow.Author.Tests.{le-ltb, eq-eqb}
use lib.ListN.{length, length-append, get_or-append}
use Rattle.wire.proofs.Orders.{if_yes}
use Rattle.wire.proofs.Parts.{part_append}
use Rattle.wire.specs.Log.{judged}
use Rattle.mlg_rules.specs.Block.{block_len, type_in, last_of, rest_number, parts_of}
use Rattle.mlg_rules.specs.RoundTrip.{BlockAlone}
use Rattle.mlg_rules.specs.declared.Block.TheVariants.{Refused}
use Rattle.mlg_rules.proofs.BlockLaws.{block_here}

module _ (l : ℕ) (t r : List ℕ) where
  longer : length t ≤ length (t ++ r)
  longer = omega (arith, length-append t r)

  last_alone : (k : ℕ) → (block_len l k ≡ 0 → ⊥) → block_len l k ≤ length t → last_of k l (t ++ r) ≡ last_of k l t
  unfolding last_of block_len
  last_alone zero e h = rw (part_append l 4 t r (omega arith), get_or-append t r 0 (l + 4) (omega arith))
  last_alone (suc zero) e h = rw (part_append 50 4 t r h)
  last_alone (suc (suc k)) e h = absurd (e refl)

  parts_alone : (k c at : ℕ) → (block_len l k ≡ 0 → ⊥) → block_len l k ≤ length t → parts_of k c at (t ++ r) ≡ parts_of k c at t
  unfolding parts_of block_len
  parts_alone zero c at e h = rw (get_or-append t r 0 1 (omega arith), part_append 2 2 t r (omega arith))
  parts_alone (suc zero) c at e h = rw (get_or-append t r 0 1 (omega arith), part_append 2 2 t r (omega arith), part_append 50 4 t r h)
  parts_alone (suc (suc k)) c at e h = absurd (e refl)

  -- a type that is unknown
  unknown : (s : List ℕ) (n : ℕ) → block_len l (type_in s) ≡ n → n ≡ 0 → rest_number l s ≡ 25
  unfolding rest_number
  unknown s n e z = sym (if_yes 25 _ _ (eq-eqb _ _ (e ∙ z)))

  module _ (first : type_in (t ++ r) ≡ type_in t) where
    number_alone : (block_len l (type_in t) ≡ 0 → ⊥) → block_len l (type_in t) ≤ length t → rest_number l (t ++ r) ≡ rest_number l t
    unfolding rest_number
    number_alone e h =
        rw (
          first,
          last_alone (type_in t) e h,
          le-ltb (length (t ++ r)) (block_len l (type_in t)) (le_trans h longer),
          le-ltb (length t) (block_len l (type_in t)) h,
        )

    judged_alone : (n c at : ℕ) → block_len l (type_in t) ≡ n → block_len l (type_in t) ≤ length t
        → judged Refused (rest_number l (t ++ r)) at (parts_of (type_in (t ++ r)) c at (t ++ r))
        ≡ judged Refused (rest_number l t) at (parts_of (type_in t) c at t)
    unfolding judged
    judged_alone zero c at e h = rw (unknown (t ++ r) 0 (ap (block_len l) first ∙ e) refl, unknown t 0 e refl)
    judged_alone (suc n) c at e h =
        let k : block_len l (type_in t) ≡ 0 → ⊥ = λ z. omega arith in
        rw (number_alone k h, first, parts_alone (type_in t) c at k h)

pub block_alone : BlockAlone
unfolding BlockAlone
block_alone l c at t r p h =
    block_here l c at (t ++ r) (λ z. omega (arith, length-append t r))
    ∙ judged_alone l t r (get_or-append t r 0 0 p) _ c at refl h
    ∙ sym (block_here l c at t (λ z. omega arith))
