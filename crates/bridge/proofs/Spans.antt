-- Where a done read's bytes lie: the code's span is the definition's, and lies within the buffer.
use Prim.Native.Nat.{ℕ, ◌+◌, ◌*◌, ◌≤◌}
use mathlib.Core.Path.{◌≡◌, sym}
use mathlib.Core.Bool.{Bool, true, false, cond}
use mathlib.Core.Option.{some}
use native.Mathlib.Omega.{arith}
use borrow.Author.Tests.{ne_eqb, eqb-true, not-false}
use Rattle.std.specs.Prelude.{Err}
use Rattle.wire.specs.declared.refusal.Refusal.{Refusal}
use Rattle.wire.specs.Refusals.{code}
use Rattle.wire.specs.Log.{as_span}
use Rattle.wire.proofs.Orders.{if_zero}
use Rattle.wire.proofs.RefusalLaws.{code_ne0}
use Rattle.bridge_rules.specs.declared.Bridge.{Bridge}
use Rattle.bridge_rules.specs.State.{slot, held_slot, sound, shows}
use Rattle.bridge_rules.specs.Ending.{bytes_number, slot_span, span_of, no_span}
use Rattle.bridge_rules.proofs.SlotOk.{count_few}
use Rattle.bridge_rules.proofs.SoundTest.{true_sound}
use Rattle.bridge.proofs.Searches.{held_small}

module _ (s : Bridge) (n t : ℕ) where
  pub span_refused : (e : Refusal) → code e ≡ bytes_number s n t → as_span (Err e) ≡ span_of s n t
  unfolding span_of
  span_refused e h = rw (← h, ne_eqb (code e) 0 (code_ne0 e))

  module _ (e : 0 ≡ bytes_number s n t) (k : ℕ) (q : held_slot s t ≡ some k) where
    pub span_is : slot_span s k ≡ span_of s n t
    unfolding span_of
    span_is = rw (← e, q)

    bytes_lent : (sound s ≡ true) × (n ≡ 512)
    unfolding bytes_number
    bytes_lent =
        let h1 = if_zero 10 _ _ (sym e) in
        let h2 = if_zero 9 _ _ h1.1 in
        (not-false _ h1.0, eqb-true _ _ (not-false _ h2.0))

    -- it lies within the buffer
    pub span_fits : (slot_span s k).start + (slot_span s k).len ≤ n
    unfolding slot_span
    span_fits = go (shows (slot s k).kind)
      where
        few : (slot s k).count ≤ 128
        few = count_few (slot s k) ((true_sound s bytes_lent.0).each k (held_small s t k q))

        go : (b : Bool) → (cond b (record { number = 0; start = 128 * k; len = (slot s k).count }) (no_span 0)).start
            + (cond b (record { number = 0; start = 128 * k; len = (slot s k).count }) (no_span 0)).len ≤ n
        go true = omega (arith, few, held_small s t k q, bytes_lent.1)
        go false = omega arith
