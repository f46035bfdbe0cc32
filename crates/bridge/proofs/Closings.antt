-- What a closing is where it is refused, and where it is not.
use Prim.Native.Nat.{ℕ}
use mathlib.Core.Path.{◌≡◌}
use mathlib.Core.Option.{some}
use lib.ListN.{set}
use borrow.Author.Tests.{ne_eqb}
use Rattle.std.specs.Prelude.{Ok, Err}
use Rattle.wire.specs.declared.refusal.Refusal.{Refusal}
use Rattle.wire.specs.Refusals.{code}
use Rattle.wire.proofs.RefusalLaws.{code_ne0}
use Rattle.bridge_rules.specs.declared.Bridge.{Bridge}
use Rattle.bridge_rules.specs.State.{blank, held_slot, with_slots}
use Rattle.bridge_rules.specs.Views.{as_changed}
use Rattle.bridge_rules.specs.Ending.{close_number, close_of}

module _ (s : Bridge) (t : ℕ) where
  pub close_refused : (e : Refusal) → code e ≡ close_number s t → as_changed (record { bridge = s; answer = Err e }) ≡ close_of s t
  unfolding close_of
  close_refused e h = rw (← h, ne_eqb (code e) 0 (code_ne0 e))

  pub close_frees : 0 ≡ close_number s t → (k : ℕ) → held_slot s t ≡ some k
      → as_changed (record { bridge = with_slots s (set s.slots k blank); answer = Ok tt }) ≡ close_of s t
  unfolding close_of
  close_frees h k q = rw (← h, q)
