-- What a turn is where it is refused, where no slot is ready, and where one sends.
use Prim.Native.Nat.{ℕ, suc}
use mathlib.Core.Path.{◌≡◌}
use mathlib.Core.Bool.{true}
use mathlib.Core.Option.{none, some}
use borrow.Author.Tests.{ne_eqb}
use Rattle.std.specs.Prelude.{Ok, Err, None}
use Rattle.wire.specs.declared.refusal.Refusal.{Refusal}
use Rattle.wire.specs.Refusals.{code}
use Rattle.wire.proofs.RefusalLaws.{code_ne0}
use Rattle.bridge_rules.specs.declared.Bridge.{Bridge}
use Rattle.bridge_rules.specs.State.{slot, sound, is_ready, next_ready}
use Rattle.bridge_rules.specs.Answers.{Buffers, right_lengths, lent_number, stepped_of}
use Rattle.bridge_rules.specs.Views.{as_stepped}
use Rattle.bridge_rules.specs.Turn.{aged_bridge, turn_of, send_for}
use Rattle.bridge_rules.proofs.Search.{search_some}
use Rattle.bridge_rules.proofs.SoundTest.{true_sound, sound_true}
use Rattle.bridge_rules.proofs.SoundStates.{aged_sound}

module _ (s : Bridge) (b : Buffers) where
  pub turn_refused : (e : Refusal) → code e ≡ lent_number s (right_lengths b)
      → as_stepped (record { bridge = s; answer = Err e }) ≡ stepped_of (turn_of s b)
  unfolding turn_of stepped_of
  turn_refused e h = rw (← h, ne_eqb (code e) 0 (code_ne0 e))

  pub turn_goes : 0 ≡ lent_number s (right_lengths b)
      → stepped_of (send_for (aged_bridge s) b (next_ready (aged_bridge s))) ≡ stepped_of (turn_of s b)
  unfolding turn_of
  turn_goes h = rw (← h)

  pub turn_idles : (a : Bridge) → a ≡ aged_bridge s → none ≡ next_ready a
      → as_stepped (record { bridge = a; answer = Ok None }) ≡ stepped_of (send_for (aged_bridge s) b (next_ready (aged_bridge s)))
  unfolding stepped_of send_for
  turn_idles a q z = rw (← q, ← z)

-- what is known of the slot that sends
module _ (s a : Bridge) (h : sound s ≡ true) (q : a ≡ aged_bridge s) (k : ℕ) (z : next_ready a ≡ some k) where
  pub turn_sound : sound a ≡ true
  turn_sound = rw q (sound_true (aged_bridge s) (aged_sound s (true_sound s h)))

  pub turn_ready : is_ready (slot a k).phase ≡ true
  unfolding next_ready
  turn_ready = (search_some _ (suc a.last) 4 k z).passes
