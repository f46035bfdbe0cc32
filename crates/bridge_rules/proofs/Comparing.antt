-- What the test `differs` says of a reply and the second buffer.
use Prim.Native.Nat.{ℕ, ◌+◌, ◌*◌}
use mathlib.Core.Path.{◌≡◌}
use mathlib.Core.Logic.{◌≢◌}
use mathlib.Core.List.{List}
use mathlib.Core.Bool.{true, false}
use lib.ListN.{take, drop}
use borrow.Author.Tests.{not-true, not-false}
use Rattle.bus_rules.specs.Frames.{content}
use Rattle.bridge_rules.specs.State.{Frame, Slot, compares}
use Rattle.bridge_rules.specs.Incoming.{differs}
use Rattle.bridge_rules.proofs.BufferParts.{same_bytes_lem, other_bytes}
use Rattle.bridge_rules.proofs.Search.{and-true}

-- what the second buffer has at the reply's place
abbrev pub sent_there : ℕ → Slot → List ℕ → Frame → List ℕ
sent_there k x second f = take f.len (drop (128 * k + x.progress) second)

module _ (k : ℕ) (x : Slot) (second : List ℕ) (f : Frame) where
  pub differs_compares : differs k x second f ≡ true → compares x.kind ≡ true
  unfolding differs
  differs_compares e = (and-true _ _ e).0

  pub differs_other : differs k x second f ≡ true → content f ≢ sent_there k x second f
  unfolding differs
  differs_other e = other_bytes _ _ (not-true _ (and-true (compares x.kind) _ e).1)

  pub agrees_same : compares x.kind ≡ true → differs k x second f ≡ false → content f ≡ sent_there k x second f
  unfolding differs
  agrees_same c e = same_bytes_lem _ _ (not-false _ (rw c at e))
