-- Every state of a run is sound; so each of its calls is one of the eight cases.
use Prim.Native.Nat.{ℕ, zero, suc, ◌≤◌, ◌<◌}
use mathlib.Core.Path.{◌≡◌, ap}
use mathlib.Core.Logic.{◌⊎◌, inl, inr}
use Rattle.bridge_rules.specs.State.{ready, slot, is_ready}
use Rattle.bridge_rules.specs.Turn.{aged}
use Rattle.bridge_rules.specs.Run.{Run, storage, state, buffers, answer, Lawful, accepted}
use Rattle.bridge_rules.proofs.NumberLaws.{RightLengths}
use Rattle.bridge_rules.proofs.SoundTest.{Sound}
use Rattle.bridge_rules.proofs.SoundStates.{fresh_sound}
use Rattle.bridge_rules.proofs.CallCases.{CallCase, call_case}
use Rattle.bridge_rules.proofs.KeepsSound.{case_sound}
use Rattle.bridge_rules.proofs.SlotEffects.{Served, Silent, ServedOther, Change, Effect, effect, distance, distance_small}
use Rattle.bridge_rules.proofs.Search.{contradiction}

-- what call n does to slot k
abbrev pub ChangeAt : Run → ℕ → ℕ → Type 0
ChangeAt r n k = Change (state r n) (state r (suc n)) (buffers r n) (buffers r (suc n)) (r.calls n) (answer r n) (accepted r n) k

abbrev pub EffectAt : Run → ℕ → ℕ → Type 0
EffectAt r n k = Effect (state r n) (state r (suc n)) (buffers r n) (buffers r (suc n)) (r.calls n) (answer r n) (accepted r n) k

-- a turn that served it, and one that did not
abbrev pub ServedAt : Run → ℕ → ℕ → Type 0
ServedAt r n k = Served (state r n) (state r (suc n)) (buffers r n) (buffers r (suc n)) (r.calls n) (answer r n) (accepted r n) k

abbrev pub UnservedAt : Run → ℕ → ℕ → Type 0
UnservedAt r n k =
    Silent (state r n) (state r (suc n)) (buffers r n) (buffers r (suc n)) (r.calls n) (answer r n) (accepted r n) k
    ⊎ ServedOther (state r n) (state r (suc n)) (buffers r n) (buffers r (suc n)) (r.calls n) (answer r n) (accepted r n) k

-- at most three slots are looked at before slot k
pub near : (r : Run) (n k : ℕ) → distance (state r n).last k ≤ 3
near r n k = distance_small (state r n).last k

-- a turn that does not serve it, though it is ready, comes nearer to it
pub nearer : (r : Run) (n k : ℕ) → UnservedAt r n k → (aged (slot (state r n) k)).phase ≡ ready
    → distance (state r (suc n)).last k < distance (state r n).last k
nearer r n k (inl u) q = contradiction (ap is_ready q) u.unready
nearer r n k (inr u) q = rw u.last (u.nearer (ap is_ready q))

module _ (r : Run) (w : Lawful r) where
  pub storage_sound : (n : ℕ) → Sound (state r n) × RightLengths (buffers r n)
  unfolding storage
  storage_sound zero = (fresh_sound r.own w.own, (w.first, w.second))
  storage_sound (suc n) =
      let h = storage_sound n in
      case_sound (state r n) (buffers r n) (r.calls n) h.0 h.1
      (call_case (state r n) (buffers r n) h.0 h.1 (r.calls n) (w.shaped n))

  pub case_at : (n : ℕ) → CallCase (state r n) (buffers r n) (r.calls n)
  case_at n = let h = storage_sound n in call_case (state r n) (buffers r n) h.0 h.1 (r.calls n) (w.shaped n)

  pub effect_at : (n k : ℕ) → k < 4 → EffectAt r n k
  unfolding storage accepted
  effect_at n k l = effect (state r n) (buffers r n) (r.calls n) (storage_sound n).0 k l (case_at n)
