-- The code's slots that age are the definition's.
use Prim.Native.Nat.{ℕ, zero, suc, ◌+◌, ◌-◌, ◌%◌, ◌≤◌, ◌<◌}
use mathlib.Core.Path.{◌≡◌, refl, ◌∙◌, ap}
use mathlib.Core.Bool.{false}
use mathlib.Core.List.{List, [], ◌∷◌, map}
use native.Mathlib.Omega.{arith}
use lib.ListN.{length, get_or, set}
use lib.Seq.{set-get_or}
use Rattle.bridge_rules.specs.declared.Slot.{Slot}
use Rattle.bridge_rules.specs.State.{is_waiting, blank}
use Rattle.bridge_rules.specs.Turn.{aged}
use Rattle.bridge.proofs.FourSlots.{four}
use Rattle.bridge.proofs.Searches.{fuel}

age_none : (x : Slot) → is_waiting x.phase ≡ false → x ≡ aged x
unfolding aged
age_none x e = rw e

-- one slot aged
abbrev aged_at : ℕ → List Slot → List Slot
aged_at k l = set l k (aged (get_or l k blank))

-- n slots aged one by one from `start` on, slot 0 after slot 3
unfoldable pub aged_on : ℕ → ℕ → List Slot → List Slot
aged_on zero start l = l
aged_on (suc n) start l = aged_on n (suc start) (aged_at (start % 4) l)

-- i slots on: the next is aged, or left as it is where it does not wait; after four, none is left to age
module _ (s i : ℕ) (l : List Slot) where
  pub ages : i < 4 → (y : Slot) → y ≡ aged (get_or l ((s + i) % 4) blank)
      → aged_on (4 - i) (s + i) l ≡ aged_on (4 - (i + 1)) (s + (i + 1)) (set l ((s + i) % 4) y)
  unfolding aged_on
  ages h y e =
      let z : suc (s + i) ≡ s + (i + 1) = omega arith in
      ap (λ (n : ℕ). aged_on n (s + i) l) (fuel i h) ∙ rw (e, ← z)

  pub stays : i < 4 → is_waiting (get_or l ((s + i) % 4) blank).phase ≡ false → aged_on (4 - i) (s + i) l ≡ aged_on (4 - (i + 1)) (s + (i + 1)) l
  stays h e = ages h _ (age_none _ e) ∙ ap (aged_on (4 - (i + 1)) (s + (i + 1))) (set-get_or l ((s + i) % 4) blank)

  pub none_left : 4 ≤ i → aged_on (4 - i) (s + i) l ≡ l
  unfolding aged_on
  none_left h = let z : 4 - i ≡ 0 = omega arith in ap (λ (n : ℕ). aged_on n (s + i) l) z

-- four slots aged in any order that a start gives
module _ (s : ℕ) (l : List Slot) where
  order : (i j k n : ℕ) → s % 4 ≡ i → suc s % 4 ≡ j → suc (suc s) % 4 ≡ k → suc (suc (suc s)) % 4 ≡ n
      → aged_on 4 s l ≡ aged_at n (aged_at k (aged_at j (aged_at i l)))
  unfolding aged_on
  order i j k n a b c d = rw (a, b, c, d)

aged_from : (s i : ℕ) (a b c d : Slot) → s % 4 ≡ i → aged_on 4 s (a ∷ b ∷ c ∷ d ∷ []) ≡ map aged (a ∷ b ∷ c ∷ d ∷ [])
aged_from s zero a b c d e = order s _ 0 1 2 3 e (omega arith) (omega arith) (omega arith)
aged_from s (suc zero) a b c d e = order s _ 1 2 3 0 e (omega arith) (omega arith) (omega arith)
aged_from s (suc (suc zero)) a b c d e = order s _ 2 3 0 1 e (omega arith) (omega arith) (omega arith)
aged_from s (suc (suc (suc zero))) a b c d e = order s _ 3 0 1 2 e (omega arith) (omega arith) (omega arith)
aged_from s (suc (suc (suc (suc i)))) a b c d e = absurd (omega arith)

pub aged_four : (s : ℕ) (l : List Slot) → length l ≡ 4 → aged_on 4 s l ≡ map aged l
aged_four s l h = rw (four blank l h) (aged_from s (s % 4) _ _ _ _ refl)
