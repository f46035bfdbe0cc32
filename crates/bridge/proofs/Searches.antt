-- What the code has of a search for a slot.
use Prim.Native.Nat.{ℕ, zero, suc, ◌+◌, ◌-◌, ◌%◌, ◌<◌}
use mathlib.Core.Path.{◌≡◌, refl, sym, ◌∙◌, ap}
use mathlib.Core.Bool.{Bool, true, false, cond}
use mathlib.Core.List.{List, [], ◌∷◌}
use mathlib.Core.Option.{Option, none, some}
use native.Mathlib.Omega.{arith}
use native.Mathlib.Numerals.{add-one}
use lib.ListN.{length, get_or}
use Rattle.std.specs.List.{position, zip}
use Rattle.std.specs.Prelude as found
use Rattle.std.specs.Prelude.{Some, None, Ok, ok_or}
use Rattle.wire.specs.declared.refusal.Refusal.{Refusal}
use Rattle.bridge_rules.specs.declared.Bridge.{Bridge}
use Rattle.bridge_rules.specs.declared.Slot.{Slot}
use Rattle.bridge_rules.specs.State.{is_ready, blank, slot, first_slot, next_ready, lowest_givable, held_slot, Frame}
use Rattle.bridge_rules.specs.Views.{as_found}
use Rattle.bridge_rules.specs.Incoming.{awaiting}
use Rattle.bridge.proofs.FourSlots.{four}

-- ── The first of four that passes a test ───────────────────────────────────────────────────────────────────────────

by_tests : (a b c d : Bool)
    → as_found (position (λ (x : Bool). x) (a ∷ b ∷ c ∷ d ∷ [])) ≡ first_slot (λ k. get_or (a ∷ b ∷ c ∷ d ∷ []) k false) 0 4
unfolding first_slot
by_tests true b c d = refl
by_tests false true c d = refl
by_tests false false true d = refl
by_tests false false false true = refl
by_tests false false false false = refl

pub first_of_four : {A : Type 0} (p : A → Bool) (d : A) (l : List A) → length l ≡ 4
    → as_found (position p l) ≡ first_slot (λ k. p (get_or l k d)) 0 4
unfolding first_slot
first_of_four p d l h =
    rw (four d l h) (by_tests (p (get_or l 0 d)) (p (get_or l 1 d)) (p (get_or l 2 d)) (p (get_or l 3 d)))

-- the same of four pairs
pub first_of_both : {A B : Type 0} (p : A → B → Bool) (d : A) (e : B) (l : List A) (m : List B) → length l ≡ 4 → length m ≡ 4
    → as_found (position (λ (x : A × B). p x.0 x.1) (zip l m)) ≡ first_slot (λ k. p (get_or l k d) (get_or m k e)) 0 4
unfolding first_slot
first_of_both p d e l m g h = rw (four d l g, four e m h) (by_tests (p (get_or l 0 d) (get_or m 0 e)) (p (get_or l 1 d) (get_or m 1 e))
    (p (get_or l 2 d) (get_or m 2 e)) (p (get_or l 3 d) (get_or m 3 e)))

-- ── The search for a ready slot ────────────────────────────────────────────────────────────────────────────────────

abbrev pub ready_in : List Slot → ℕ → Bool
ready_in l k = is_ready (get_or l k blank).phase

pub fuel : (i : ℕ) → i < 4 → 4 - i ≡ suc (4 - (i + 1))
fuel i h = omega arith

-- a search i slots on: it goes on past a slot that fails the test, stops at one that passes, and ends
module _ (p : ℕ → Bool) (s i : ℕ) where
  pub misses : i < 4 → p ((s + i) % 4) ≡ false → first_slot p (s + i) (4 - i) ≡ first_slot p (s + (i + 1)) (4 - (i + 1))
  unfolding first_slot
  misses h e =
      let z : suc (s + i) ≡ s + (i + 1) = omega arith in
      ap (first_slot p (s + i)) (fuel i h) ∙ rw (e, z)

  pub hits : i < 4 → p ((s + i) % 4) ≡ true → first_slot p (s + i) (4 - i) ≡ some ((s + i) % 4)
  unfolding first_slot
  hits h e = ap (first_slot p (s + i)) (fuel i h) ∙ rw e

  pub ends : i ≡ 4 → first_slot p (s + i) (4 - i) ≡ none
  unfolding first_slot
  ends e = let z : 4 - i ≡ 0 = omega arith in ap (first_slot p (s + i)) z

-- the whole search
pub whole : (b : Bridge) → next_ready b ≡ first_slot (ready_in b.slots) (b.last + 1) 4
unfolding next_ready slot
whole b = ap (λ (n : ℕ). first_slot (ready_in b.slots) n 4) (sym (add-one b.last))

-- what a search found that is not refused
pub found_at : (o : found.Option ℕ) (e : Refusal) (k : ℕ) → Ok k ≡ ok_or o e → as_found o ≡ some k
found_at None e k q = let z : ◌≡◌ {A = ℕ} 0 1 = cc in absurd (omega arith)
found_at (Some j) e k q = let z : j ≡ k = cc in ap some z

-- ── What is found is one of the four ───────────────────────────────────────────────────────────────────────────────

abbrev pub Small : Option ℕ → Type 0
Small none = Unit {0}
Small (some k) = k < 4

small_first : (p : ℕ → Bool) (start fuel : ℕ) → Small (first_slot p start fuel)
unfolding first_slot
small_first p start zero = tt
small_first p start (suc fuel) = go (p (start % 4)) (small_first p (suc start) fuel)
  where
    go : (b : Bool) → Small (first_slot p (suc start) fuel) → Small (cond b (some (start % 4)) (first_slot p (suc start) fuel))
    go true h = omega arith
    go false h = h

is_small : (o : Option ℕ) (k : ℕ) → Small o → o ≡ some k → k < 4
is_small none k m e = let z : ◌≡◌ {A = ℕ} 0 1 = cc in absurd (omega arith)
is_small (some j) k m e = let z : j ≡ k = cc in omega (arith, z, m)

pub givable_small : (s : Bridge) (k : ℕ) → lowest_givable s ≡ some k → k < 4
unfolding lowest_givable
givable_small s k e = is_small _ k (small_first _ 0 4) e

pub held_small : (s : Bridge) (t k : ℕ) → held_slot s t ≡ some k → k < 4
unfolding held_slot
held_small s t k e = is_small _ k (small_first _ 0 4) e

pub ready_small : (s : Bridge) (k : ℕ) → next_ready s ≡ some k → k < 4
unfolding next_ready
ready_small s k e = is_small _ k (small_first _ (suc s.last) 4) e

pub awaiting_small : (s : Bridge) (f : Frame) (k : ℕ) → awaiting s f ≡ some k → k < 4
unfolding awaiting
awaiting_small s f k e = is_small _ k (small_first _ 0 4) e
