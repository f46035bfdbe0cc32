-- Counting accepted turns.
use Prim.Native.Nat.{ℕ, zero, suc, ◌+◌, ◌≤◌, ◌<◌}
use mathlib.Core.Path.{◌≡◌, refl}
use mathlib.Core.Logic.{◌⊎◌, inl, inr}
use mathlib.Core.Bool.{Bool, true, false, cond, ◌&&◌}
use native.Mathlib.Omega.{arith}
use native.Mathlib.Decide.{dec_le}
use lib.Dec.{ltb}
use borrow.Author.Tests.{lt-ltb, le-ltb}
use Rattle.bridge_rules.specs.Run.{Run, accepted, turns}
use Rattle.bridge_rules.proofs.Search.{cases}

pub turns_same : (r : Run) (j n : ℕ) → accepted r n ≡ false → turns r j (suc n) ≡ turns r j n
unfolding turns
turns_same r j n e = rw e (go (ltb j n))
  where
    go : (b : Bool) → turns r j n + cond (b && false) 1 0 ≡ turns r j n
    go true = omega arith
    go false = omega arith

pub turns_more : (r : Run) (j n : ℕ) → accepted r n ≡ true → j < n → turns r j (suc n) ≡ suc (turns r j n)
unfolding turns
turns_more r j n e l = rw (e, lt-ltb j n l) (omega arith)

pub turns_none : (r : Run) (j n : ℕ) → n ≤ suc j → turns r j n ≡ 0
unfolding turns
turns_none r j zero h = refl
turns_none r j (suc n) h = rw (turns_none r j n (omega arith), le-ltb j n (omega arith))

pub turns_step : (r : Run) (j n : ℕ) → (turns r j n ≤ turns r j (suc n)) × (turns r j (suc n) ≤ suc (turns r j n))
unfolding turns
turns_step r j n = go (ltb j n && accepted r n)
  where
    go : (b : Bool) → (turns r j n ≤ turns r j n + cond b 1 0) × (turns r j n + cond b 1 0 ≤ suc (turns r j n))
    go true = (omega arith, omega arith)
    go false = (omega arith, omega arith)

pub turns_mono : (r : Run) (j m n : ℕ) → m ≤ n → turns r j m ≤ turns r j n
turns_mono r j m zero h = let e : m ≡ 0 = omega arith in rw e (omega arith)
turns_mono r j m (suc n) h = go (turns_mono r j m n) (dec_le m n)
  where
    go : (m ≤ n → turns r j m ≤ turns r j n) → Dec (m ≤ n) → turns r j m ≤ turns r j (suc n)
    go ih (yes p) = omega (arith, ih p, (turns_step r j n).0)
    go ih (no p) = let e : m ≡ suc n = omega arith in rw e (omega arith)

-- turns since a are those up to j, and those since j
pub turns_split : (r : Run) (a j n : ℕ) → a ≤ j → turns r a n ≤ turns r a (suc j) + turns r j n
turns_split r a j zero l = omega (arith, turns_none r a zero (omega arith))
turns_split r a j (suc n) l = go (turns_split r a j n l) (dec_le n j) (cases (accepted r n))
  where
    go : turns r a n ≤ turns r a (suc j) + turns r j n → Dec (n ≤ j) → (accepted r n ≡ true) ⊎ (accepted r n ≡ false)
        → turns r a (suc n) ≤ turns r a (suc j) + turns r j (suc n)
    go ih (yes p) b = omega (arith, turns_mono r a (suc n) (suc j) (omega arith))
    go ih (no p) (inl b) = omega (arith, ih, turns_more r a n b (omega arith), turns_more r j n b (omega arith))
    go ih (no p) (inr b) = omega (arith, ih, turns_same r a n b, turns_same r j n b)
