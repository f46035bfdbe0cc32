-- What a store into a buffer leaves alone, and what it writes; when bytes are the same.
use Prim.Native.Nat.{ℕ, zero, suc, ◌+◌, ◌*◌, ◌≤◌, ◌<◌}
use mathlib.Core.Path.{◌≡◌, refl, ◌∙◌, ap, ap₂}
use mathlib.Core.Bool.{true, false, false≢true}
use mathlib.Core.Logic.{◌≢◌}
use mathlib.Core.List.{List, [], ◌∷◌}
use native.Mathlib.Omega.{arith}
use native.Mathlib.Decide.{dec_lt}
use lib.ListN.{length, get_or, set, length-set}
use lib.Seq.{get_or-set_same, get_or-set_other, sets}
use borrow.Author.Tests.{eqb-true, eq-eqb}
use Rattle.bridge_rules.specs.Answers.{Buffers}
use Rattle.bridge_rules.specs.Incoming.{same_bytes}
use Rattle.bridge_rules.proofs.Search.{and-true, contradiction}

pub get_d_sets_below : (l : List ℕ) (i : ℕ) (vs : List ℕ) (j : ℕ) → j < i → get_or (sets l i vs) j 0 ≡ get_or l j 0
get_d_sets_below l i [] j h = refl
get_d_sets_below l i (a ∷ vs) j h = get_d_sets_below (set l i a) (suc i) vs j (omega arith) ∙ get_or-set_other l i j a 0 (λ z. omega arith)

pub get_d_sets_above : (l : List ℕ) (i : ℕ) (vs : List ℕ) (j : ℕ) → i + length vs ≤ j → get_or (sets l i vs) j 0 ≡ get_or l j 0
get_d_sets_above l i [] j h = refl
get_d_sets_above l i (a ∷ vs) j h = get_d_sets_above (set l i a) (suc i) vs j (omega arith) ∙ get_or-set_other l i j a 0 (λ z. omega arith)

pub get_d_sets_in : (l : List ℕ) (i : ℕ) (vs : List ℕ) (e : ℕ) → i + length vs ≤ length l → e < length vs
    → get_or (sets l i vs) (i + e) 0 ≡ get_or vs e 0
get_d_sets_in l i [] e h m = absurd (omega arith)
get_d_sets_in l i (a ∷ vs) zero h m =
    let z : i + 0 ≡ i = omega arith in
    rw z (get_d_sets_below (set l i a) (suc i) vs i (omega arith) ∙ get_or-set_same l i a 0 (omega arith))
get_d_sets_in l i (a ∷ vs) (suc e) h m =
    let z : i + suc e ≡ suc i + e = omega arith in
    rw z (get_d_sets_in (set l i a) (suc i) vs e (omega (arith, length-set l i a)) (omega arith))

-- slot k's part of the buffer is the same
abbrev pub SamePart : ℕ → List ℕ → List ℕ → Type 0
SamePart k b b' = (i : ℕ) → i < 128 → get_or b' (128 * k + i) 0 ≡ get_or b (128 * k + i) 0

pub sets_elsewhere : (k j : ℕ) (b vs : List ℕ) (p : ℕ) → k ≢ j → p + length vs ≤ 128 → SamePart k b (sets b (128 * j + p) vs)
sets_elsewhere k j b vs p d h i l = go (dec_lt k j)
  where
    go : Dec (k < j) → get_or (sets b (128 * j + p) vs) (128 * k + i) 0 ≡ get_or b (128 * k + i) 0
    go (yes q) = get_d_sets_below b (128 * j + p) vs (128 * k + i) (omega arith)
    go (no q) = let r : j < k = omega arith in get_d_sets_above b (128 * j + p) vs (128 * k + i) (omega arith)

-- of both buffers
abbrev pub SameParts : ℕ → Buffers → Buffers → Type 0
SameParts k b b' = SamePart k b.first b'.first × SamePart k b.second b'.second

pub same_part : (k : ℕ) {b b' : List ℕ} → b' ≡ b → SamePart k b b'
same_part k e i l = ap (λ (a : List ℕ). get_or a (128 * k + i) 0) e

pub same_parts : (k : ℕ) {b b' : Buffers} → b' ≡ b → SameParts k b b'
same_parts k e = (same_part k (ap (λ (a : Buffers). a.first) e), same_part k (ap (λ (a : Buffers). a.second) e))

-- ── the same bytes ─────────────────────────────────────────────────────────────────────────────────────────────────

pub same_bytes_lem : (a b : List ℕ) → same_bytes a b ≡ true → a ≡ b
unfolding same_bytes
same_bytes_lem [] [] e = refl
same_bytes_lem [] (y ∷ ys) e = absurd (false≢true e)
same_bytes_lem (x ∷ xs) [] e = absurd (false≢true e)
same_bytes_lem (x ∷ xs) (y ∷ ys) e = let h = and-true _ _ e in ap₂ ◌∷◌ (eqb-true x y h.0) (same_bytes_lem xs ys h.1)

pub bytes_same : (a : List ℕ) → same_bytes a a ≡ true
unfolding same_bytes
bytes_same [] = refl
bytes_same (x ∷ xs) = rw (eq-eqb x x refl) (bytes_same xs)

pub other_bytes : (a b : List ℕ) → same_bytes a b ≡ false → a ≢ b
other_bytes a b e q = contradiction (rw (← q) (bytes_same a)) e
