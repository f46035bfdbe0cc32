-- Laws of the table of types.
use Prim.Native.Nat.{ℕ, zero, suc, max, ◌-◌, ◌≤◌}
use mathlib.Core.Path.{◌≡◌, refl, sym}
use mathlib.Core.List.{List, [], ◌∷◌}
use native.Mathlib.Omega.{arith}
use native.Mathlib.Nat.{le_trans, le-max_left, le-max_right}
use lib.ListN.{get_or, set, get_or-eq_default}
use lib.Seq.{get_or-set_other}
use Rattle.mlg_rules.specs.Types.{size_of, S64}

-- a number that is no type
pub size_none : (t : ℕ) → 13 ≤ t → 0 ≡ size_of t
unfolding size_of
size_none t h = sym (get_or-eq_default (1 ∷ 1 ∷ 2 ∷ 2 ∷ 4 ∷ 4 ∷ 8 ∷ 4 ∷ 0 ∷ 0 ∷ 1 ∷ 2 ∷ 4 ∷ []) 0 h)

pub size_gap : (t : ℕ) → 8 ≤ t → (10 ≤ t → 13 ≤ t) → size_of t ≡ 0
unfolding size_of
size_gap t h g =
    let e : suc (suc (suc (suc (suc (suc (suc (suc (t - 8)))))))) ≡ t = omega arith in
    rw e at (past (t - 8) (λ k. let j : 13 ≤ t = g (omega arith) in omega arith))
  where
    past : (n : ℕ) → (2 ≤ n → 5 ≤ n) → size_of (suc (suc (suc (suc (suc (suc (suc (suc n)))))))) ≡ 0
    past zero g = refl
    past (suc zero) g = refl
    past (suc (suc n)) g =
        let k : 5 ≤ suc (suc n) = g (omega arith) in
        sym (size_none (suc (suc (suc (suc (suc (suc (suc (suc (suc (suc n)))))))))) (omega arith))

-- the largest of a list
abbrev most : List ℕ → ℕ
most [] = 0
most (x ∷ l) = max x (most l)

entry : (l : List ℕ) (i : ℕ) → get_or l i 0 ≤ most l
entry [] i = omega arith
entry (x ∷ l) zero = le-max_left x (most l)
entry (x ∷ l) (suc i) = le_trans (entry l i) (le-max_right x (most l))

-- no type takes over eight bytes
pub size_most : (t : ℕ) → size_of t ≤ 8
unfolding size_of
size_most t = entry (1 ∷ 1 ∷ 2 ∷ 2 ∷ 4 ∷ 4 ∷ 8 ∷ 4 ∷ 0 ∷ 0 ∷ 1 ∷ 2 ∷ 4 ∷ []) t

-- every type but S64 takes at most four bytes
pub size_plain : (t : ℕ) → (t ≡ S64 → ⊥) → size_of t ≤ 4
unfolding size_of
size_plain t h =
    let l : List ℕ = 1 ∷ 1 ∷ 2 ∷ 2 ∷ 4 ∷ 4 ∷ 8 ∷ 4 ∷ 0 ∷ 0 ∷ 1 ∷ 2 ∷ 4 ∷ [] in
    rw (← get_or-set_other l 6 t 0 0 h) (entry (set l 6 0) t)

-- the size of a known type
pub size_at_lem : (t k m : ℕ) → t ≡ k → size_of k ≡ m → size_of t ≡ m
size_at_lem t k m e s = rw e s
